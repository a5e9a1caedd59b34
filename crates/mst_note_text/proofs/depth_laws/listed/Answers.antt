use Rattle.mst_note_text.proofs.Listed.{forest, internal, external}
use Rattle.mst_note_text.proofs.depth_laws.listed.Goals as goal

pub returns-clause-forest : goal.returns-clause-forest
returns-clause-forest g c = λ f tests ok i bridge parents list. forest f tests ok bridge parents i list

pub returns-clause-internal : goal.returns-clause-internal
returns-clause-internal g c = λ f tests ok i bridge parents list n d low h. internal f tests ok bridge parents i list n d low h

pub returns-clause-external : goal.returns-clause-external
returns-clause-external g c = λ f tests ok bridge parents list n d low h. external f tests ok bridge parents list n d low h
