use Rattle.mst_note_text.proofs.Tops.{internal_depth, one_internal_depth, external_depth, one_external_depth}
use Rattle.mst_note_text.proofs.depth_laws.depths.Goals as goal

pub returns-clause-internal : goal.returns-clause-internal
returns-clause-internal g c = λ f tests ok i n has. internal_depth f tests ok i n has

pub returns-clause-one_internal : goal.returns-clause-one_internal
returns-clause-one_internal g c = λ f tests ok i n d e x y. one_internal_depth f tests ok i n d e x y

pub returns-clause-external : goal.returns-clause-external
returns-clause-external g c = λ f tests ok n b has. external_depth f tests ok n b has

pub returns-clause-one_external : goal.returns-clause-one_external
returns-clause-one_external g c = λ f tests ok n d e x y. one_external_depth f tests ok n d e x y
