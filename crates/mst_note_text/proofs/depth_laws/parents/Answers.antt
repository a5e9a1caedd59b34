use Rattle.mst_note_text.proofs.Regions.{one_parent_in, parent_sides, msti_region}
use Rattle.mst_note_text.proofs.Heights.{falls}
use Rattle.mst_note_text.proofs.depth_laws.parents.Goals as goal

pub returns-clause-one : goal.returns-clause-one
returns-clause-one g c = λ f tests ok i n k j p q. one_parent_in f tests ok i n k j p q

pub returns-clause-sides : goal.returns-clause-sides
returns-clause-sides g c = λ f tests ok n k p. parent_sides f tests ok n k p

pub returns-clause-regions : goal.returns-clause-regions
returns-clause-regions g c = λ f tests ok i n k p. msti_region f tests ok i n k p

pub returns-clause-falls : goal.returns-clause-falls
returns-clause-falls g c = λ f tests ok i. falls f tests ok i
