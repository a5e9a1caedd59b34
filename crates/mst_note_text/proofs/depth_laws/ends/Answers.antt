use Rattle.mst_note_text.proofs.Tops.{ends_regional, ends_msti, ends_cist}
use Rattle.mst_note_text.proofs.depth_laws.ends.Goals as goal

pub returns-clause-regional : goal.returns-clause-regional
returns-clause-regional g c = λ f tests ok n x d depth is. ends_regional f tests ok n x d depth is

pub returns-clause-msti : goal.returns-clause-msti
returns-clause-msti g c = λ f tests ok i n x d depth is. ends_msti f tests ok i n x d depth is

pub returns-clause-cist : goal.returns-clause-cist
returns-clause-cist g c = λ f tests ok n x d depth is. ends_cist f tests ok n x d depth is
