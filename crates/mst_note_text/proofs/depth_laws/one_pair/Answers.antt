use Rattle.mst_note_text.proofs.Steps.{one_pair}
use Rattle.mst_note_text.proofs.depth_laws.one_pair.Goals as goal

pub returns : goal.returns
returns c = λ parents n d e x y. one_pair parents n d e x y
