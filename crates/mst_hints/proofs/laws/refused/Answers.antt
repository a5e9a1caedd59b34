use Rattle.mst_hints.proofs.Refused.{line_hinted}
use Rattle.mst_hints.proofs.laws.refused.Goals as goal

pub returns : goal.returns
returns c = line_hinted
