use Rattle.mst_policy_hints.proofs.Hinted.{line_hinted}
use Rattle.mst_policy_hints.proofs.laws.hinted.Goals as goal

pub returns : goal.returns
returns c = line_hinted
