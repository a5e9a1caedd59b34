use Rattle.mst_explain.proofs.Lower.{cist_lower, msti_lower}
use Rattle.mst_explain.proofs.laws.decided_lower.Goals as goal

pub returns-clause-cist : goal.returns-clause-cist
returns-clause-cist c = λ x y e. cist_lower x y e

pub returns-clause-msti : goal.returns-clause-msti
returns-clause-msti c = λ x y e. msti_lower x y e
