use Rattle.mst_explain.proofs.Lower.{cist_on_lan, cist_at_bridge, msti_on_lan, msti_at_bridge}
use Rattle.mst_explain.proofs.laws.told_lower.Goals as goal

pub returns-clause-cist_lan : goal.returns-clause-cist_lan
returns-clause-cist_lan c = λ net o ok is lan. cist_on_lan net ok o 0 lan

pub returns-clause-cist_bridge : goal.returns-clause-cist_bridge
returns-clause-cist_bridge c = λ net o ok is name b. cist_at_bridge net ok o 0 name b

pub returns-clause-msti_lan : goal.returns-clause-msti_lan
returns-clause-msti_lan c = λ net o ok is tree lan. msti_on_lan net ok o tree lan

pub returns-clause-msti_bridge : goal.returns-clause-msti_bridge
returns-clause-msti_bridge c = λ net o ok is tree name b. msti_at_bridge net ok o tree name b
