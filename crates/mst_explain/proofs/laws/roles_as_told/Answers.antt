use Rattle.mst_explain.proofs.Roles.{cist_told, msti_told}
use Rattle.mst_explain.proofs.laws.roles_as_told.Goals as goal

pub returns-clause-cist : goal.returns-clause-cist
returns-clause-cist c = λ net o ok is p here enabled. cist_told net ok o is p here enabled

pub returns-clause-msti : goal.returns-clause-msti
returns-clause-msti c = λ net o ok is p here enabled tree has internal. msti_told net ok o is p here enabled tree has internal
