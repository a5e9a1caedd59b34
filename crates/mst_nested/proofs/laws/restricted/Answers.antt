use Rattle.mst_nested.proofs.Settled.{cist_tree, msti_tree}
use Rattle.mst_nested.proofs.PortRoles.{root_is_free}
use Rattle.mst_nested.proofs.laws.restricted.Goals as goal

pub returns-clause-cist : goal.returns-clause-cist
returns-clause-cist g c = λ f tests ok p r. root_is_free (cist_tree f tests ok) p r

pub returns-clause-msti : goal.returns-clause-msti
returns-clause-msti g c = λ f tests ok i q r. root_is_free (msti_tree f tests ok i) q r
