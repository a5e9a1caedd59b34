use Rattle.mst_nested.proofs.Settled.{cist_tree, msti_tree}
use Rattle.mst_nested.proofs.PortRoles.{has_one_role, boundary_role}
use Rattle.mst_nested.proofs.laws.roles.Goals as goal

pub returns-clause-cist : goal.returns-clause-cist
returns-clause-cist g c = λ f tests ok p on. has_one_role (cist_tree f tests ok) p on

pub returns-clause-msti : goal.returns-clause-msti
returns-clause-msti g c = λ f tests ok i q on. has_one_role (msti_tree f tests ok i) q on

pub returns-clause-boundary : goal.returns-clause-boundary
returns-clause-boundary g c = λ f tests ok p b. boundary_role f tests ok p b
