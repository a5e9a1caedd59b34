use Rattle.mst_nested.proofs.Facts.{has_root, has_regional_root, has_msti_root}
use Rattle.mst_nested.proofs.laws.roots.Goals as goal

pub returns-clause-cist : goal.returns-clause-cist
returns-clause-cist g c = λ f tests ok free n x e. has_root f tests ok free n x e

pub returns-clause-regional : goal.returns-clause-regional
returns-clause-regional g c = λ f tests ok free n x e. has_regional_root f tests ok free n x e

pub returns-clause-msti : goal.returns-clause-msti
returns-clause-msti g c = λ f tests ok free i n x e. has_msti_root f tests ok free i n x e
