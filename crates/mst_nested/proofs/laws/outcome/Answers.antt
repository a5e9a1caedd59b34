use Rattle.mst_nested.proofs.OneOutcome.{cist_agrees, msti_agrees, cist_ports_agree, msti_ports_agree}
use Rattle.mst_nested.proofs.SomeOutcome.{some_outcome}
use Rattle.mst_nested.proofs.laws.outcome.Goals as goal

pub returns-clause-some : goal.returns-clause-some
returns-clause-some g c = λ t s tests ok ids can. some_outcome t tests ok ids s can

pub returns-clause-one_cist : goal.returns-clause-one_cist
returns-clause-one_cist g c = λ t s f h a b. cist_agrees t s f h a b

pub returns-clause-one_msti : goal.returns-clause-one_msti
returns-clause-one_msti g c = λ t s f h a b. msti_agrees t s f h a b

pub returns-clause-one_cist_port : goal.returns-clause-one_cist_port
returns-clause-one_cist_port g c = λ t s f h a b lan o u x y. cist_ports_agree t s f h a b lan o u x y

pub returns-clause-one_msti_port : goal.returns-clause-one_msti_port
returns-clause-one_msti_port g c = λ t s f h a b i lan o u x y. msti_ports_agree t s f h a b i lan o u x y
