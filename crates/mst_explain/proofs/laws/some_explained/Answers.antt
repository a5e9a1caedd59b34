use Rattle.mst_explain.proofs.SomeText.{some_rows, all_rows}
use Rattle.mst_explain.proofs.laws.some_explained.Goals as goal

pub returns-clause-one : goal.returns-clause-one
returns-clause-one c = λ net o ok is p here tree had. some_rows net ok o is p here tree had

pub returns-clause-all : goal.returns-clause-all
returns-clause-all c = λ net o ok is p here trees had. all_rows net ok o is p here trees had
