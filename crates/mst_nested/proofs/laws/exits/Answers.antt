use Rattle.mst_nested.proofs.Exits.{forwards_exit, exit_forwards, no_exit, holds_or_exits}
use Rattle.mst_nested.proofs.laws.exits.Goals as goal

pub returns-clause-only : goal.returns-clause-only
returns-clause-only g c = λ f tests ok free p i cross h. forwards_exit f tests ok free i p cross h

pub returns-clause-all : goal.returns-clause-all
returns-clause-all g c = λ f tests ok free p i exit has. exit_forwards f tests ok free i p exit has

pub returns-clause-top : goal.returns-clause-top
returns-clause-top g c = λ f tests ok free n x e h p exit walk. no_exit f tests ok free n x e h p exit walk

pub returns-clause-one : goal.returns-clause-one
returns-clause-one g c = λ f tests ok free n x e. holds_or_exits f tests ok free n x e
