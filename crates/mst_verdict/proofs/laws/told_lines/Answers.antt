use Rattle.std.proofs.Common.{◌≡◌, subst, sym}
use Rattle.mst_telling.specs.Lines.{IsLineTold}
use Rattle.mst_verdict.proofs.OneTold.{some_told, told_same}
use Rattle.mst_verdict.proofs.laws.told_lines.Goals as goal

pub returns-clause-some : goal.returns-clause-some
returns-clause-some c net o prior events line is are of = some_told net o is are prior events of c.has_outcome.ensures c.reason_lists.ensures.some line

pub returns-clause-one : goal.returns-clause-one
returns-clause-one c net o p prior events line rows other is are too x y =
    let same : o ≡ p = c.one_outcome.ensures net o p is are too in
    told_same net o is are prior events c.one_outcome.ensures c.reason_lists.ensures.one line rows other x (subst (λ q. IsLineTold net q prior events line other) (sym same) y)
