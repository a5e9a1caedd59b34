use Rattle.std.proofs.Common.{◌≡◌, subst, sym}
use Rattle.mst_verify.specs.tree_judges.judged.reasons.Named.{nothing_before}
use Rattle.mst_verify.specs.tree_judges.judged.reasons.Risks.{events}
use Rattle.mst_telling.specs.Verified.{IsVerified}
use Rattle.mst_verdict.proofs.OneTold.{found_same, some_found, verified_same, verified_some}
use Rattle.mst_verdict.proofs.laws.one_verified.Goals as goal

pub returns-clause-some : goal.returns-clause-some
returns-clause-some c net o lines is are =
    verified_some net o lines
    (λ line. some_found net o is are nothing_before (events net lines) tt c.has_outcome.ensures c.reason_lists.ensures.some line)

pub returns-clause-one : goal.returns-clause-one
returns-clause-one c net o p lines n m rows other is are too x y =
    let same : o ≡ p = c.one_outcome.ensures net o p is are too in
    verified_same net o lines
    (λ line. found_same net o is are nothing_before (events net lines) c.one_outcome.ensures c.reason_lists.ensures.one line) n m rows other x (subst (λ q. IsVerified net q lines m other) (sym same) y)
