use Rattle.std.proofs.Common.{sym, subst}
use Rattle.mst_roles.specs.forest.Outcome.{Outcome}
use Rattle.mst_advise.specs.Candidates.{AreCandidates}
use Rattle.mst_advise.proofs.OneCandidates.{candidates_same}
use Rattle.mst_advise.proofs.laws.one_candidates.Goals as goal

pub returns : goal.returns
returns c net o q wanted candidates others ok a b x y =
    candidates_same net o (λ p tree rows other. c.one_explained.ensures.one net o o ok a a p tree rows other) wanted candidates others x
    (subst (λ (r : Outcome). AreCandidates net r wanted others) (sym (c.one_outcome.ensures net o q ok a b)) y)
