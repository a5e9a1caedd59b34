use Rattle.std.proofs.Common.{◌≡◌, drop, None}
use Rattle.mst_explain.specs.Claims.{first_from}
use Rattle.mst_explain.proofs.claims.first_among.Given as goal

-- what is the first yet, with the claims that are left
abbrev pub invariant-loop-claim : goal.invariant-loop-claim
invariant-loop-claim g l = first_from g.M.Metric.rules.order l.among l.first (drop l.claim-index l.claims) ≡ first_from g.M.Metric.rules.order l.among None l.claims
