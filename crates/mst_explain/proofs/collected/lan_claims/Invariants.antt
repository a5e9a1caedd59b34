use Rattle.std.proofs.Common.{◌≡◌, ◌++◌, drop, filter_map}
use Rattle.mst_explain.specs.Seen.{lan_claim, lan_claims}
use Rattle.mst_explain.proofs.collected.lan_claims.Given as goal

-- what was collected yet, and what the ports that are left claim
abbrev pub invariant-loop-port : goal.invariant-loop-port
invariant-loop-port g l =
    let seen = g.M.InTree.seen l.plan l.tree in
    l.claims.items ++ filter_map (lan_claim g.M.Metric.rules l.plan.view seen l.lan) (drop l.port-index l.plan.view.ports) ≡ lan_claims g.M.Metric.rules l.plan.view seen l.lan
