use Rattle.std.proofs.Common.{◌≡◌, ◌++◌, drop, filter_map}
use Rattle.mst_explain.specs.Seen.{bridge_claim, bridge_claims}
use Rattle.mst_explain.proofs.collected.bridge_claims.Given as goal

-- what was collected yet, and what the ports that are left claim
abbrev pub invariant-loop-port : goal.invariant-loop-port
invariant-loop-port g l =
    let seen = g.M.InTree.seen l.plan l.tree in
    l.claims.items ++ filter_map (bridge_claim g.M.Metric.rules l.plan.view seen l.bridge) (drop l.port-index l.plan.view.ports) ≡ bridge_claims g.M.Metric.rules l.plan.view seen l.bridge
