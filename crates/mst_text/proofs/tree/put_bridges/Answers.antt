use Rattle.std.proofs.Common.{◌≡◌, ◌∙◌, ◌+◌, ◌≤◌, ℕ, ◌++◌, List, length, take, drop, ap, refl, sym, subst}
use Rattle.std.proofs.ByRecursion.{All-drop}
use Rattle.std.proofs.lemmas.List.Sums.{prefix_len-le-length}
use Rattle.std.specs.List.{AllByRecursion, Contains}
use Rattle.mst_view.specs.declared.in_view.BridgeInView.{BridgeInView}
use Rattle.mst_view.specs.declared.in_view.PortInView.{PortInView}
use Rattle.mst_rows.specs.Rows.{Row}
use Rattle.mst_rows.proofs.Loops.{rest_more, rest_none}
use Rattle.mst_vlan.proofs.forest_lemmas.Lists.{all_there}
use Rattle.mst_vlan.specs.forest.Settled.{SettledNet}
use Rattle.mst_text.specs.TreeRuns.{bridge_with, by_runs, is_of, run_of}
use Rattle.mst_text.proofs.tree.put_bridges.Goals as goal

-- what a bridge gives with the run at the front of these ports, and what it leaves of them
abbrev one : SettledNet → ℕ → BridgeInView → List PortInView → List Row
one s tree b ports = bridge_with s tree b (take (run_of b.name ports) ports)

abbrev after : BridgeInView → List PortInView → List PortInView
after b ports = drop (run_of b.name ports) ports

pub split_at-requires : goal.split_at-requires
split_at-requires g c = subst (λ (n : ℕ). n ≤ length c.loop-bridge.rest.now) (sym c.run.ensures) (prefix_len-le-length (is_of c.bridge-item.result.name) c.loop-bridge.rest.now)

pub loop-bridge-init : goal.loop-bridge-init
loop-bridge-init g c =
    let s = c.args.plan.now in
    let bridges : c.bridges-bridge-items.result.now ≡ s.view.bridges = c.bridges-bridge-items.ensures ∙ ap (λ v. v.bridges) c.view-2.ensures in
    let ports : c.ports-rest.result.now ≡ s.view.ports = c.ports-rest.ensures ∙ ap (λ v. v.ports) c.view.ensures in (
      λ first rows grew. (rows, grew, λ i. rows ++ by_runs (bridge_with s c.args.tree) (bridges i) (ports i)),
      subst (AllByRecursion (Contains s.view.ports)) (sym ports) (all_there s.view.ports),
    )

pub loop-bridge-preserved : goal.loop-bridge-preserved
loop-bridge-preserved g c =
    let s = c.args.plan.now in
    let f = bridge_with s c.args.tree in
    let bridges = c.bridges-bridge-items.result.now in
    let i = c.loop-bridge.bridge-index in
    let b = c.bridge-item.result in
    let rest = c.loop-bridge.rest.now in
    let own : c.split_at.result.0.now ≡ take (run_of b.name rest) rest = c.split_at.ensures.front ∙ ap (λ (n : ℕ). take n rest) c.run.ensures in
    let others : c.split_at.result.1.now ≡ after b rest = c.split_at.ensures.back ∙ ap (λ (n : ℕ). drop n rest) c.run.ensures in (
      λ first rows grew.
          let all = rows ++ by_runs f s.view.bridges s.view.ports in
          let so_far = c.loop-bridge.invariant.0 first rows grew in (
            so_far.0 ++ f b c.split_at.result.0.now,
            c.in_ok-put_bridge.ensures first so_far.0 so_far.1,
            (λ k. (so_far.0 ++ f b (own k)) ++ by_runs f (drop (i + 1) bridges) (others k))
                ∙ rest_more (by_runs f) (one s c.args.tree) after (λ x xs ports. refl) bridges i b rest so_far.0 all c.loop-bridge-test.true c.bridge-item.is so_far.2,
          ),
      subst (AllByRecursion (Contains s.view.ports)) {x = drop c.run.result rest} (sym c.split_at.ensures.back) (All-drop (Contains s.view.ports) c.run.result rest c.loop-bridge.invariant.1),
    )

pub returns : goal.returns
returns g c first rows grew =
    let s = c.args.plan.now in
    let f = bridge_with s c.args.tree in
    let all = rows ++ by_runs f s.view.bridges s.view.ports in
    let so_far = c.loop-bridge.invariant.0 first rows grew in
    subst (g.R.Rows.grew first c.loop-bridge.out) {y = all}
    (rest_none (by_runs f) (λ ports. refl) c.bridges-bridge-items.result.now c.loop-bridge.bridge-index c.loop-bridge.rest.now so_far.0 all c.loop-bridge-test.false so_far.2) so_far.1
