use Rattle.std.proofs.Common.{◌≡◌, ◌++◌, map, sym, ap, subst, ◌∙◌, arith}
use Rattle.std.specs.List.{flat_map}
use Rattle.mst_view.specs.Viewed.{Viewed}
use Rattle.mst_roles.specs.forest.InUse.{AreInUse}
use Rattle.mst_roles.specs.forest.Settled.{outcome_of}
use Rattle.mst_view.specs.View.{bridge_names, port_names}
use Rattle.mst_changes.specs.Values.{value_at}
use Rattle.mst_changes.specs.Kept.{entries_in}
use Rattle.mst_changes.specs.Stored.{kept_in, kept_of}
use Rattle.mst_changes.proofs.Changed.{entries_in_trees}
use Rattle.mst_changes.proofs.Gathered.{tree_more, trees_done}
use Rattle.mst_changes.proofs.entries.Entries.new.Goals as goal
use Rattle.mst_changes.proofs.entries.Entries.new.Goals.{in-Some+in_ok-keep_tree, in_default}

pub keep_tree-requires : goal.keep_tree-requires
keep_tree-requires c = subst (λ (v : Viewed). AreInUse v c.trees_in_use-used.result) c.view-view.ensures c.trees_in_use-used.ensures

pub loop-number-init : goal.loop-number-init
loop-number-init c = ap (kept_of c.args.plan.now.view) c.new-trees.ensures.items

pub loop-number-preserved : goal.loop-number-preserved
loop-number-preserved c =
    let s = c.args.plan.now in
    let l = c.loop-number in
    let kept = kept_of s.view in
    let entries = entries_in s.net (outcome_of s) in
    elim c.match-new.branch [
      | in-Some+in_ok-keep_tree w ↦
          let same : w.in-Some.tree ≡ l.number = (w.in-Some.ensures {u = tt}).1 in
          let more : kept w.keep_tree.new.trees.items ≡ kept l.trees.items ++ entries l.number = w.in_ok-keep_tree.ensures {u = tt} ∙ ap (λ tree. kept l.trees.items ++ entries tree) same in
          ap (λ r. kept r.items) w.trees-is ∙ tree_more entries l.number (kept l.trees.items) (kept w.keep_tree.new.trees.items) l.invariant more
      | in_default w ↦
          let below = c.loop-number-test.true in
          absurd (w.in_default.ensures {u = tt} (omega arith))
    ]

pub returns : goal.returns
returns c =
    let s = c.args.plan.now in
    let l = c.loop-number in
    let bridges = c.in_ok-bridges.ensures ∙ (λ i. map (λ b. b.name) (c.view-view.ensures i).bridges) in
    let ports = c.in_ok-ports.ensures ∙ (λ i. map (λ p. p.name) (c.view-view.ensures i).ports) in
    (λ i. flat_map (kept_in (bridges i) (ports i)) l.trees.items)
    ∙ l.invariant ∙ trees_done (entries_in s.net (outcome_of s)) l.number (omega arith) ∙ sym (entries_in_trees (value_at s.net (outcome_of s)) (bridge_names s.net) (port_names s.net))
