use Rattle.std.proofs.Common.{◌≡◌, ◌<◌, List, length, get_or, ◌++◌, sym, subst, ap, ◌∙◌, eq-eqb, true≢false}
use Rattle.std.proofs.lemmas.Bool.{eqb-true}
use Rattle.mst_changes.specs.Stored.{kept_in}
use Rattle.mst_changes.specs.declared.kept.TreeEntries.{TreeEntries}
use Rattle.mst_changes.proofs.ByTree.{one_of_it, one_of_other}
use Rattle.mst_changes.proofs.entries.Entries.push_tree.Goals as goal
use Rattle.mst_changes.proofs.entries.Entries.push_tree.Goals.{then-eq+in_ok-push_kept, else-eq}

pub loop-kept-preserved : goal.loop-kept-preserved
loop-kept-preserved c =
    let l = c.loop-kept in
    let bridges = c.args.self.now.bridges.items in
    let ports = c.args.self.now.ports.items in
    let trees = c.args.self.now.trees.items in
    let kept = c.kept-item.result in
    let all : c.deref-kept-items.result.now ≡ trees = c.deref-kept-items.ensures.value in
    let below : l.kept-index < length trees = subst (λ (ts : List TreeEntries). l.kept-index < length ts) all c.loop-kept-test.true in
    let here : kept ≡ get_or trees l.kept-index kept = c.kept-item.is ∙ ap (λ (ts : List TreeEntries). get_or ts l.kept-index kept) all in
    elim c.if-eq.branch [
      | then-eq+in_ok-push_kept w ↦
          let more : w.push_kept.new.entries.items ≡ l.entries.items ++ kept_in bridges ports kept =
          w.in_ok-push_kept.ensures {u = tt} ∙ (λ i. l.entries.items ++ kept_in (w.as_slice.ensures.value i) (w.as_slice-then-eq.ensures.value i) kept) in
          ap (λ r. r.items) w.entries-is ∙ one_of_it bridges ports c.args.tree trees l.kept-index kept below here c.args.entries.now.items l.entries.items l.invariant (eqb-true kept.tree c.args.tree (sym c.eq.ensures ∙ w.if-eq.true)) w.push_kept.new.entries.items more
      | else-eq w ↦
          ap (λ r. r.items) w.entries-is ∙ one_of_other bridges ports c.args.tree trees l.kept-index kept below here c.args.entries.now.items l.entries.items l.invariant (λ same. true≢false (sym (eq-eqb kept.tree c.args.tree same) ∙ sym c.eq.ensures ∙ w.if-eq.false))
    ]
