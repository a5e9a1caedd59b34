use Rattle.std.proofs.Common.{ap, sym, ◌∙◌}
use Rattle.std.specs.Map.{lookup}
use Rattle.mst_view.specs.Aggregation.{same_name}
use Rattle.mst_facts.proofs.FirstNamed.{put, kept}
use Rattle.mst_facts.proofs.both.by_name.Goals as goal
use Rattle.mst_facts.proofs.both.by_name.Goals.{then-not-contains_key+in_ok-insert, else-not-contains_key}

pub loop-bridge-preserved : goal.loop-bridge-preserved
loop-bridge-preserved c = λ q.
    let l = c.loop-bridge in
    let item = c.bridge-item.result in
    elim c.if-not-contains_key.branch [
      | then-not-contains_key+in_ok-insert w ↦
          ap (λ m. lookup (same_name q) m.entries) w.named-is ∙ w.in_ok-insert.ensures.updates.0 q
          ∙ put c.args.bridges.now l.bridge-index item c.loop-bridge-test.true c.bridge-item.is l.named.entries l.invariant q (sym c.contains_key.ensures ∙ w.if-not-contains_key.true)
      | else-not-contains_key w ↦
          ap (λ m. lookup (same_name q) m.entries) w.named-is
          ∙ kept c.args.bridges.now l.bridge-index item c.loop-bridge-test.true c.bridge-item.is l.named.entries l.invariant q (sym c.contains_key.ensures ∙ w.if-not-contains_key.false)
    ]
