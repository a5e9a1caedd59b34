use Rattle.std.proofs.Common.{ap, nat_eq, sym, ◌∙◌}
use Rattle.indexmap.specs.IndexMap.{get}
use Rattle.mst_text.proofs.Holding.{put, kept_yet}
use Rattle.mst_text.proofs.holders.names_by_mac.Goals as goal
use Rattle.mst_text.proofs.holders.names_by_mac.Goals.{then-not-contains_key+in_ok-insert, else-not-contains_key}

pub loop-bridge-preserved : goal.loop-bridge-preserved
loop-bridge-preserved c = λ q.
    let l = c.loop-bridge in
    let item = c.bridge-item.result in
    elim c.if-not-contains_key.branch [
      | then-not-contains_key+in_ok-insert w ↦
          ap (λ m. get nat_eq m q) w.names-is ∙ w.in_ok-insert.ensures.updates.0 q
          ∙ put c.args.bridges.now l.bridge-index item c.loop-bridge-test.true c.bridge-item.is (get nat_eq l.names) l.invariant q (sym c.contains_key.ensures ∙ w.if-not-contains_key.true)
      | else-not-contains_key w ↦
          ap (λ m. get nat_eq m q) w.names-is
          ∙ kept_yet c.args.bridges.now l.bridge-index item c.loop-bridge-test.true c.bridge-item.is (get nat_eq l.names) l.invariant q (sym c.contains_key.ensures ∙ w.if-not-contains_key.false)
    ]
