use Rattle.std.proofs.Common.{nat_eq, sym, ap, ◌∙◌}
use Rattle.indexmap.specs.IndexMap.{get}
use Rattle.mst_sweep.proofs.HomesNamed.{put, kept}
use Rattle.mst_sweep.proofs.homes.add_island.Goals as goal
use Rattle.mst_sweep.proofs.homes.add_island.Goals.{then-not-contains_key+in_ok-insert, else-not-contains_key}

pub loop-bridge-preserved : goal.loop-bridge-preserved
loop-bridge-preserved c = λ q.
    let l = c.loop-bridge in
    let item = c.bridge-item.result in
    elim c.if-not-contains_key.branch [
      | then-not-contains_key+in_ok-insert w ↦
          ap (λ m. get nat_eq m q) w.homes-is ∙ w.in_ok-insert.ensures.updates.0 q
          ∙ put c.args.place c.args.bridges.now l.bridge-index item c.loop-bridge-test.true c.bridge-item.is (get nat_eq c.args.homes.now) (get nat_eq l.homes) l.invariant q (sym c.contains_key.ensures ∙ w.if-not-contains_key.true)
      | else-not-contains_key w ↦
          ap (λ m. get nat_eq m q) w.homes-is
          ∙ kept c.args.place c.args.bridges.now l.bridge-index item c.loop-bridge-test.true c.bridge-item.is (get nat_eq c.args.homes.now) (get nat_eq l.homes) l.invariant q (sym c.contains_key.ensures ∙ w.if-not-contains_key.false)
    ]
