use Rattle.std.proofs.Common.{ap, sym, ◌∙◌}
use Rattle.std.specs.Map.{lookup}
use Rattle.mst_net.specs.tables.Tables.{port_eq}
use Rattle.mst_sweeping.proofs.PortsByName.{put, kept}
use Rattle.mst_sweeping.proofs.ports.by_name.Goals as goal
use Rattle.mst_sweeping.proofs.ports.by_name.Goals.{then-not-contains_key+in_ok-insert, else-not-contains_key}

pub loop-port-preserved : goal.loop-port-preserved
loop-port-preserved c = λ q.
    let l = c.loop-port in
    let item = c.port-item.result in
    elim c.if-not-contains_key.branch [
      | then-not-contains_key+in_ok-insert w ↦
          ap (λ m. lookup (port_eq q) m.entries) w.named-is ∙ w.in_ok-insert.ensures.updates.0 q
          ∙ put c.args.ports.now l.port-index item c.loop-port-test.true c.port-item.is l.named.entries l.invariant q (sym c.contains_key.ensures ∙ w.if-not-contains_key.true)
      | else-not-contains_key w ↦
          ap (λ m. lookup (port_eq q) m.entries) w.named-is
          ∙ kept c.args.ports.now l.port-index item c.loop-port-test.true c.port-item.is l.named.entries l.invariant q (sym c.contains_key.ensures ∙ w.if-not-contains_key.false)
    ]
