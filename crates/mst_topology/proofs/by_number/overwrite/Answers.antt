use Rattle.std.proofs.Common.{rules, arith, refl, ◌≡◌, ◌∙◌, ◌<◌, ℕ}
use Rattle.mst_topology.specs.Places.{option_at, HasRoomAt}
use Rattle.mst_topology.proofs.Loaded.{one_written, one_skipped}
use Rattle.mst_topology.proofs.by_number.overwrite.Goals as goal
use Rattle.mst_topology.proofs.by_number.overwrite.Goals.{then-has, else-has}

pub loop-number-init : goal.loop-number-init
loop-number-init g c = record { values = λ n low room. absurd (omega arith); keys = refl }

pub loop-number-preserved : goal.loop-number-preserved
loop-number-preserved g c =
    let l = c.loop-number in
    elim c.if-has.branch [
      | then-has w ↦ rw w.table-is (
          let value : w.flatten.result ≡ option_at c.args.other.now l.number = search rules in
          record {
            values = one_written c.args.table.now l.table c.args.other.now l.number l.invariant.values w.write_at.new.self w.flatten.result w.write_at.ensures.put value;
            keys = w.write_at.ensures.keys ∙ l.invariant.keys;
          })
      | else-has w ↦ rw w.table-is (
          record {
            values = one_skipped c.args.table.now l.table c.args.other.now l.number l.invariant.values l.invariant.keys (search rules);
            keys = l.invariant.keys;
          })
    ]

pub returns-clause-values : goal.returns-clause-values
returns-clause-values g c = λ n room.
    let low : n < c.bound-number-end.result = c.bound-number-end.ensures n room in
    c.loop-number.invariant.values n (omega arith) room

pub returns-clause-keys : goal.returns-clause-keys
returns-clause-keys g c = c.loop-number.invariant.keys
