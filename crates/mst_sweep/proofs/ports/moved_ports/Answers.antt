use Rattle.std.proofs.Common.{◌≡◌, ℕ, ◌+◌, sym, ap, ◌∙◌, arith}
use Rattle.std.specs.List.{count_by}
use Rattle.mst_view.specs.View.{port_names}
use Rattle.mst_sweep.specs.Moved.{port_moved}
use Rattle.mst_sweep.proofs.Moved.{sums_more, sums_all}
use Rattle.mst_sweep.proofs.ports.moved_ports.Goals as goal
use Rattle.mst_sweep.proofs.ports.moved_ports.Goals.{in-Some, in_default}

pub loop-number-preserved : goal.loop-number-preserved
loop-number-preserved c = record {
  few = elim c.match-new.branch [
    | in-Some w ↦
        let few = c.loop-number.invariant.few in
        let one = w.moved_in_tree-count.ensures.few in
        let sum = w.count-is in
        omega arith
    | in_default w ↦
        let below = c.loop-number-test.true in
        absurd (w.in_default.ensures {u = tt} (omega arith))
  ];
  moved = λ a b n k is are of so e.
      let l = c.loop-number in
      let of_tree : ℕ → ℕ = λ tree. count_by (port_moved a is.outcome b are.outcome tree) (port_names a) in
      let before = l.invariant.moved a b n k is are of so e in
      elim c.match-new.branch [
        | in-Some w ↦
            let same : w.in-Some.tree ≡ l.number = (w.in-Some.ensures {u = tt}).1 in
            let moved : w.moved_in_tree-count.result ≡ of_tree l.number = w.moved_in_tree-count.ensures.moved a b n k is are of so e ∙ ap of_tree same in
            w.count-is ∙ (λ i. before i + moved i) ∙ sym (sums_more of_tree l.number)
        | in_default w ↦
            let below = c.loop-number-test.true in
            absurd (w.in_default.ensures {u = tt} (omega arith))
      ];
}

pub returns : goal.returns
returns c a b n k is are of so e =
    c.loop-number.invariant.moved a b n k is are of so e ∙ sums_all (λ tree. count_by (port_moved a is.outcome b are.outcome tree) (port_names a)) c.loop-number.number (omega arith)
