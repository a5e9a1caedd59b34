use Rattle.std.proofs.Common.{◌≡◌, ◌+◌, ◌<◌, ◌≤◌, length, cond, sym, ap, ◌∙◌, arith}
use Rattle.std.specs.List.{count_by}
use Rattle.std.proofs.lemmas.List.{take_all}
use Rattle.mst_view.specs.View.{port_names}
use Rattle.mst_sweep.specs.Moved.{port_moved}
use Rattle.mst_sweep.proofs.Moved.{as_named, count_step}
use Rattle.mst_sweep.proofs.ports.moved_in.Goals as goal
use Rattle.mst_sweep.proofs.ports.moved_in.Goals.{then-moved_at, else-moved_at}

pub loop-place-preserved : goal.loop-place-preserved
loop-place-preserved c =
    let l = c.loop-place in
    let after : c.if-moved_at.count ≡ cond c.moved_at.result (l.count + 1) l.count = elim c.if-moved_at.branch [
      | then-moved_at w ↦ w.count-is ∙ sym (ap (λ d. cond d (l.count + 1) l.count) w.if-moved_at.true)
      | else-moved_at w ↦ w.count-is ∙ sym (ap (λ d. cond d (l.count + 1) l.count) w.if-moved_at.false)
    ] in
    record {
      few = elim c.if-moved_at.branch [
        | then-moved_at w ↦ let few = l.invariant.few in let count = w.count-is in omega arith
        | else-moved_at w ↦ let few = l.invariant.few in let count = w.count-is in omega arith
      ];
      moved = λ a b n k is are of so e.
          let v = c.args.old.now.view.now in
          let w = c.args.new.now.view.now in
          let many : length (port_names a) ≡ length v.ports = as_named a b n k v w c.args.old.now.forest.now c.args.new.now.forest.now of so is are c.args.tree e.ports in
          let here : l.place < length c.ports-place-end.result.now = c.loop-place-test.true in
          let same : length c.ports-place-end.result.now ≡ length v.ports = ap length c.ports-place-end.ensures in
          let below : l.place < length (port_names a) = omega arith in
          count_step (port_moved a is.outcome b are.outcome c.args.tree) (port_names a) l.place c.moved_at.result l.count c.if-moved_at.count below (c.moved_at.ensures a b n k is are of so e)
          (l.invariant.moved a b n k is are of so e) after;
    }

pub returns-clause-moved : goal.returns-clause-moved
returns-clause-moved c a b n k is are of so e =
    let l = c.loop-place in
    let v = c.args.old.now.view.now in
    let w = c.args.new.now.view.now in
    let many : length (port_names a) ≡ length v.ports = as_named a b n k v w c.args.old.now.forest.now c.args.new.now.forest.now of so is are c.args.tree e.ports in
    let past : length c.ports-place-end.result.now ≤ l.place = c.loop-place-test.false in
    let same : length c.ports-place-end.result.now ≡ length v.ports = ap length c.ports-place-end.ensures in
    let all : length (port_names a) ≤ l.place = omega arith in
    l.invariant.moved a b n k is are of so e ∙ ap (count_by (port_moved a is.outcome b are.outcome c.args.tree)) (take_all l.place (port_names a) all)
