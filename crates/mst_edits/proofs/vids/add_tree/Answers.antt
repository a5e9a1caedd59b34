use Rattle.std.proofs.Common.{◌≡◌, ℕ, Bool, ◌∙◌, sym, arith}
use Rattle.mst_ids.specs.Vids.{has}
use Rattle.mst_edits.specs.TableLines.{vids_in}
use Rattle.mst_edits.proofs.Cuts.{mapped_is}
use Rattle.mst_edits.proofs.Sets.{set_of_has, none_yet, one_in, one_out, all_in}
use Rattle.mst_edits.proofs.Moved.{none_in, zero_out}
use Rattle.mst_edits.proofs.vids.add_tree.Goals as goal
use Rattle.mst_edits.proofs.vids.add_tree.Goals.{then-is_in, else-is_in}

pub loop-number-init : goal.loop-number-init
loop-number-init c = none_yet (has c.args.vids.now) (has (vids_in c.args.table.now c.args.tree)) c.args.vids.now (zero_out c.args.table.now c.args.tree) (set_of_has c.args.vids.now c.contains-set.ensures.set)

pub returns : goal.returns
returns c = all_in (has c.args.vids.now) (has (vids_in c.args.table.now c.args.tree)) c.loop-number.number c.loop-number.vids (λ n high small. none_in c.args.table.now c.args.tree n (omega arith) small) c.loop-number.invariant

pub loop-number-preserved : goal.loop-number-preserved
loop-number-preserved c =
    let start : ℕ → Bool = has c.args.vids.now in
    let test : ℕ → Bool = has (vids_in c.args.table.now c.args.tree) in
    let number : ℕ = c.loop-number.number in
    let is : test number ≡ c.is_in.result = sym (mapped_is c.args.table.now c.args.tree number (omega arith) (omega arith, omega arith)) ∙ sym c.is_in.ensures in
    elim c.if-is_in.branch [
      | then-is_in w ↦ rw w.vids-is (one_in start test number c.loop-number.vids w.insert.new.vids (is ∙ w.if-is_in.true) c.loop-number.invariant w.insert.ensures)
      | else-is_in w ↦ rw w.vids-is (one_out start test number c.loop-number.vids (is ∙ w.if-is_in.false) c.loop-number.invariant)
    ]
