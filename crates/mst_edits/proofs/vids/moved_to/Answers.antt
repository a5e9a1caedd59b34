use Rattle.std.proofs.Common.{ℕ, Bool, false, ◌∙◌, sym, refl, arith}
use Rattle.mst_edits.proofs.Sets.{none_yet, one_in, one_out, all_in}
use Rattle.mst_edits.proofs.Moved.{is_moved as moved, moved_is, none_moved}
use Rattle.mst_edits.proofs.vids.moved_to.Goals as goal
use Rattle.mst_edits.proofs.vids.moved_to.Goals.{then-is_moved, else-is_moved}

pub loop-number-init : goal.loop-number-init
loop-number-init c = none_yet (λ _. false) (moved c.args.before.now c.args.after.now c.args.tree) c.none-vids.result refl c.none-vids.ensures

pub returns : goal.returns
returns c = all_in (λ _. false) (moved c.args.before.now c.args.after.now c.args.tree) c.loop-number.number c.loop-number.vids (λ n high small. none_moved c.args.before.now c.args.after.now c.args.tree n (omega arith)) c.loop-number.invariant

pub loop-number-preserved : goal.loop-number-preserved
loop-number-preserved c =
    let start : ℕ → Bool = λ _. false in
    let test : ℕ → Bool = moved c.args.before.now c.args.after.now c.args.tree in
    let number : ℕ = c.loop-number.number in
    let is = moved_is c.args.before.now c.args.after.now c.args.tree number (omega arith) (omega arith) ∙ sym c.is_moved.ensures in
    elim c.if-is_moved.branch [
      | then-is_moved w ↦ rw w.vids-is (one_in start test number c.loop-number.vids w.insert.new.vids (is ∙ w.if-is_moved.true) c.loop-number.invariant w.insert.ensures)
      | else-is_moved w ↦ rw w.vids-is (one_out start test number c.loop-number.vids (is ∙ w.if-is_moved.false) c.loop-number.invariant)
    ]
