use Rattle.std.proofs.Common.{ℕ, Bool, ◌&&◌, ◌||◌, not, sym, ap, ◌∙◌, arith}
use Rattle.mst_ids.specs.Vids.{set_where, has, is_within}
use Rattle.mst_slips.proofs.VidsThat.{one_in, one_out}
use Rattle.mst_slips.proofs.vlans.vids_without.Goals as goal
use Rattle.mst_slips.proofs.vlans.vids_without.Goals.{then-is_in_first, else-is_in_first}

pub loop-number-preserved : goal.loop-number-preserved
loop-number-preserved c =
    let test : ℕ → Bool = λ vid. has c.args.vids.now vid && not (has c.args.others.now vid) in
    let number = c.loop-number.number in
    let left = c.loop-number.left in
    let vid = (rw c.unwrap-vid.ensures at c.new.ensures).1 in
    let is = ap test (sym vid) ∙ sym c.is_in_first.ensures in
    elim c.if-is_in_first.branch [
      | then-is_in_first w ↦ w.left-is ∙ w.insert.ensures ∙ ap (λ v. set_where (λ n. has left n || is_within (v, v) n)) vid ∙ one_in test number left (omega arith) (omega arith) (is ∙ w.if-is_in_first.true) c.loop-number.invariant
      | else-is_in_first w ↦ w.left-is ∙ c.loop-number.invariant ∙ one_out test number (omega arith) (omega arith) (is ∙ w.if-is_in_first.false)
    ]
