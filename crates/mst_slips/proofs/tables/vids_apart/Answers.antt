use Rattle.std.proofs.Common.{ℕ, Bool, ◌==◌, ◌||◌, not, sym, ap, ◌∙◌, arith}
use Rattle.mst_ids.specs.Vids.{set_where, has, is_within}
use Rattle.mst_tables.specs.Table.{tree_in}
use Rattle.mst_slips.proofs.VidsThat.{one_in, one_out}
use Rattle.mst_slips.proofs.tables.vids_apart.Goals as goal
use Rattle.mst_slips.proofs.tables.vids_apart.Goals.{then-is_apart, else-is_apart}

pub loop-number-preserved : goal.loop-number-preserved
loop-number-preserved c =
    let test : ℕ → Bool = λ vid. not (tree_in c.args.table.now vid == tree_in c.args.others.now vid) in
    let number = c.loop-number.number in
    let vids = c.loop-number.vids in
    let vid = (rw c.unwrap-vid.ensures at c.new.ensures).1 in
    let is = ap test (sym vid) ∙ sym c.is_apart.ensures in
    elim c.if-is_apart.branch [
      | then-is_apart w ↦ w.vids-is ∙ w.insert.ensures ∙ ap (λ v. set_where (λ n. has vids n || is_within (v, v) n)) vid ∙ one_in test number vids (omega arith) (omega arith) (is ∙ w.if-is_apart.true) c.loop-number.invariant
      | else-is_apart w ↦ w.vids-is ∙ c.loop-number.invariant ∙ one_out test number (omega arith) (omega arith) (is ∙ w.if-is_apart.false)
    ]
