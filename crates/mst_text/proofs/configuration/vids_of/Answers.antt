use Rattle.std.proofs.Common.{◌==◌, ◌||◌, sym, ap, ◌∙◌, arith}
use Rattle.mst_ids.specs.Vids.{set_where, has, is_within}
use Rattle.mst_tables.specs.Table.{tree_in}
use Rattle.mst_text.proofs.VidsOf.{one_taken, one_passed}
use Rattle.mst_text.proofs.configuration.vids_of.Goals as goal
use Rattle.mst_text.proofs.configuration.vids_of.Goals.{then-eq, else-eq}

pub loop-number-preserved : goal.loop-number-preserved
loop-number-preserved c =
    let table = c.args.table.now in
    let tree = c.args.tree in
    let number = c.loop-number.number in
    let vids = c.loop-number.vids in
    let vid = (rw c.unwrap-vid.ensures at c.new.ensures).1 in
    let test = ap (λ v. tree_in table v == tree) (sym vid) ∙ ap (λ t. t == tree) (sym c.tree.ensures) ∙ sym c.eq.ensures in
    elim c.if-eq.branch [
      | then-eq w ↦ w.vids-is ∙ w.insert.ensures ∙ ap (λ v. set_where (λ n. has vids n || is_within (v, v) n)) vid ∙ one_taken table tree vids number c.loop-number.invariant (omega arith) (test ∙ w.if-eq.true)
      | else-eq w ↦ w.vids-is ∙ c.loop-number.invariant ∙ one_passed table tree number (test ∙ w.if-eq.false)
    ]
