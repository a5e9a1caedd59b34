use Rattle.std.proofs.Common.{◌++◌, ap, sym, subst, ◌∙◌, append-nil, arith}
use Rattle.std.specs.List.{flat_map, range_with_len}
use Rattle.mst_roles.specs.forest.Settled.{outcome_of}
use Rattle.mst_roles.proofs.forest_lemmas.SettledNet.{forest_of}
use Rattle.mst_note_text.specs.NotesText.{tree_notes}
use Rattle.mst_note_text.specs.contracts.notes.put_trees.{R-type}
use Rattle.mst_note_text.proofs.Flat.{numbers_more}
use Rattle.mst_note_text.proofs.Unhad.{no_notes, all_trees}
use Rattle.mst_note_text.proofs.notes.put_trees.Goals as goal
use Rattle.mst_note_text.proofs.notes.put_trees.Goals.{then-had-number+in_ok-put_tree, else-had-number}

pub loop-number-preserved : goal.loop-number-preserved
loop-number-preserved g c d are_depths first rows grew =
    let s = c.args.plan.now in
    let is = c.known.ensures in
    let number = c.loop-number.number in
    let notes = tree_notes s.net (outcome_of s) d in
    let so_far = rows ++ flat_map notes (range_with_len 0 number) in
    let grown = c.loop-number.invariant d are_depths first rows grew in
    numbers_more (g.R.Rows.grew first c.if-had-number.out) notes number rows
    (elim c.if-had-number.branch [
      | then-had-number+in_ok-put_tree w ↦
          subst (λ (o : R-type g.row.R). g.R.Rows.grew first o (so_far ++ notes number)) (sym w.out-is)
          (subst (λ t. g.R.Rows.grew first w.put_tree.new.out (so_far ++ notes t)) (rw w.unwrap-tree.ensures at w.new.ensures).1 (w.in_ok-put_tree.ensures d are_depths first so_far grown))
      | else-had-number w ↦
          subst (λ (o : R-type g.row.R). g.R.Rows.grew first o (so_far ++ notes number)) (sym w.out-is)
          (subst (g.R.Rows.grew first c.loop-number.out)
          (sym (append-nil so_far)
          ∙ ap (λ t. so_far ++ t) (sym (no_notes s.net s.numbers s.view s.forest is.of (forest_of s is) (c.nested.ensures.settled s.net (outcome_of s) is.of.network is.is_outcome) d number
          (sym (c.requires.had number c.loop-number-test.true) ∙ w.if-had-number.false)))) grown)
    ])

pub returns : goal.returns
returns g c d are_depths first rows grew =
    let s = c.args.plan.now in
    all_trees (g.R.Rows.grew first c.loop-number.out) s.net (outcome_of s) d c.loop-number.number rows (omega arith) (c.loop-number.invariant d are_depths first rows grew)
