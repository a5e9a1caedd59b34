use Rattle.std.proofs.Common.{◌≡◌, List, ◌∷◌, ◌++◌, [], ap, subst, ◌∙◌, append_assoc}
use Rattle.mst_ids.specs.Vids.{runs_from, set_where}
use Rattle.mst_view.specs.Trees.{is_among}
use Rattle.mst_rows.specs.Rows.{Row}
use Rattle.mst_graph.specs.Lists.{has_any}
use Rattle.mst_sweep.specs.Cuts.{rows_of, runs_of}
use Rattle.mst_sweeping.specs.StepText.{cut_by, deed_row}
use Rattle.mst_sweeping.proofs.step.put_told.Goals as goal

pub returns : goal.returns
returns g c =
    let step = c.args.deed.now in
    let told = c.args.told.now in
    let R = c.args.roots.now in
    let P = c.args.ports in
    let moved : runs_from 0 c.set_of.result ≡ runs_of told.moved.items = ap (runs_from 0) (c.set_of.ensures ∙ ap (λ l. set_where (is_among l)) c.as_slice-moved.ensures.value) in
    let cut : runs_from 0 c.set_of-2.result ≡ runs_of told.cuts.vids.items = ap (runs_from 0) (c.set_of-2.ensures ∙ ap (λ l. set_where (is_among l)) c.as_slice-cut.ensures.value) in
    let joined : runs_from 0 c.set_of-3.result ≡ runs_of told.joined.items = ap (runs_from 0) (c.set_of-3.ensures ∙ ap (λ l. set_where (is_among l)) c.as_slice-joined.ensures.value) in
    let row : Row = deed_row step R P (runs_from 0 c.set_of.result) (runs_from 0 c.set_of-2.result) (runs_from 0 c.set_of-3.result) in
    let cuts : List Row = rows_of (cut_by step) told.classes.numbers.items told.cuts in (
      c.are_some.ensures ∙ ap has_any c.as_slice-moved.ensures.value,
      c.are_some-2.ensures ∙ ap has_any c.as_slice-cut.ensures.value,
      λ first rows grew.
          subst (λ (all : List Row). g.R.Rows.grew first c.put_cuts.new.out all)
          (append_assoc rows (row ∷ []) cuts ∙ (λ i. rows ++ (deed_row step R P (moved i) (cut i) (joined i) ∷ cuts)))
          (subst (λ b. g.R.Rows.grew first c.put_cuts.new.out ((rows ++ row ∷ []) ++ rows_of b told.classes.numbers.items told.cuts)) c.cut_by.ensures
          (c.in_ok-put_cuts.ensures first (rows ++ row ∷ []) (c.in_ok-put_deed.ensures first rows grew))),
    )
