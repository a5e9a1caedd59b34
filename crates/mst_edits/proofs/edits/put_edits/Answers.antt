use Rattle.std.proofs.Common.{[], ◌∷◌, ◌++◌, ap, subst, ◌∙◌, append_assoc}
use Rattle.mst_edits.specs.Edits.{has_any}
use Rattle.mst_edits.specs.EditRows.{edits_rows, first_row}
use Rattle.mst_edits.proofs.edits.put_edits.Goals as goal

pub returns : goal.returns
returns g c first rows grew = (
  c.is_any.ensures ∙ ap has_any (c.deref-2.ensures.value ∙ c.in_ok-all.ensures),
  subst (g.R.Rows.grew first c.put_rows.new.out) (append_assoc rows (first_row ∷ []) (edits_rows c.deref.result.now) ∙ ap (λ es. rows ++ first_row ∷ edits_rows es) (c.deref.ensures.value ∙ c.in_ok-all.ensures))
      (c.in_ok-put_rows.ensures first _ (c.in_ok-put_version.ensures first rows grew)),
)
