-- The edit of a failure makes the network with it.
use Rattle.std.proofs.Common.{◌≡◌, List, [], ◌∷◌, refl, sym, ap, ◌∙◌}
use Rattle.mst_lang.specs.declared.line.Edit.{Edit}
use Rattle.mst_net.specs.tables.Contents.{Contents, Tables}
use Rattle.mst_roles.specs.forest.Settled.{tables_with}
use Rattle.mst_sweeping.specs.sweep.Failures.{edit_of, failed}
use Rattle.mst_sweeping.specs.sweep.declared.failure.Failure.{Failure}
use Rattle.mst_sweeping.specs.sweep.declared.failure.Failure.TheVariants.{Lan, Bridge}

abbrev pub with_failures : List Failure → Contents → Tables
with_failures failures c = record { net = failed failures c.net; numbers = c.numbers }

made_by : (failure : Failure) (c : Contents) → tables_with c (edit_of failure ∷ []) ≡ with_failures (failure ∷ []) c
made_by (Lan lan) c = refl
made_by (Bridge bridge) c = refl

pub made_ahead : (failure : Failure) (edit : Edit) (failures : List Failure) (c : Contents) → edit ≡ edit_of failure → failures ≡ failure ∷ [] → tables_with c (edit ∷ []) ≡ with_failures failures c
made_ahead failure edit failures c is are = ap (λ edit. tables_with c (edit ∷ [])) is ∙ made_by failure c ∙ ap (λ fs. with_failures fs c) (sym are)
