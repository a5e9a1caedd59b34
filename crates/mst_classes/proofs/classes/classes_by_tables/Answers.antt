use Rattle.std.proofs.Common.{List, [], ℕ, subst}
use Rattle.std.proofs.lemmas.Result.{IfOk-weaker}
use Rattle.mst_classes.specs.Alike.{TellApart}
use Rattle.mst_classes.proofs.classes.classes_by_tables.Goals as goal

pub returns : goal.returns
returns c =
    let told : List ℕ = c.in_ok-numbers.numbers.items in
    let tables : List (List ℕ) = c.in_ok-tables.tables.items in
    let tell : TellApart tables [] told = subst (λ ts. TellApart ts [] told) c.as_slice.ensures.value c.in_ok-numbers.ensures in
    IfOk-weaker c.number_keys.result _ _ (λ r are. record { tables = tables; have_tables = c.in_ok-tables.ensures; numbers = told; tell = tell; classes = are }) c.number_keys.ensures
