use Rattle.std.proofs.Common.{◌++◌, sym, ap, ◌∙◌}
use Rattle.std.proofs.lemmas.Result.{on_ok_weaker}
use Rattle.mst_judged.specs.reasons.Reasons.{some_of}
use Rattle.mst_tree_judges.proofs.LimitRows.{limit_said}
use Rattle.mst_tree_judges.proofs.fits.add_note.Goals as goal

pub returns : goal.returns
returns c =
    let said = limit_said c.args.line c.args.values.now c.tree-item.result c.bridge-item.result c.in-Some.tree c.in-Some-2.bridge c.as_slice.result.now c.in-len2-up.len_at_least c.tree-item.is c.bridge-item.is
    (sym c.in-Some.is ∙ c.number_in.ensures) (sym c.in-Some-2.is ∙ c.in_ok-bridge.ensures) (c.as_slice.ensures.value ∙ c.in_ok-numbers.ensures) in
    on_ok_weaker c.add_limit.result (λ w. w ∙ ap (λ o. c.args.reasons.now.items ++ some_of o) said) c.add_limit.ensures
