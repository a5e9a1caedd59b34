use Rattle.std.proofs.Common.{◌≡◌, ◌++◌, ℕ, List, Option, None, map, sym, ap, subst, ◌∙◌}
use Rattle.std.specs.Prelude.{OnOk}
use Rattle.mst_judged.specs.Valued.{value_at}
use Rattle.mst_judged.specs.reasons.Stretches.{Stretch}
use Rattle.mst_judged.specs.reasons.declared.reason.Reason.{Reason}
use Rattle.mst_judged.proofs.ClassValues.{begins, value_read}
use Rattle.mst_path_judges.specs.Asked.{tells, told_of}
use Rattle.mst_path_judges.specs.declared.stretch.Stretch as kept
use Rattle.mst_path_judges.proofs.telling.add_group.Goals as goal

pub returns : goal.returns
returns c =
    let group : List ℕ = c.args.group.now in
    let numbers : List ℕ = c.args.numbers.now in
    let asked = c.args.asked.now in
    let values : List (Option kept.Stretch) = c.args.values.now in
    let vid : ℕ = c.in-Some.vid.now in
    let number : ℕ = c.class_of-number.result in
    let value : Option kept.Stretch = c.index-values-number.result in
    let at : ℕ → Option Stretch = value_at None numbers (map told_of values) in
    let read : at vid ≡ told_of value = value_read None told_of numbers values vid number value c.class_of-number.ensures.value c.class_of-number.ensures.below c.index-values-number.is in
    subst (λ (l : List Reason). OnOk c.add_reason.result (c.add_reason.new.reasons.items ≡ c.args.reasons.now.items ++ l))
    (ap (tells asked group) (sym read) ∙ sym (begins (tells asked) at group vid c.in-Some.ensures.value))
    c.add_reason.ensures
