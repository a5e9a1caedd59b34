use Rattle.std.proofs.Common.{Vec, Global, ℕ, List, Option, None, map, refl, ap, ◌∙◌}
use Rattle.std.specs.List.{flat_map}
use Rattle.std.proofs.lemmas.Result.{IfOk-weaker}
use Rattle.mst_judged.specs.Valued.{value_at}
use Rattle.mst_judged.specs.reasons.Reasons.{group_reasons}
use Rattle.mst_judged.specs.reasons.Stretches.{Stretch}
use Rattle.mst_path_judges.specs.Asked.{tells, told_of}
use Rattle.mst_path_judges.proofs.telling.vid_reasons.Goals as goal

pub returns : goal.returns
returns c = IfOk-weaker c.told_groups.result _ _
    (λ reasons told.
    let value : ℕ → Option Stretch = value_at None c.args.numbers.now (map told_of c.args.values.now) in
    record {
      value = value;
      has = λ vid h. refl;
      groups = map (λ (g : Vec ℕ Global). g.items) c.in_ok-groups.groups.items;
      are_groups = c.in_ok-groups.ensures;
      are = told ∙ ap (λ (gs : List (Vec ℕ Global)). flat_map (group_reasons (tells c.args.asked.now) value) (map (λ (g : Vec ℕ Global). g.items) gs)) c.as_slice.ensures.value;
    }) c.told_groups.ensures
