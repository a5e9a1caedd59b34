use Rattle.std.proofs.Common.{Vec, Global, ℕ, List, map, refl, ap, ◌∙◌}
use Rattle.std.specs.List.{flat_map}
use Rattle.std.proofs.lemmas.Result.{IfOk-weaker}
use Rattle.mst_judged.specs.reasons.sweep.Cuts.{names_of, parts_at}
use Rattle.mst_island_judges.specs.Grouping.{tells}
use Rattle.mst_judged.specs.reasons.Reasons.{Parts, group_reasons}
use Rattle.mst_island_judges.proofs.grouping.vid_reasons.Goals as goal

pub returns : goal.returns
returns c = IfOk-weaker c.told.result _ _
    (λ reasons told.
    let parts : ℕ → Parts = parts_at c.args.numbers.now (map names_of c.args.bodies.now) in
    record {
      value = parts;
      has = λ vid h. refl;
      groups = map (λ (g : Vec ℕ Global). g.items) c.in_ok-groups.groups.items;
      are_groups = c.in_ok-groups.ensures;
      are = told ∙ ap (λ (gs : List (Vec ℕ Global)). flat_map (group_reasons (tells c.args.telling) parts) (map (λ (g : Vec ℕ Global). g.items) gs)) c.as_slice.ensures.value;
    }) c.told.ensures
