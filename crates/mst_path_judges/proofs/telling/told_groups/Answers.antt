use Rattle.std.proofs.Common.{Vec, Global, ℕ, List, None, map, refl, ap, ◌∙◌}
use Rattle.std.specs.List.{flat_map}
use Rattle.std.proofs.lemmas.List.{take_all}
use Rattle.mst_judged.specs.Valued.{value_at}
use Rattle.mst_judged.specs.reasons.Reasons.{group_reasons}
use Rattle.mst_judged.specs.reasons.declared.reason.Reason.{Reason}
use Rattle.mst_judged.proofs.reasons_lemmas.Things.{flat_named}
use Rattle.mst_path_judges.specs.Asked.{tells, told_of}
use Rattle.mst_path_judges.proofs.telling.told_groups.Goals as goal

pub returns : goal.returns
returns c =
    let groups : List (Vec ℕ Global) = c.args.groups.now in
    let of : List ℕ → List Reason = group_reasons (tells c.args.asked.now) (value_at None c.args.numbers.now (map told_of c.args.values.now)) in
    c.loop-group.invariant ∙ ap (flat_map (λ (g : Vec ℕ Global). of g.items)) (take_all c.loop-group.group-index groups c.loop-group-test.false) ∙ flat_named (λ (g : Vec ℕ Global). g.items) of of (λ group. refl) groups
