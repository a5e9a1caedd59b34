use Rattle.std.proofs.Common.{Bor, Vec, Global, ◌≡◌, ℕ, ◌-◌, List, Option, None, get_or, length, map, sym, ap, subst, ◌∙◌}
use Rattle.std.proofs.lemmas.List.{length-map}
use Rattle.std.proofs.lemmas.Result.{IfOk-weaker}
use Rattle.mst_graph.specs.Groups.{AreGroups}
use Rattle.mst_graph.proofs.Members.{from_filter}
use Rattle.mst_graph.proofs.Splits.{map_of_map}
use Rattle.mst_ids.specs.Vids.{has}
use Rattle.mst_judged.specs.Valued.{value_at}
use Rattle.mst_judged.specs.reasons.sweep.vlan.classes.AllVids.{NumberEach, all_vids}
use Rattle.mst_judged.specs.reasons.Named.{vids_in}
use Rattle.mst_judged.specs.reasons.Stretches.{Stretch}
use Rattle.mst_judged.proofs.ValueGroups.{values_grouped}
use Rattle.mst_path_judges.specs.Asked.{told_of}
use Rattle.mst_path_judges.specs.declared.stretch.Stretch as kept
use Rattle.mst_path_judges.proofs.Kept.{kept_decide, same_kept}
use Rattle.mst_path_judges.proofs.telling.grouped.Goals as goal

abbrev view : Bor (Option kept.Stretch) → Option Stretch
view value = told_of value.now

pub returns : goal.returns
returns c = IfOk-weaker c.groups_by_body.result _ _
    (λ groups told.
    let numbers : List ℕ = c.args.numbers.now in
    let vids = vids_in c.args.vids.now in
    let values : List (Option kept.Stretch) = c.args.values.now in
    let borrowed : List (Bor (Option kept.Stretch)) = c.in_ok-borrowed.borrowed.items in
    let same_values : map (λ (value : Bor (Option kept.Stretch)). value.now) borrowed ≡ values = c.in_ok-borrowed.ensures in
    let same_told : map view borrowed ≡ map told_of values = sym (map_of_map told_of (λ (value : Bor (Option kept.Stretch)). value.now) borrowed) ∙ ap (map told_of) same_values in
    let long : length borrowed ≡ length values = sym (length-map borrowed (λ (value : Bor (Option kept.Stretch)). value.now)) ∙ ap length same_values in
    let each : NumberEach numbers (length borrowed) = subst (NumberEach numbers) (sym long) c.requires in
    let things = c.as_slice-2.ensures.value ∙ c.in_ok-vids.ensures in
    let classes = c.as_slice-3.ensures.value ∙ c.in_ok-classes.ensures.value ∙ ap (map (λ vid. get_or numbers (vid - 1) 0)) (c.as_slice.ensures.value ∙ c.in_ok-vids.ensures) in
    subst (λ each. AreGroups (λ x y. value_at None numbers each x ≡ value_at None numbers each y) vids (map (λ (g : Vec ℕ Global). g.items) groups.items)) same_told
    (values_grouped None view (λ a b. same_kept a.now b.now) (λ a b. kept_decide a.now b.now) numbers borrowed each vids (λ vid h. (from_filter (has c.args.vids.now) all_vids vid h).0) c.as_slice-2.result.now c.as_slice-3.result.now things classes _ told))
    c.groups_by_body.ensures
