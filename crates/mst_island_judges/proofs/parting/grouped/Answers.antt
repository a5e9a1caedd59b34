use Rattle.std.proofs.Common.{Bor, Vec, Global, ◌≡◌, ℕ, ◌-◌, nat_eq, Bool, List, get_or, length, map, sym, ap, subst, ◌∙◌}
use Rattle.std.specs.Cmp.Lexicographic.{pointwise}
use Rattle.std.proofs.lemmas.List.{length-map}
use Rattle.std.proofs.lemmas.Result.{IfOk-weaker}
use Rattle.mst_graph.specs.Groups.{AreGroups}
use Rattle.mst_graph.proofs.Members.{from_filter}
use Rattle.mst_graph.proofs.Splits.{map_of_map}
use Rattle.mst_ids.specs.Vids.{has}
use Rattle.mst_judged.specs.reasons.sweep.vlan.classes.AllVids.{NumberEach, all_vids}
use Rattle.mst_judged.specs.reasons.sweep.Cuts.{names_of, parts_at}
use Rattle.mst_judged.proofs.reasons_lemmas.sweep_lemmas.SameParts.{same_parts, by_view}
use Rattle.mst_judged.specs.reasons.Named.{vids_in}
use Rattle.mst_judged.specs.reasons.Reasons.{Parts}
use Rattle.mst_island_judges.proofs.VidGroups.{vids_grouped}
use Rattle.mst_island_judges.proofs.parting.grouped.Goals as goal

abbrev Kept : Type 0
Kept = Vec (Vec (List ℕ) Global) Global

-- parts that are borrowed are compared by the names in them
abbrev names_in : Bor Kept → Parts
names_in parts = names_of parts.now

abbrev same : Bor Kept → Bor Kept → Bool
same a b = pointwise (λ (x y : Vec (List ℕ) Global). pointwise (pointwise nat_eq) x.items y.items) a.now.items b.now.items

same_is : (a b : Bor Kept) → same a b ≡ same_parts (names_in a) (names_in b)
same_is a b = by_view (λ (names : Vec (List ℕ) Global). names.items) (pointwise (pointwise nat_eq)) a.now.items b.now.items

pub returns : goal.returns
returns c = IfOk-weaker c.groups_by_body.result _ _
    (λ groups told.
    let numbers : List ℕ = c.args.numbers.now in
    let vids = vids_in c.args.vids.now in
    let bodies : List Kept = c.args.bodies.now in
    let borrowed : List (Bor Kept) = c.in_ok-borrowed.borrowed.items in
    let same_bodies : map (λ (parts : Bor Kept). parts.now) borrowed ≡ bodies = c.in_ok-borrowed.ensures in
    let same_names : map names_in borrowed ≡ map names_of bodies = sym (map_of_map names_of (λ (parts : Bor Kept). parts.now) borrowed) ∙ ap (map names_of) same_bodies in
    let long : length borrowed ≡ length bodies = sym (length-map borrowed (λ (parts : Bor Kept). parts.now)) ∙ ap length same_bodies in
    let each : NumberEach numbers (length borrowed) = subst (NumberEach numbers) (sym long) c.requires in
    let things = c.as_slice-2.ensures.value ∙ c.in_ok-vids.ensures in
    let classes = c.as_slice-3.ensures.value ∙ c.in_ok-classes.ensures.value ∙ ap (map (λ vid. get_or numbers (vid - 1) 0)) (c.as_slice.ensures.value ∙ c.in_ok-vids.ensures) in
    subst (λ each. AreGroups (λ x y. parts_at numbers each x ≡ parts_at numbers each y) vids (map (λ (g : Vec ℕ Global). g.items) groups.items)) same_names
    (vids_grouped names_in same same_is numbers borrowed each vids (λ vid h. (from_filter (has c.args.vids.now) all_vids vid h).0) c.as_slice-2.result.now c.as_slice-3.result.now things classes _ told)) c.groups_by_body.ensures
