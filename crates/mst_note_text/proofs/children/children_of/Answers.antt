use Rattle.std.proofs.Common.{◌≡◌, ℕ, ◌<◌, List, length, map, sym, ap, subst, ◌∙◌, arith}
use Rattle.std.specs.List.{range_with_len}
use Rattle.std.specs.FinMap as fin
use Rattle.std.specs.Option.{option_map}
use Rattle.std.proofs.lemmas.List.{length-map}
use Rattle.std.proofs.lemmas.Result.{IfOk-weaker}
use Rattle.mst_roles.specs.forest.Outcome.{trees_of}
use Rattle.mst_roles.specs.forest.Settled.{outcome_of}
use Rattle.mst_roles.proofs.forest_lemmas.SettledNet.{forest_of}
use Rattle.mst_note_text.specs.Children.{AreChildren}
use Rattle.mst_note_text.specs.Places.{HasDepths, IsForest, depths_at}
use Rattle.mst_note_text.specs.SeenTree.{all_within, as_within, child_at, members_in}
use Rattle.mst_note_text.specs.declared.children.Child.{Child}
use Rattle.mst_note_text.proofs.Found.{same_given}
use Rattle.mst_note_text.proofs.TreeChildren.{counts, are_children}
use Rattle.mst_note_text.proofs.children.children_of.Goals as goal

pub depths_of-requires : goal.depths_of-requires
depths_of-requires c =
    let s = c.args.plan.now in
    let is = c.known.ensures in
    let tree = c.args.tree in
    let members = c.as_slice-members.result.now in
    let parents = c.in_ok-parents.parents.items in
    let places = c.in_ok-places.places.entries in
    let are = c.as_slice-members.ensures.value ∙ c.in_ok-all.ensures ∙ (λ i. members_in (c.view-view.ensures i) (c.forest-forest.ensures i) tree) in
    let gave = same_given c.view-view.result.now s.view c.forest-forest.result.now s.forest c.view-view.ensures c.forest-forest.ensures tree places (length members) parents c.in_ok-parents.ensures in
    let all : c.as_slice-2.result.now ≡ all_within parents = c.as_slice-2.ensures.value ∙ c.in_ok-counted.ensures ∙ ap all_within c.as_slice.ensures.value in
    subst IsForest (sym all) (counts s.view s.forest tree members are places c.in_ok-places.ensures parents gave
    s.net s.numbers (forest_of s is) is.of (c.nested.ensures.settled s.net (outcome_of s) is.of.network is.is_outcome))

pub returns : goal.returns
returns c = IfOk-weaker c.listed.result _ _
    (λ children told.
    let s = c.args.plan.now in
    let is = c.known.ensures in
    let tree = c.args.tree in
    let members = c.as_slice-members.result.now in
    let parents = c.in_ok-parents.parents.items in
    let depths = c.in_ok-depths.depths.items in
    let places = c.in_ok-places.places.entries in
    let are = c.as_slice-members.ensures.value ∙ c.in_ok-all.ensures ∙ (λ i. members_in (c.view-view.ensures i) (c.forest-forest.ensures i) tree) in
    let gave = same_given c.view-view.result.now s.view c.forest-forest.result.now s.forest c.view-view.ensures c.forest-forest.ensures tree places (length members) parents c.in_ok-parents.ensures in
    let all : c.as_slice-2.result.now ≡ all_within parents = c.as_slice-2.ensures.value ∙ c.in_ok-counted.ensures ∙ ap all_within c.as_slice.ensures.value in
    let long : length (all_within parents) ≡ length parents = length-map parents (option_map as_within) in
    let found = c.in_ok-depths.ensures.depths in
    let each = λ (n : ℕ) (low : n < length parents). (let l : n < length (all_within parents) = omega (arith, long, low) in
    subst (λ ps. HasDepths ps n (depths_at depths n)) all (found n (subst (λ ps. n < length ps) (sym all) l))) in
    let listed : children.items ≡ map (child_at members parents depths) (range_with_len 0 (length members)) =
    told ∙ (λ i. map (child_at members (c.as_slice-3.ensures.value i) (c.as_slice-4.ensures.value i)) (range_with_len 0 (length members))) in
    subst (AreChildren (trees_of s.net (outcome_of s)) tree (fin.keys s.net.bridges)) (sym {A = List Child} listed)
    (are_children s.view s.forest tree members are places c.in_ok-places.ensures parents gave
    s.net s.numbers (forest_of s is) is.of (c.nested.ensures.settled s.net (outcome_of s) is.of.network is.is_outcome) depths each)) c.listed.ensures
