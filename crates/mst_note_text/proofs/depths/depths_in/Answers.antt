use Rattle.std.proofs.Common.{◌≡◌, ◌<◌, ℕ, length, Vec}
use Rattle.std.specs.declared.alloc.Global.{Global}
use Rattle.mst_roles.specs.forest.Outcome.{trees_of}
use Rattle.mst_roles.specs.forest.Settled.{outcome_of}
use Rattle.mst_roles.proofs.forest_lemmas.SettledNet.{forest_of}
use Rattle.mst_note_text.specs.Depths.{InternalDepth, ExternalDepth}
use Rattle.mst_note_text.specs.Places.{HasDepths, depths_at}
use Rattle.mst_note_text.specs.declared.parent.Depths.{Depths}
use Rattle.mst_note_text.specs.SeenTree.{name_at}
use Rattle.mst_note_text.proofs.Found.{if_ok, same_given, is_forest, internal_found, external_found}
use Rattle.mst_note_text.proofs.depths.depths_in.Goals as goal

pub depths_of-requires : goal.depths_of-requires
depths_of-requires c =
    let s = c.args.plan.now in
    let is = c.known.ensures in
    let parents = c.in_ok-parents.parents.items in
    let gave = same_given c.view.result.now s.view c.forest.result.now s.forest c.view.ensures c.forest.ensures c.args.tree c.in_ok-places.places.entries (length c.args.members.now) parents c.in_ok-parents.ensures in
    rw c.as_slice.ensures.value (is_forest s.view s.forest c.args.tree c.args.members.now c.requires c.in_ok-places.places.entries c.in_ok-places.ensures parents gave
    s.net s.numbers (forest_of s is) is.of (c.nested.ensures.settled s.net (outcome_of s) is.of.network is.is_outcome))

pub returns-clause-internal : goal.returns-clause-internal
returns-clause-internal c =
    let s = c.args.plan.now in
    let is = c.known.ensures in
    let members = c.args.members.now in
    let parents = c.in_ok-parents.parents.items in
    let gave = same_given c.view.result.now s.view c.forest.result.now s.forest c.view.ensures c.forest.ensures c.args.tree c.in_ok-places.places.entries (length members) parents c.in_ok-parents.ensures in
    if_ok c.depths_of.result (λ (found : Vec Depths Global). (n : ℕ) → n < length c.as_slice.result.now → HasDepths c.as_slice.result.now n (depths_at found.items n))
    (λ (found : Vec Depths Global). (n : ℕ) → n < length members → InternalDepth (trees_of s.net (outcome_of s)) c.args.tree (name_at members n) (depths_at found.items n).internal)
    (λ found each. internal_found s.view s.forest c.args.tree members c.requires c.in_ok-places.places.entries c.in_ok-places.ensures parents gave
    s.net s.numbers (forest_of s is) is.of (c.nested.ensures.settled s.net (outcome_of s) is.of.network is.is_outcome) found.items (rw c.as_slice.ensures.value at each))
    c.depths_of.ensures.depths

pub returns-clause-external : goal.returns-clause-external
returns-clause-external c =
    let s = c.args.plan.now in
    let is = c.known.ensures in
    let members = c.args.members.now in
    let parents = c.in_ok-parents.parents.items in
    let gave = same_given c.view.result.now s.view c.forest.result.now s.forest c.view.ensures c.forest.ensures c.args.tree c.in_ok-places.places.entries (length members) parents c.in_ok-parents.ensures in
    if_ok c.depths_of.result (λ (found : Vec Depths Global). (n : ℕ) → n < length c.as_slice.result.now → HasDepths c.as_slice.result.now n (depths_at found.items n))
    (λ (found : Vec Depths Global). c.args.tree ≡ 0 → (n : ℕ) → n < length members → ExternalDepth (trees_of s.net (outcome_of s)) (name_at members n) (depths_at found.items n).external)
    (λ found each. external_found s.view s.forest c.args.tree members c.requires c.in_ok-places.places.entries c.in_ok-places.ensures parents gave
    s.net s.numbers (forest_of s is) is.of (c.nested.ensures.settled s.net (outcome_of s) is.of.network is.is_outcome) found.items (rw c.as_slice.ensures.value at each))
    c.depths_of.ensures.depths
