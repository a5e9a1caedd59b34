use Rattle.std.proofs.Common.{◌≡◌, sym, ◌∙◌}
use Rattle.mst_roles.specs.forest.Settled.{outcome_of}
use Rattle.mst_roles.proofs.forest_lemmas.SettledNet.{forest_of}
use Rattle.mst_note_text.specs.SeenNotes.{members_notes}
use Rattle.mst_note_text.specs.SeenTree.{members_in}
use Rattle.mst_note_text.proofs.Noting.{notes_are}
use Rattle.mst_note_text.proofs.tree.put_tree.Goals as goal

pub depths_in-requires : goal.depths_in-requires
depths_in-requires g c = c.as_slice.ensures.value ∙ c.in_ok-members.ensures ∙ (λ i. members_in (c.view-view.ensures i) (c.forest-forest.ensures i) c.args.tree)

pub returns : goal.returns
returns g c d are_depths first rows grew =
    let s = c.args.plan.now in
    let is = c.known.ensures in
    let macs = c.args.macs.now.entries in
    let tree = c.args.tree in
    let depths = c.in_ok-depths.ensures in
    let members : c.as_slice.result.now ≡ members_in s.view s.forest tree = c.as_slice.ensures.value ∙ c.in_ok-members.ensures ∙ (λ i. members_in (c.view-view.ensures i) (c.forest-forest.ensures i) tree) in
    let text = notes_are s.net s.numbers s.view s.forest is.of (forest_of s is) (c.nested.ensures.settled s.net (outcome_of s) is.of.network is.is_outcome) macs c.requires d are_depths
    tree c.as_slice.result.now members c.in_ok-depths.depths.items depths.internal depths.external in
    let seen : members_notes c.bridges.result.now macs tree c.as_slice-2.result.now c.as_slice-3.result.now ≡ members_notes s.view.bridges macs tree c.as_slice.result.now c.in_ok-depths.depths.items =
    (λ i. members_notes ((c.bridges.ensures ∙ (λ j. (c.view-view.ensures j).bridges)) i) macs tree ((c.as_slice-2.ensures.value ∙ sym c.as_slice.ensures.value) i) (c.as_slice-3.ensures.value i)) in
    rw (seen ∙ text) at c.put_members.ensures first rows grew
