use Rattle.std.proofs.Common.{◌≡◌, ◌∷◌, [], ◌++◌, List, get_or, sym, ap, ◌∙◌, zero-add}
use Rattle.std.specs.Option.{option_map_or}
use Rattle.std.proofs.lemmas.List.FromFn.{map-range_with_len_more}
use Rattle.std.proofs.lemmas.Option.{slice_get-get_or}
use Rattle.mst_note_text.specs.SeenTree.{child_at, name_at}
use Rattle.mst_note_text.specs.declared.children.Child.{Child}
use Rattle.mst_note_text.specs.declared.member.Member.{Member}
use Rattle.mst_note_text.proofs.children.listed.Goals as goal

pub loop-place-preserved : goal.loop-place-preserved
loop-place-preserved c =
    let i = c.loop-place.place in
    let members = c.args.members.now in
    let of = child_at members c.args.parents.now c.args.depths.now in
    let m = c.index-members-place.result in
    let named : (get_or members i m).name ≡ name_at members i = sym (ap (λ o. option_map_or (λ (m : Member). m.name) o []) (slice_get-get_or members i m c.loop-place-test.true)) in
    let before : List Child = c.loop-place.children.items in
    c.in_ok-push.ensures.items
    ∙ (λ j. before ++ record { name = named j; parent = c.name_of.ensures j; steps = (of i).steps } ∷ [])
    ∙ (λ j. c.loop-place.invariant j ++ of i ∷ [])
    ∙ sym (map-range_with_len_more of 0 i i (zero-add i))
