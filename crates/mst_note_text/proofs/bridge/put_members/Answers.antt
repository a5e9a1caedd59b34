use Rattle.std.proofs.Common.{◌++◌, [], length, sym, subst, refl}
use Rattle.std.specs.Option.{option_map_or}
use Rattle.std.specs.List.{flat_map, range_with_len}
use Rattle.std.proofs.lemmas.Option.{slice_get_read}
use Rattle.mst_note_text.specs.Places.{depths_at}
use Rattle.mst_note_text.specs.declared.member.Member.{Member}
use Rattle.mst_note_text.specs.SeenNotes.{notes_at, seen_notes}
use Rattle.mst_note_text.proofs.Flat.{numbers_more}
use Rattle.mst_note_text.proofs.bridge.put_members.Goals as goal

pub loop-place-preserved : goal.loop-place-preserved
loop-place-preserved g c first rows grew =
    let bridges = c.args.bridges.now in
    let macs = c.args.macs.now.entries in
    let tree = c.args.tree in
    let members = c.args.members.now in
    let depths = c.args.depths.now in
    let place = c.loop-place.place in
    let f = notes_at bridges macs tree members depths in
    let so_far = rows ++ flat_map f (range_with_len 0 place) in
    let there = slice_get_read members (length members) place c.index-members-place.result refl c.loop-place-test.true c.index-members-place.is in
    numbers_more (g.R.Rows.grew first c.put_member.new.out) f place rows
    (subst (λ o. g.R.Rows.grew first c.put_member.new.out (so_far ++ option_map_or (λ (m : Member). seen_notes bridges macs tree m (depths_at depths place)) o [])) (sym there)
    (c.in_ok-put_member.ensures first so_far (c.loop-place.invariant first rows grew)))
