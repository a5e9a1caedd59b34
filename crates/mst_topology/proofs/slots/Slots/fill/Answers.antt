use Rattle.std.proofs.Common.{refl, sym, ◌∙◌, ap, ◌<◌, ℕ, length, arith, length-set, inl, inr}
use Rattle.mst_topology.specs.Places.{in_map}
use Rattle.mst_topology.specs.Chains.{IsAt}
use Rattle.mst_topology.proofs.Entries.{slots_set, is_set, at_set_cases}
use Rattle.mst_topology.proofs.Effects.{set_rooms}
use Rattle.mst_topology.proofs.Reserved.{set_back, below_other}
use Rattle.mst_topology.proofs.slots.Slots.fill.Goals as goal

pub loop-place-init : goal.loop-place-init
loop-place-init g c = record {
  slots = c.self.invariant;
  filled = λ k n x l h. absurd (omega arith);
  rooms = λ n r. r;
  back = λ n r. r;
  len = refl;
}

pub loop-place-preserved : goal.loop-place-preserved
loop-place-preserved g c =
    let before = c.loop-place.invariant in
    let items = c.loop-place.self-inside.entries.items in
    let same = before.len in
    let size = c.len-place-end.ensures in
    let test = c.loop-place-test.true in
    let full = c.self.inside.entries.ok.0 in
    let low : c.loop-place.place < length c.loop-place.self-inside.entries.items = omega arith in
    let at : IsAt c.loop-place.self-inside.entries.items c.loop-place.place c.index.result.now = (low, sym c.index.ensures) in
    let there = before.slots.back c.index.result.now.0 c.loop-place.place c.index.result.now.1 at in
    let set = is_set (in_map c.loop-place.self-inside.places) items before.slots c.index.result.now.0 c.loop-place.place there c.args.value in
    record {
      slots = slots_set (in_map c.loop-place.self-inside.places) items before.slots c.index.result.now.0 c.loop-place.place there c.args.value;
      filled = λ k n x l h. elim (at_set_cases items c.loop-place.place (c.index.result.now.0, c.args.value) low k (n, x) h) [
        | inl s ↦ ap (λ (e : ℕ × g.row.T.Denot). e.1) s.1
        | inr s ↦ before.filled k n x (below_other k c.loop-place.place l s.0) s.1
      ];
      rooms = λ n r. set_rooms items c.index.result.now.0 c.args.value _ set n (before.rooms n r);
      back = λ n r. before.back n (set_back items c.index.result.now.0 c.args.value _ set (c.index.result.now.1, (c.loop-place.place, at.0, at.1)) n r);
      len = length-set items c.loop-place.place (c.index.result.now.0, c.args.value) ∙ before.len;
    }

pub returns-clause-back : goal.returns-clause-back
returns-clause-back g c = λ n r. rw (← c.self.view_is) (c.loop-place.invariant.back n r)
