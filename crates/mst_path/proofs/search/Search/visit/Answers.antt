use Rattle.std.proofs.Common.{◌≡◌, ◌≢◌, ◌<◌, ◌+◌, ℕ, get_or, length, sym, ap, ◌∙◌, subst, arith}
use Rattle.std.proofs.lemmas.List.{get_or_default, get_or_read}
use Rattle.std.proofs.lemmas.List.Elements.{Contains-get_or}
use Rattle.mst_path.specs.Places.{Reaches}
use Rattle.mst_path.specs.declared.search.Search.{Search}
use Rattle.mst_path.proofs.Searched.{none_grown, other_inside, reached_below, IsVisited, known_visited, new_visited}
use Rattle.mst_path.proofs.search.Search.visit.Goals as goal
use Rattle.mst_path.proofs.search.Search.visit.Goals.{then-index-eq0+in_ok-push, else-index-eq0}

pub loop-place-init : goal.loop-place-init
loop-place-init c = record {
  searched = c.requires.searched;
  grown = none_grown c.args.self.now.depths.items c.args.self.now.queue.items;
  near = c.requires.near;
  reaches = λ k h. absurd (omega arith);
}

pub index-requires : goal.index-requires
index-requires c = let inside = reached_below c.args.self.now.depths.items c.args.at c.requires.at in omega (arith, c.args.self.now.depths.ok.0, inside)

pub other_end-other-requires-clause-touches : goal.other_end-other-requires-clause-touches
other_end-other-requires-clause-touches c = c.requires.places (get_or c.args.places.now c.loop-place.place-index 0) (Contains-get_or c.args.places.now c.loop-place.place-index 0 c.loop-place-test.true)

pub loop-place-preserved : goal.loop-place-preserved
loop-place-preserved c =
    let b = c.args.bridges.now in
    let l = c.args.lans.now in
    let places = c.args.places.now in
    let index : ℕ = c.loop-place.place-index in
    let s : Search = c.loop-place.self in
    let new : Search = c.if-index-eq0.self in
    let other : ℕ = c.other_end-other.result in
    let inv = c.loop-place.invariant in
    let touches = c.requires.places (get_or places index 0) (Contains-get_or places index 0 c.loop-place-test.true) in
    let inside_old = other_inside b l (length c.args.self.now.depths.items) c.requires.nodes (get_or places index 0) c.args.at other touches.0 c.other_end-other.ensures in
    let inside : other < length s.depths.items = subst (λ n. other < n) (sym inv.grown.as_long) inside_old in
    let at_is : get_or s.depths.items c.args.at 0 ≡ get_or c.args.self.now.depths.items c.args.at 0 = inv.grown.reached c.args.at c.requires.at in
    let at_reached : 0 < get_or s.depths.items c.args.at 0 = subst (λ n. 0 < n) (sym at_is) c.requires.at in
    let read : c.index-in-loop-place.result.now ≡ get_or s.depths.items other 0 = get_or_read s.depths.items other c.index-in-loop-place.result.now inside c.index-in-loop-place.ensures 0 in
    let deep : c.index.result.now + 1 ≡ get_or s.depths.items c.args.at 0 + 1 =
    ap (λ (n : ℕ). n + 1) (get_or_read c.args.self.now.depths.items c.args.at c.index.result.now (reached_below c.args.self.now.depths.items c.args.at c.requires.at) c.index.ensures 0 ∙ sym at_is) in
    elim c.if-index-eq0.branch [
      | then-index-eq0+in_ok-push w ↦
          new_visited b l places c.args.self.now.depths.items c.args.self.now.queue.items index c.args.at other s.depths.items s.queue.items inv c.other_end-other.ensures at_reached touches.0 inside (sym read ∙ w.if-index-eq0.true)
          (c.index.result.now + 1) deep new.depths.items new.queue.items (ap (λ (s : Search). s.queue.items) w.self-is ∙ w.in_ok-push.ensures.items) (ap (λ (s : Search). s.depths.items) w.self-is)
      | else-index-eq0 w ↦
          subst (λ (n : Search). IsVisited b l places c.args.self.now.depths.items c.args.self.now.queue.items (index + 1) c.args.at n.depths.items n.queue.items) (sym w.self-is)
          (known_visited b l places c.args.self.now.depths.items c.args.self.now.queue.items index c.args.at other s.depths.items s.queue.items inv c.other_end-other.ensures at_reached
          (let off : get_or s.depths.items other 0 ≢ 0 = λ e. w.if-index-eq0.false (read ∙ e) in omega arith))
    ]

pub index-requires-in-loop-place : goal.index-requires-in-loop-place
index-requires-in-loop-place c =
    let place : ℕ = get_or c.args.places.now c.loop-place.place-index 0 in
    let touches = c.requires.places place (Contains-get_or c.args.places.now c.loop-place.place-index 0 c.loop-place-test.true) in
    let inside = other_inside c.args.bridges.now c.args.lans.now (length c.args.self.now.depths.items) c.requires.nodes place c.args.at c.other_end-other.result touches.0 c.other_end-other.ensures in
    let same = c.loop-place.invariant.grown.as_long in
    omega (arith, c.loop-place.self.depths.ok.0, inside, same)

pub index_mut-requires : goal.index_mut-requires
index_mut-requires c =
    let place : ℕ = get_or c.args.places.now c.loop-place.place-index 0 in
    let touches = c.requires.places place (Contains-get_or c.args.places.now c.loop-place.place-index 0 c.loop-place-test.true) in
    let inside = other_inside c.args.bridges.now c.args.lans.now (length c.args.self.now.depths.items) c.requires.nodes place c.args.at c.other_end-other.result touches.0 c.other_end-other.ensures in
    let same = c.loop-place.invariant.grown.as_long in
    omega (arith, c.loop-place.self.depths.ok.0, inside, same)

pub returns : goal.returns
returns c = record {
  searched = c.loop-place.invariant.searched;
  grown = c.loop-place.invariant.grown;
  near = c.loop-place.invariant.near;
  reaches = λ place h.
      let below : h.0 < c.loop-place.place-index = (let a = h.1 in let b = c.loop-place-test.false in omega arith) in
      subst (Reaches c.args.bridges.now c.args.lans.now c.loop-place.self.depths.items c.args.at) (get_or_default c.args.places.now h.0 0 place h.1 ∙ h.2) (c.loop-place.invariant.reaches h.0 below);
}
