use Rattle.std.proofs.Common.{◌≡◌, ◌<◌, ℕ, true, nat_eq, [], ◌∷◌, ◌++◌, length, map, take, get_or, sym, ap, subst, ◌∙◌}
use Rattle.std.proofs.lemmas.List.{take_more, take_all, map_push, get_or_read}
use Rattle.mst_graph.specs.Adding.{AreKeyed}
use Rattle.mst_graph.specs.Groups.{AreGroups}
use Rattle.mst_graph.specs.Numbers.{HaveBodies}
use Rattle.mst_graph.proofs.ByBody.{key_by, by_bodies, key_more}
use Rattle.mst_graph.proofs.Outcomes.{on_ok}
use Rattle.mst_graph.proofs.bodies.groups_by_body.Goals as goal

pub loop-place-preserved : goal.loop-place-preserved
loop-place-preserved g c =
    let things = c.args.things.now in
    let numbers = c.args.numbers.now in
    let bodies = c.args.bodies.items in
    let joined = c.in_ok-joined.joined.numbers.items in
    let i = c.loop-place.place in
    let thing = c.index-things-place.result in
    let pairs = c.loop-place.pairs.items in
    let inv = c.loop-place.invariant in
    let few = c.requires.as_long in
    let i_in : i < length things = c.loop-place-test.true in
    let in_numbers : (k : ℕ) → k < length things → get_or numbers k 0 < length bodies =
    λ k below. subst (λ n. get_or numbers k 0 < n) c.args.bodies.ok.0 (c.requires.below k 0 (subst (λ n. k < n) (sym few) below)) in
    let as_long : length joined ≡ length bodies = c.in_ok-joined.ensures.as_long in
    let read = get_or_read joined (get_or numbers i 0) c.index.result.now (subst (λ n. get_or numbers i 0 < n) (sym as_long) (in_numbers i i_in)) c.index.ensures 0 in
    let pairs_are = c.in_ok-push.ensures.items ∙ ap (λ n. pairs ++ (thing, n) ∷ []) read in
    record {
      things =
          ap (map (λ p. p.0)) pairs_are ∙ map_push (λ p. p.0) pairs (thing, get_or joined (get_or numbers i 0) 0) ∙ ap (λ xs. xs ++ thing ∷ []) inv.things
          ∙ sym (take_more things i thing i_in ∙ ap (λ x. take i things ++ x ∷ []) (sym c.index-things-place.is));
      keyed = λ body have. subst (AreKeyed (key_by g.B.PartialEq.eq body bodies joined)) (sym pairs_are)
          (key_more g.B.PartialEq.eq g.met.B.Eq.laws body things numbers bodies joined c.in_ok-joined.joined.firsts.items c.in_ok-joined.ensures have in_numbers pairs i thing i_in
          c.index-things-place.is (inv.keyed body have));
    }

pub returns : goal.returns
returns g c =
    let things = c.args.things.now in
    let numbers = c.args.numbers.now in
    let bodies = c.args.bodies.items in
    let joined = c.in_ok-joined.joined.numbers.items in
    let pairs = c.loop-place.pairs.items in
    let inv = c.loop-place.invariant in
    let few = c.requires.as_long in
    let in_numbers : (k : ℕ) → k < length things → get_or numbers k 0 < length bodies =
    λ k below. subst (λ n. get_or numbers k 0 < n) c.args.bodies.ok.0 (c.requires.below k 0 (subst (λ n. k < n) (sym few) below)) in
    let all = inv.things ∙ take_all c.loop-place.place things c.loop-place-test.false in
    on_ok
    (λ v. (key : g.row.T.Denot → ℕ) → AreKeyed key pairs → AreGroups (λ x y. nat_eq (key x) (key y) ≡ true) (map (λ p. p.0) pairs) (map (λ w. w.items) v.items))
    (λ v. (body : g.row.T.Denot → g.row.B.Denot) → HaveBodies g.B.PartialEq.eq body things numbers bodies → AreGroups (λ x y. g.B.PartialEq.eq (body x) (body y) ≡ true) things (map (λ w. w.items) v.items))
    c.groups.result
    (λ v grouped body have.
    by_bodies g.B.PartialEq.eq g.met.B.Eq.laws body things numbers bodies joined c.in_ok-joined.joined.firsts.items c.in_ok-joined.ensures have in_numbers (map (λ w. w.items) v.items)
    (subst (λ ts. AreGroups (λ x y. nat_eq (key_by g.B.PartialEq.eq body bodies joined x) (key_by g.B.PartialEq.eq body bodies joined y) ≡ true) ts (map (λ w. w.items) v.items)) all
    (grouped (key_by g.B.PartialEq.eq body bodies joined) (inv.keyed body have))))
    c.groups.ensures
