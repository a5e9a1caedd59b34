-- A reason is told just where an expectation doesn't hold: of regions and of islands.
use Rattle.std.proofs.Common.{◌≡◌, ◌↔◌, inl, inr, ℕ, ◌&&◌, ◌||◌, Bool, true, false, true≢false, List, [], ◌∷◌, refl, sym, ap, subst, ◌∙◌}
use Rattle.std.specs.List.{Contains, list_any}
use Rattle.std.specs.Cmp.Lexicographic.{bytes_decides}
use Rattle.mst_ids.specs.Vids.{set_where}
use Rattle.mst_graph.specs.Groups.{AreGroups, IsThinned, StandOnce, no_groups, one_more, kept}
use Rattle.mst_graph.proofs.Members.{here, cases, in_none, in_whole, in_filter, passing, thinned_none}
use Rattle.mst_graph.proofs.Unique as unique
use Rattle.mst_net.specs.tables.Tables.{Net}
use Rattle.mst_roles.specs.forest.config.Regions.{same_region}
use Rattle.mst_view.specs.Aggregation.{same_name}
use Rattle.mst_view.specs.Trees.{is_among}
use Rattle.mst_roles.specs.forest.Outcome.{Outcome}
use Rattle.mst_graph.specs.Lists.{has_any}
use Rattle.mst_island_judges.specs.judged.reasons.sweep.vlan.Reach.{bridges_on}
use Rattle.mst_island_judges.specs.judged.reasons.Named.{vids_in}
use Rattle.mst_island_judges.specs.judged.reasons.Holds.{AllReach, AreApart, AreOneRegion, AreTogether, IsReached}
use Rattle.mst_island_judges.specs.judged.reasons.Reasons.{has_two, AreRegionReasons, Parts, group_reasons, AreVidReasons, reach_reason, AreReachReasons, is_in, either_on, has_both, AreBoth, apart_reason, AreApartReasons, leaves_reason, AreLeavesReasons}
use Rattle.mst_island_judges.specs.judged.reasons.declared.reason.Reason.{Reason}
use Rattle.mst_island_judges.specs.judged.reasons.declared.reason.Reason.TheVariants as why
use Rattle.mst_island_judges.proofs.judged_lemmas.reasons_lemmas.Things.{any_passes, none_passes, passes_none, told_if, each_none, none_each, thinned_self}

-- ---- two groups
module _ {A : Type 0} (R : A → A → Type 0) where
  -- where there is one group at most, all things are related
  one_group : (things : List A) (groups : List (List A)) → AreGroups R things groups → has_two groups ≡ false → (x y : A) → Contains things x → Contains things y → R x y
  one_group things [] are e x y hx hy = absurd (in_none (are.each x hx).0 (are.each x hx).1)
  one_group things (g ∷ h ∷ groups) are e x y hx hy = absurd (true≢false e)
  one_group things (g ∷ []) are e x y hx hy =
      let a = are.each x hx in
      let b = are.each y hy in
      (are.related g x y (here g []) (own a.0 x a.1 a.2) hy).0 (own b.0 y b.1 b.2)
    where
      own : (group : List A) (z : A) → Contains (g ∷ []) group → Contains group z → Contains g z
      own group z there_is has = elim (cases g group [] there_is) [ inl same ↦ subst (λ k. Contains k z) (sym same) has | inr none ↦ absurd (in_none group none) ]

  -- the groups of related things: all in one
  abbrev whole : List A → List (List A)
  whole [] = []
  whole (x ∷ xs) = (x ∷ xs) ∷ []

  whole_groups : (things : List A) → ((x y : A) → Contains things x → Contains things y → R x y) → AreGroups R things (whole things)
  whole_groups [] all = record {
    each = λ x h. absurd (in_none x h);
    related = λ group x y k. absurd (in_none group k);
    in_order = λ group k. absurd (in_none group k);
    firsts = [];
    begin_with = no_groups;
    by_firsts = thinned_none [];
  }
  whole_groups (z ∷ zs) all = record {
    each = λ x h. (z ∷ zs, here (z ∷ zs) [], h);
    related = λ group x y k hx hy. (
      λ h. all x y (subst (λ g. Contains g x) (sym (only group k)) hx) hy,
      λ r. subst (λ g. Contains g y) (only group k) hy,
    );
    in_order = λ group k. subst (λ g. IsThinned g (z ∷ zs)) (only group k) (thinned_self (z ∷ zs));
    firsts = z ∷ [];
    begin_with = one_more no_groups;
    by_firsts = kept (thinned_none zs);
  }
    where
      only : (group : List A) → Contains ((z ∷ zs) ∷ []) group → z ∷ zs ≡ group
      only group k = elim (cases (z ∷ zs) group [] k) [ inl same ↦ same | inr none ↦ absurd (in_none group none) ]

  not_two : (things : List A) → has_two (whole things) ≡ false
  not_two [] = refl
  not_two (x ∷ xs) = refl

  pub two_groups : (things : List A) → StandOnce things → (groups : List (List A)) → AreGroups R things groups → (has_two groups ≡ false) ↔ ((x y : A) → Contains things x → Contains things y → R x y)
  two_groups things once groups are = (
    one_group things groups are,
    λ all. ap has_two (unique.one_list R things once groups (whole things) are (whole_groups things all)) ∙ not_two things,
  )

-- ---- regions
pub region_broken : (net : Net) (bridges : List (List ℕ)) → StandOnce bridges → (reasons : List Reason) → AreRegionReasons net bridges reasons → (reasons ≡ []) ↔ AreOneRegion net bridges
region_broken net bridges once reasons r =
    let t = told_if (has_two r.parts) (why.Region r.parts) in
    let g = two_groups (λ x y. same_region net x y ≡ true) bridges once r.parts r.are_parts in
    (λ e. g.0 (t.0 (sym r.are ∙ e)), λ all. r.are ∙ t.1 (g.1 all))

-- ---- VIDs
module _ {B : Type 0} (Has : ℕ → B → Type 0) (tell : List ℕ → B → List Reason) (quiet : B → Bool) (tells : (group : List ℕ) (value : B) → (tell group value ≡ []) ↔ (quiet value ≡ false))
    (vids : List Bool) (reasons : List Reason) (r : AreVidReasons Has tell vids reasons) where
  vid_quiet : reasons ≡ [] → (vid : ℕ) → Contains (vids_in vids) vid → quiet (r.value vid) ≡ false
  vid_quiet e vid h = let g = r.are_groups.each vid h in go g.0 g.1 g.2
    where
      go : (group : List ℕ) → Contains r.groups group → Contains group vid → quiet (r.value vid) ≡ false
      go [] k has = absurd (in_none vid has)
      go (v ∷ others) k has =
          let v_in = in_whole (r.are_groups.in_order (v ∷ others) k) v (here v others) in
          let same : r.value vid ≡ r.value v = (r.are_groups.related (v ∷ others) vid v k has v_in).0 (here v others) in
          ap quiet same ∙ (tells (v ∷ others) (r.value v)).0 (each_none (group_reasons tell r.value) r.groups (sym r.are ∙ e) (v ∷ others) k)

  quiet_vid : ((vid : ℕ) → Contains (vids_in vids) vid → quiet (r.value vid) ≡ false) → reasons ≡ []
  quiet_vid all = r.are ∙ none_each (group_reasons tell r.value) r.groups go
    where
      go : (group : List ℕ) → Contains r.groups group → group_reasons tell r.value group ≡ []
      go [] k = refl
      go (v ∷ others) k = (tells (v ∷ others) (r.value v)).1 (all v (in_whole (r.are_groups.in_order (v ∷ others) k) v (here v others)))

  pub vids_broken : (reasons ≡ []) ↔ ((vid : ℕ) → Contains (vids_in vids) vid → quiet (r.value vid) ≡ false)
  vids_broken = (vid_quiet, quiet_vid)

pub reach_broken : (net : Net) (o : Outcome) (vids : List Bool) (bridges : List (List ℕ)) → StandOnce bridges → (reasons : List Reason) → AreReachReasons net o vids bridges reasons
    → (reasons ≡ []) ↔ AllReach net o vids bridges
reach_broken net o vids bridges once reasons r =
    let b = vids_broken (λ vid parts. AreGroups (IsReached net o vid) bridges parts) reach_reason has_two (λ group parts. told_if (has_two parts) (why.Reach (set_where (is_among group)) parts)) vids reasons r in
    let g = λ (vid : ℕ) (h : Contains (vids_in vids) vid). two_groups (IsReached net o vid) bridges once (r.value vid) (r.has vid h) in
    (λ e vid h. (g vid h).0 (b.0 e vid h), λ all. b.1 (λ vid h. (g vid h).1 (all vid h)))

-- ---- islands with bridges of both lists
in_there : (bridges : List (List ℕ)) (x : List ℕ) → Contains bridges x → is_in bridges x ≡ true
in_there bridges x h = any_passes (same_name x) bridges x h ((bytes_decides x x).1 refl)

there_in : (bridges : List (List ℕ)) (x : List ℕ) → is_in bridges x ≡ true → Contains bridges x
there_in bridges x e = let p = passing (same_name x) bridges e in subst (Contains bridges) (sym ((bytes_decides x p.0).0 p.2)) p.1

or_left : (a b : Bool) → a ≡ true → a || b ≡ true
or_left true b e = refl
or_left false b e = absurd (true≢false (sym e))

or_right : (a b : Bool) → b ≡ true → a || b ≡ true
or_right true b e = refl
or_right false b e = e

both_true : (a b : Bool) → a ≡ true → b ≡ true → a && b ≡ true
both_true true b e k = k
both_true false b e k = absurd (true≢false (sym e))

first_true : (a b : Bool) → a && b ≡ true → (a ≡ true) × (b ≡ true)
first_true true b e = (refl, e)
first_true false b e = absurd (true≢false (sym e))

module _ (net : Net) (o : Outcome) (bridges others : List (List ℕ)) (vid : ℕ) (parts : Parts) (r : AreBoth net o bridges others vid parts) where
  abbrev Apart : Type 0
  Apart = (x y : List ℕ) → Contains bridges x → Contains others y → AreTogether net o vid x y → ⊥

  either_there : (x : List ℕ) → Contains (bridges_on net) x → is_in bridges x || is_in others x ≡ true → Contains (either_on net bridges others) x
  either_there x on e = in_filter (λ z. is_in bridges z || is_in others z) (bridges_on net) x on e

  apart_there : has_any parts ≡ false → Apart
  apart_there e x y hx hy t =
      let x_in = either_there x t.first (or_left (is_in bridges x) (is_in others x) (in_there bridges x hx)) in
      let y_in = either_there y t.second (or_right (is_in bridges y) (is_in others y) (in_there others y hy)) in
      let g = r.are_parts.each x x_in in
      let y_too = (r.are_parts.related g.0 x y g.1 g.2 y_in).1 t in
      let both = both_true (list_any (is_in bridges) g.0) (list_any (is_in others) g.0) (any_passes (is_in bridges) g.0 x g.2 (in_there bridges x hx)) (any_passes (is_in others) g.0 y y_too (in_there others y hy)) in
      true≢false (sym both ∙ passes_none (has_both bridges others) r.all (ap has_any (sym r.are) ∙ e) g.0 g.1)

  there_apart : Apart → has_any parts ≡ false
  there_apart apart = ap has_any r.are ∙ none_passes (has_both bridges others) r.all (λ part k. go part k (has_both bridges others part) refl)
    where
      go : (part : List (List ℕ)) → Contains r.all part → (b : Bool) → has_both bridges others part ≡ b → has_both bridges others part ≡ false
      go part k false e = e
      go part k true e =
          let b = first_true (list_any (is_in bridges) part) (list_any (is_in others) part) e in
          let x = passing (is_in bridges) part b.0 in
          let y = passing (is_in others) part b.1 in
          let y_in = in_whole (r.are_parts.in_order part k) y.0 y.1 in
          absurd (apart x.0 y.0 (there_in bridges x.0 x.2) (there_in others y.0 y.2) ((r.are_parts.related part x.0 y.0 k x.1 y_in).0 y.1))

-- whatever is told of such parts
module _ (net : Net) (o : Outcome) (vids : List Bool) (bridges others : List (List ℕ)) (reasons : List Reason) where
  both_broken : (tell : List ℕ → Parts → List Reason) → ((group : List ℕ) (parts : Parts) → (tell group parts ≡ []) ↔ (has_any parts ≡ false)) → AreVidReasons (AreBoth net o bridges others) tell vids reasons
      → (reasons ≡ []) ↔ AreApart net o vids bridges others
  both_broken tell tells r =
      let b = vids_broken (AreBoth net o bridges others) tell has_any tells vids reasons r in
      (λ e vid h. apart_there net o bridges others vid (r.value vid) (r.has vid h) (b.0 e vid h), λ apart. b.1 (λ vid h. there_apart net o bridges others vid (r.value vid) (r.has vid h) (apart vid h)))

  pub apart_broken : AreApartReasons net o vids bridges others reasons → (reasons ≡ []) ↔ AreApart net o vids bridges others
  apart_broken r = both_broken apart_reason (λ group parts. told_if (has_any parts) (why.Apart (set_where (is_among group)) parts)) r

  pub leaves_broken : AreLeavesReasons net o vids bridges others reasons → (reasons ≡ []) ↔ AreApart net o vids bridges others
  leaves_broken r = both_broken leaves_reason (λ group parts. told_if (has_any parts) (why.Leaves (set_where (is_among group)) parts)) r
