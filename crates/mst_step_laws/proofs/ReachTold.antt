-- The VIDs that a step cuts or joins are in `reach` rows of the diff.
use Rattle.std.proofs.Common.{◌≡◌, inl, inr, ℕ, ◌==◌, ◌||◌, not, Bool, true, false, List, [], ◌∷◌, ◌++◌, map, Some, refl, sym, ap, subst, ◌∙◌}
use Rattle.std.specs.Prelude.{if◌then◌else◌}
use Rattle.std.specs.Cmp.Lexicographic.{bytes_decides}
use Rattle.std.specs.List.{Contains, filter, flat_map, list_any}
use Rattle.std.proofs.lemmas.Bool.{eqb-true, eq-eqb}
use Rattle.std.proofs.lemmas.List.Elements.{Contains-append_left, Contains-append_right}
use Rattle.mst_graph.specs.Islands.{Island, members}
use Rattle.mst_graph.specs.Walks.{bridge_at, lan_at}
use Rattle.mst_graph.proofs.Members.{cases, from_filter, from_map, here, in_filter, in_map, in_none, passing}
use Rattle.mst_net.specs.tables.Tables.{Net, IsNetwork}
use Rattle.mst_view.specs.Aggregation.{same_name}
use Rattle.mst_rows.specs.Rows.{Row}
use Rattle.mst_diff.specs.vlan.Reach.{AreIslandsOf, bridges_on, lans_up}
use Rattle.mst_forest.specs.Outcome.{Outcome, IsOutcome}
use Rattle.mst_diff.specs.vlan.classes.AllVids.{all_vids}
use Rattle.mst_diff.specs.DiffText.{AreDiffRowsOf, diff_row}
use Rattle.mst_diff.specs.Ports.{port_rows}
use Rattle.mst_diff.specs.Reach.{AreSides, Sides, differ, group_rows, island_bridges, reach_row, reach_unless, same_names, without}
use Rattle.mst_graph.specs.Lists.{has_any}
use Rattle.mst_diff.specs.Regions.{region_changes}
use Rattle.mst_diff.specs.Roots.{root_changes}
use Rattle.mst_diff.specs.declared.diff.Differing.{Differing}
use Rattle.mst_diff.proofs.vlan_lemmas.OneList.{OneList}
use Rattle.mst_diff.proofs.SameSides.{names_decide}
use Rattle.mst_diff.proofs.vlan_lemmas.classes_lemmas.VidPlaces.{is_vid_there}
use Rattle.mst_forest.proofs.Lists.{kept_from, some_is}
use Rattle.mst_verdict.specs.sweep.Cuts.{runs_of}
use Rattle.mst_verdict.specs.sweep.Parts.{ArePartsOf, all_parts, home, staying, stays_at}
use Rattle.mst_verdict.specs.sweeping.MovedVids.{ArePartsBut, remaining}
use Rattle.mst_verdict.proofs.sweep_lemmas.CutApart.{both_true, not_true, stays_is, two_apart}
use Rattle.mst_verdict.proofs.sweep_lemmas.Joined.{home_on, joined_home}
use Rattle.mst_verdict.proofs.sweep_lemmas.Positions.{both_pass}
use Rattle.mst_step_laws.specs.InReach.{IsInDiff, IsInReach, StepAndDiff}

-- ---- lists and booleans
some_there : {A : Type 0} (xs : List A) (x : A) → Contains xs x → has_any xs ≡ true
some_there [] x h = absurd (in_none x h)
some_there (y ∷ xs) x h = refl

each_in : {A B : Type 0} (f : A → List B) (xs : List A) (x : A) (y : B) → Contains xs x → Contains (f x) y → Contains (flat_map f xs) y
each_in f [] x y h k = absurd (in_none x h)
each_in f (z ∷ xs) x y h k = elim (cases z x xs h) [
  | inl same ↦ Contains-append_left (f z) (flat_map f xs) y (subst (λ w. Contains (f w) y) (sym same) k)
  | inr later ↦ Contains-append_right (f z) (flat_map f xs) y (each_in f xs x y later k)
]

true_not : (b : Bool) → (b ≡ true → ⊥) → not b ≡ true
true_not true n = absurd (n refl)
true_not false n = refl

by_first : (b c : Bool) → b ≡ true → (b || c) ≡ true
by_first b c e = ap (λ b. b || c) e

by_second : (b c : Bool) → c ≡ true → (b || c) ≡ true
by_second true c e = refl
by_second false c e = e

-- ---- islands by their bridges
abbrev Named : Type 0
Named = Island (List ℕ) (List ℕ)

abbrev has_bridge : List ℕ → Named → Bool
has_bridge name i = list_any (same_name name) i.bridges

named_in : (name : List ℕ) (i : Named) → has_bridge name i ≡ true → Contains i.bridges name
named_in name i e = let r = passing (same_name name) i.bridges e in subst (Contains i.bridges) (sym ((bytes_decides name r.0).0 r.2)) r.1

a_member : (name : List ℕ) (i : Named) → Contains i.bridges name → Contains (members i) (bridge_at name)
a_member name i h = Contains-append_left (map bridge_at i.bridges) (map lan_at i.lans) (bridge_at name) (in_map bridge_at i.bridges name h)

in_bridges : (islands : List Named) (i : Named) (name : List ℕ) → Contains islands i → Contains i.bridges name → Contains (island_bridges islands) i.bridges
in_bridges islands i name h k =
    in_map (λ (i : Named). i.bridges) (filter (λ (i : Named). has_any i.bridges) islands) i (in_filter (λ (i : Named). has_any i.bridges) islands i h (some_there i.bridges name k))

from_bridges : (islands : List Named) (names : List (List ℕ)) → list_any (λ others. same_names others names) (island_bridges islands) ≡ true → (i : Named) × Contains islands i × (i.bridges ≡ names)
from_bridges islands names e =
    let r = passing (λ others. same_names others names) (island_bridges islands) e in
    let i = from_map (λ (i : Named). i.bridges) (filter (λ (i : Named). has_any i.bridges) islands) r.0 r.1 in
    (i.0, (from_filter (λ (i : Named). has_any i.bridges) islands i.0 i.1).0, i.2 ∙ (names_decide r.0 names).0 r.2)

-- ---- an island that came apart isn't there afterwards
module _ (a b : Net) (o p : Outcome) (vid : ℕ) (olds news : List Named) (afterwards : AreIslandsOf b p vid news) where
  -- bridges of one island are at one place
  one_place : (x y : List ℕ) (i : Named) → Contains news i → Contains i.bridges x → Contains i.bridges y → Contains (bridges_on b) x → Contains (bridges_on b) y → home news x ≡ home news y
  one_place x y i h first second on also =
      let node = Contains-append_left (map bridge_at (bridges_on b)) (map lan_at (lans_up b)) (bridge_at y) (in_map bridge_at (bridges_on b) y also) in
      joined_home b p vid news afterwards x y on also ((afterwards.related (members i) (bridge_at x) (bridge_at y) (in_map members news i h) (a_member x i first) node).0 (a_member y i second))

  lost_where_cut : (bridges : List (List ℕ)) → has_any (all_parts (staying olds news bridges)) ≡ true → has_any (without (island_bridges olds) (island_bridges news)) ≡ true
  lost_where_cut bridges e =
      let r = two_apart (staying olds news bridges) e in
      let x = kept_from (stays_at olds news) bridges r.0 r.2 in
      let y = kept_from (stays_at olds news) bridges r.1 r.3 in
      let at_x = stays_is olds news x.0 r.0 x.2 in
      let at_y = stays_is olds news y.0 r.1 y.2 in
      let places = both_true (r.1.before == r.0.before) (not (r.1.after == r.0.after)) r.4 in
      let before : r.1.before ≡ r.0.before = eqb-true r.1.before r.0.before places.0 in
      let i = both_pass (has_bridge x.0) (has_bridge y.0) 0 r.0.before olds at_x.0 (at_y.0 ∙ ap Some before) in
      let first = named_in x.0 i.0 i.2 in
      let second = named_in y.0 i.0 i.3 in
      let still : list_any (λ others. same_names others i.0.bridges) (island_bridges news) ≡ true → ⊥ = λ there.
      let j = from_bridges news i.0.bridges there in
      let place = one_place x.0 y.0 j.0 j.1 (subst (λ names. Contains names x.0) (sym j.2) first) (subst (λ names. Contains names y.0) (sym j.2) second)
      (home_on b p vid news afterwards x.0 r.0.after at_x.1) (home_on b p vid news afterwards y.0 r.1.after at_y.1) in
      not_true (r.1.after == r.0.after) places.1 (eq-eqb r.1.after r.0.after (sym (some_is r.0.after r.1.after (sym at_x.1 ∙ place ∙ at_y.1))))
      in
      some_there (without (island_bridges olds) (island_bridges news)) i.0.bridges
      (in_filter (λ names. not (list_any (λ others. same_names others names) (island_bridges news))) (island_bridges olds) i.0.bridges (in_bridges olds i.0 x.0 i.1 first)
      (true_not (list_any (λ others. same_names others i.0.bridges) (island_bridges news)) still))

-- so it is on its side
module _ (a b : Net) (o p : Outcome) (one : OneList) (vid : ℕ) (sides : Sides) (s : AreSides a o b p vid sides) where
  old_where_cut : (bridges : List (List ℕ)) (parts : List (List (List ℕ))) → ArePartsOf bridges a o b p vid parts → has_any parts ≡ true → has_any sides.old ≡ true
  old_where_cut bridges parts t some =
      let olds = one a o vid s.0 t.0 s.2 t.2 in
      let news = one b p vid s.1 t.1 s.3 t.3 in
      ap (λ (s : Sides). has_any s.old) s.4 ∙ (λ i. has_any (without (island_bridges (olds i)) (island_bridges (news i)))) ∙ lost_where_cut a b o p vid t.0 t.1 t.3 bridges (sym (ap has_any t.4) ∙ some)

  new_where_joined : (bridges : List (List ℕ)) (parts : List (List (List ℕ))) → ArePartsOf bridges b p a o vid parts → has_any parts ≡ true → has_any sides.new ≡ true
  new_where_joined bridges parts t some =
      let olds = one a o vid s.0 t.1 s.2 t.3 in
      let news = one b p vid s.1 t.0 s.3 t.2 in
      ap (λ (s : Sides). has_any s.new) s.4 ∙ (λ i. has_any (without (island_bridges (news i)) (island_bridges (olds i)))) ∙ lost_where_cut b a p o vid t.0 t.1 t.3 bridges (sym (ap has_any t.4) ∙ some)

-- ---- the row of a VID whose sides differ
told_if : (group : List ℕ) (s : Sides) → differ s ≡ true → Contains (reach_unless group s) (reach_row (runs_of group) s)
told_if group s e = subst (λ (b : Bool). Contains (if b then reach_row (runs_of group) s ∷ [] else []) (reach_row (runs_of group) s)) (sym e) (here (reach_row (runs_of group) s) [])

module _ (a b : Net) (o p : Outcome) (counts : Differing) (rows : List Row) (x : AreDiffRowsOf a o b p counts rows) (vid : ℕ) (there : Contains all_vids vid) (e : differ (x.is_reach.sides vid) ≡ true) where
  abbrev sides : ℕ → Sides
  sides = x.is_reach.sides

  told_in : (group : List ℕ) → Contains x.is_reach.groups group → Contains group vid → Contains (group_rows sides group) (reach_row (runs_of group) (sides vid))
  told_in [] h k = absurd (in_none vid k)
  told_in (v ∷ vs) h k =
      let same = (x.is_reach.are_groups.related (v ∷ vs) v vid h (here v vs) there).0 k in
      subst (λ s. Contains (reach_unless (v ∷ vs) s) (reach_row (runs_of (v ∷ vs)) (sides vid))) (sym same) (told_if (v ∷ vs) (sides vid) e)

  row_there : (group : List ℕ) × Contains group vid × Contains rows (reach_row (runs_of group) (sides vid))
  row_there =
      let group = x.is_reach.are_groups.each vid there in
      let row = reach_row (runs_of group.0) (sides vid) in
      let reach : Contains x.reach row = subst (λ rows. Contains rows row) (sym x.is_reach.is) (each_in (group_rows sides) x.is_reach.groups group.0 row group.1 (told_in group.0 group.1 group.2)) in
      let before = region_changes a b ++ root_changes a o b p ++ port_rows a o b p in
      (group.0, group.2, subst (λ rows. Contains rows row) (sym x.is) (Contains-append_left (before ++ x.reach) (diff_row counts ∷ []) row (Contains-append_right before x.reach row reach)))

  abbrev in_reach : IsInReach a o b p rows vid
  in_reach = record { sides = sides vid; are_sides = x.is_reach.are_sides vid (is_vid_there vid there); group = row_there.0; in_group = row_there.1; is_row = row_there.2 }

-- ---- of a step
module _ (single : (net : Net) (o p : Outcome) → IsNetwork net → IsOutcome net o → IsOutcome net p → o ≡ p) (one : OneList) (a b : Net) (t : StepAndDiff a b) where
  abbrev diff_sides : ℕ → Sides
  diff_sides = t.diff.is_reach.sides

  olds : t.o ≡ t.q
  olds = single a t.o t.q t.stepped.is_old t.stepped.old t.diffed.old

  news : t.p ≡ t.r
  news = single b t.p t.r t.stepped.is_new t.stepped.new t.diffed.new

  abbrev sides_of_vid : (vid : ℕ) → Contains all_vids vid → AreSides a t.q b t.r vid (diff_sides vid)
  sides_of_vid vid there = t.diff.is_reach.are_sides vid (is_vid_there vid there)

  cut_there : (vid : ℕ) → Contains t.step.cut vid → Contains all_vids vid × (has_any (t.step.are_cut.parts vid) ≡ true)
  cut_there vid h = from_filter (λ vid. has_any (t.step.are_cut.parts vid)) all_vids vid (subst (λ vids. Contains vids vid) t.step.are_cut.cut h)

  old_lost : (vid : ℕ) → Contains t.step.cut vid → has_any (diff_sides vid).old ≡ true
  old_lost vid h =
      let own = cut_there vid h in
      let parts = t.step.are_cut.are_parts vid (is_vid_there vid own.0) in
      old_where_cut a b t.q t.r one vid (diff_sides vid) (sides_of_vid vid own.0) (remaining t.leaving vid a) (t.step.are_cut.parts vid)
      (subst (λ q. ArePartsBut t.leaving a q b t.r vid (t.step.are_cut.parts vid)) olds (subst (λ r. ArePartsBut t.leaving a t.o b r vid (t.step.are_cut.parts vid)) news parts)) own.1

  joined_there : (vid : ℕ) → Contains t.step.joined vid → Contains all_vids vid × (t.step.are_joined.flags vid ≡ true)
  joined_there vid h = from_filter t.step.are_joined.flags all_vids vid (subst (λ vids. Contains vids vid) t.step.are_joined.are h)

  new_made : (vid : ℕ) → Contains t.step.joined vid → has_any (diff_sides vid).new ≡ true
  new_made vid h =
      let own = joined_there vid h in
      let j = t.step.are_joined.each vid (is_vid_there vid own.0) in
      new_where_joined a b t.q t.r one vid (diff_sides vid) (sides_of_vid vid own.0) (remaining t.leaving vid b) j.0
      (subst (λ q. ArePartsBut t.leaving b t.r a q vid j.0) olds (subst (λ r. ArePartsBut t.leaving b r a t.o vid j.0) news j.1)) (sym j.2 ∙ own.1)

  pub cut_in_reach : (vid : ℕ) → Contains t.step.cut vid → (row : IsInDiff a b t vid) × (has_any row.sides.old ≡ true)
  cut_in_reach vid h =
      let old = old_lost vid h in
      (in_reach a b t.q t.r t.counts t.changes t.diff vid (cut_there vid h).0 (by_first (has_any (diff_sides vid).old) (has_any (diff_sides vid).new) old), old)

  pub joined_in_reach : (vid : ℕ) → Contains t.step.joined vid → (row : IsInDiff a b t vid) × (has_any row.sides.new ≡ true)
  joined_in_reach vid h =
      let new = new_made vid h in
      (in_reach a b t.q t.r t.counts t.changes t.diff vid (joined_there vid h).0 (by_second (has_any (diff_sides vid).old) (has_any (diff_sides vid).new) new), new)
