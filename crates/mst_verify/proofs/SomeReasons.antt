-- Each expectation has a list of reasons in a network, none where it holds.
use Rattle.std.proofs.Common.{◌≡◌, ◌≢◌, ◌↔◌, ◌⊎◌, inl, inr, ℕ, zero, suc, ◌≤◌, ◌==◌, ◌||◌, not, Bool, true, false, true≢false, List, [], ◌∷◌, map, Option, Some, None, refl, sym, ap, subst, ◌∙◌, arith, eq-eqb}
use Rattle.std.specs.Prelude.{nat_lt, MatchOption, ⊤, if◌then◌else◌}
use Rattle.std.specs.Cmp.Lexicographic.{bytes_decides}
use Rattle.std.specs.FinMap as fin
use Rattle.std.specs.List.{Contains, filter, filter_map, flat_map}
use Rattle.std.proofs.lemmas.Bool.{eqb-true}
use Rattle.mst_roles.proofs.forest_lemmas.config_lemmas.SameRegion as region
use Rattle.mst_graph.specs.Groups.{AreGroups}
use Rattle.mst_graph.specs.Islands.{AreJoined, Island, link_ends}
use Rattle.mst_graph.specs.Walks.{bridge_at, stay}
use Rattle.mst_graph.proofs.Alike.{alike_groups}
use Rattle.mst_graph.proofs.Members.{here, there, cases, from_filter, in_filter, in_none}
use Rattle.mst_graph.proofs.Walks.{back, joined_to}
use Rattle.mst_view.specs.Aggregation.{same_name}
use Rattle.mst_island_judges.specs.judged.reasons.note_text.declared.children.Child.{Child}
use Rattle.mst_island_judges.specs.judged.reasons.note_text.NotesText.{AreNoteRows}
use Rattle.mst_policy.specs.declared.expectation.Expectation.{Expectation}
use Rattle.mst_policy.specs.declared.expectation.Expectation.TheVariants as expect
use Rattle.mst_rows.specs.Rows.{Row}
use Rattle.mst_net.specs.tables.Tables.{Net, IsNetwork}
use Rattle.mst_roles.specs.forest.config.Regions.{same_region}
use Rattle.mst_roles.specs.forest.nested.Trees.{IsSettled}
use Rattle.mst_roles.specs.forest.Outcome.{Outcome, trees_of}
use Rattle.mst_island_judges.specs.judged.reasons.sweep.vlan.Reach.{AreIslandsOf, bridges_on, vid_links}
use Rattle.mst_island_judges.specs.judged.reasons.sweep.Parts.{home}
use Rattle.mst_island_judges.proofs.judged_lemmas.reasons_lemmas.sweep_lemmas.Joined.{has_home, home_joined, home_on, joined_home}
use Rattle.mst_island_judges.specs.judged.reasons.sweep.declared.failure.Failure.{Failure}
use Rattle.mst_island_judges.specs.judged.reasons.Named.{Prior, named, ports_named, unnamed}
use Rattle.mst_island_judges.specs.judged.reasons.Holds.{AreTogether, IsReached}
use Rattle.mst_island_judges.specs.judged.reasons.Over.{not_as_wanted}
use Rattle.mst_island_judges.specs.judged.reasons.Reasons.{root_reasons, AreRootReasons, has_two, AreRegionReasons, role_reasons, Parts, reach_reason, AreReachReasons, either_on, has_both, is_in, AreBoth, apart_reason, AreApartReasons, leaves_reason, AreLeavesReasons, leaf_reason, AreLeafReasons, AreDepthReasons, carries_reason, avoids_reason, limit_reason, AreReasons}
use Rattle.mst_island_judges.specs.judged.reasons.Roots.{concerned, identifier, IsNextRoot}
use Rattle.mst_tree_judges.specs.Seen.{is_child_of}
use Rattle.mst_island_judges.specs.judged.reasons.declared.reason.Reason.{Reason}
use Rattle.mst_island_judges.specs.judged.reasons.declared.reason.Reason.TheVariants as why
use Rattle.mst_island_judges.proofs.judged_lemmas.OfVids.{groups_of, some_of_parts}
use Rattle.mst_verify.proofs.ReasonsTogether.{IslandsOf, some_together}
use Rattle.mst_tree_judges.proofs.ChildrenTold.{are_deepest, deepest, greatest, none_deeper, of_bridge, some_deepest}
use Rattle.mst_verify.proofs.Paths.{some_hops, some_via}
use Rattle.mst_verify.proofs.SomeChildren.{has_children}

-- ---- bridges in the islands of a VID
module _ (net : Net) (o : Outcome) (vid : ℕ) (islands : List (Island (List ℕ) (List ℕ))) (are : AreIslandsOf net o vid islands) where
  -- places are the same, or none is there and the names are
  abbrev as_one : Option ℕ → Option ℕ → Bool → Bool
  as_one None None alone = alone
  as_one (Some i) (Some j) alone = i == j
  as_one _ _ alone = false

  abbrev together : List ℕ → List ℕ → Bool
  together x y = as_one (home islands x) (home islands y) (same_name x y)

  together_reached : (x y : List ℕ) → together x y ≡ true → IsReached net o vid x y
  together_reached x y = go (home islands x) (home islands y) refl refl
    where
      go : (h k : Option ℕ) → home islands x ≡ h → home islands y ≡ k → as_one h k (same_name x y) ≡ true → IsReached net o vid x y
      go None None e f s = inl ((bytes_decides x y).0 s)
      go (Some i) (Some j) e f s =
          let one : home islands y ≡ Some i = f ∙ ap Some (sym (eqb-true i j s)) in
          inr (record { first = home_on net o vid islands are x i e; second = home_on net o vid islands are y i one; joined = home_joined net o vid islands are x y i e one })
      go None (Some j) e f s = absurd (true≢false (sym s))
      go (Some i) None e f s = absurd (true≢false (sym s))

  as_itself : (h : Option ℕ) (alone : Bool) → alone ≡ true → as_one h h alone ≡ true
  as_itself None alone e = e
  as_itself (Some i) alone e = eq-eqb i i refl

  reached_together : (x y : List ℕ) → IsReached net o vid x y → together x y ≡ true
  reached_together x y (inl same) = subst (λ z. together x z ≡ true) same (as_itself (home islands x) (same_name x x) ((bytes_decides x x).1 refl))
  reached_together x y (inr t) =
      let h = has_home net o vid islands are x t.first in
      let k : home islands y ≡ Some h.0 = sym (joined_home net o vid islands are x y t.first t.second t.joined) ∙ h.1 in
      (λ i. as_one (h.1 i) (k i) (same_name x y)) ∙ eq-eqb h.0 h.0 refl

  decides : (x y : List ℕ) → (together x y ≡ true) ↔ IsReached net o vid x y
  decides x y = (together_reached x y, reached_together x y)

  turned : (x y : List ℕ) → IsReached net o vid x y → IsReached net o vid y x
  turned x y (inl same) = inl (sym same)
  turned x y (inr t) = inr (record { first = t.second; second = t.first; joined = back link_ends t.joined })

  on : (x y z : List ℕ) → IsReached net o vid x y → IsReached net o vid y z → IsReached net o vid x z
  on x y z (inl same) r = subst (λ w. IsReached net o vid w z) (sym same) r
  on x y z (inr t) (inl same) = subst (IsReached net o vid x) same (inr t)
  on x y z (inr t) (inr u) = inr (record { first = t.first; second = u.second; joined = joined_to link_ends t.joined u.joined })

  reached_parts : (bridges : List (List ℕ)) → (parts : Parts) × AreGroups (IsReached net o vid) bridges parts
  reached_parts bridges = groups_of (IsReached net o vid) together decides (λ x. inl refl) turned on bridges

  -- of those that are on
  on_together : (x y : List ℕ) → Contains (bridges_on net) x → IsReached net o vid x y → AreTogether net o vid x y
  on_together x y h (inl same) = record { first = h; second = subst (Contains (bridges_on net)) same h; joined = subst (λ z. AreJoined (vid_links net o vid) (bridge_at x) (bridge_at z)) same stay }
  on_together x y h (inr t) = t

  both_parts : (bridges others : List (List ℕ)) → (parts : Parts) × AreBoth net o bridges others vid parts
  both_parts bridges others =
      let g = reached_parts (either_on net bridges others) in
      let on = λ (x : List ℕ) (h : Contains (either_on net bridges others) x). (from_filter (λ (z : List ℕ). is_in bridges z || is_in others z) (bridges_on net) x h).0 in (
        filter (has_both bridges others) g.0,
        record {
          all = g.0;
          are_parts = alike_groups (IsReached net o vid) (AreTogether net o vid) (either_on net bridges others) g.0 (λ x y hx hy. (on_together x y (on x hx), λ t. inr t)) g.1;
          are = refl;
        },
      )

-- ---- the least of things, by a key
least : {A : Type 0} (key : A → ℕ) (x : A) (xs : List A) → (m : A) × Contains (x ∷ xs) m × ((y : A) → Contains (x ∷ xs) y → key m ≤ key y)
least key x [] = (x, here x [], λ y h. elim (cases x y [] h) [ inl same ↦ (let e = ap key same in omega arith) | inr none ↦ absurd (in_none y none) ])
least {A} key x (z ∷ zs) = go (least key z zs) (either (key x) (key (least key z zs).0))
  where
    either : (a b : ℕ) → (a ≤ b) ⊎ (b ≤ a)
    either zero b = inl (omega arith)
    either (suc a) zero = inr (omega arith)
    either (suc a) (suc b) = elim (either a b) [ inl l ↦ inl (omega arith) | inr l ↦ inr (omega arith) ]

    go : (r : (m : A) × Contains (z ∷ zs) m × ((y : A) → Contains (z ∷ zs) y → key m ≤ key y)) → (key x ≤ key r.0) ⊎ (key r.0 ≤ key x) → (m : A) × Contains (x ∷ z ∷ zs) m × ((y : A) → Contains (x ∷ z ∷ zs) y → key m ≤ key y)
    go r (inl l) = (x, here x (z ∷ zs), λ y h. elim (cases x y (z ∷ zs) h) [ inl same ↦ (let e = ap key same in omega arith) | inr a ↦ (let k : key r.0 ≤ key y = r.2 y a in omega arith) ])
    go r (inr l) = (r.0, there x r.0 (z ∷ zs) r.1, λ y h. elim (cases x y (z ∷ zs) h) [ inl same ↦ (let e = ap key same in omega arith) | inr a ↦ r.2 y a ])

module _ (net : Net) (o : Outcome) where
  -- ---- the next root
  isnt : (x y : List ℕ) → not (same_name x y) ≡ true → x ≢ y
  isnt x y e same = true≢false (sym e ∙ ap not ((bytes_decides x y).1 same))

  is_other : (x y : List ℕ) → x ≢ y → not (same_name x y) ≡ true
  is_other x y other = go (same_name x y) refl
    where
      go : (b : Bool) → same_name x y ≡ b → not (same_name x y) ≡ true
      go true e = absurd (other ((bytes_decides x y).0 e))
      go false e = ap not e

  module _ (tree : ℕ) (b : List ℕ) where
    abbrev those : List (List ℕ)
    those = filter (λ x. not (same_name x b)) (concerned net o tree b)

    some_next : (next : Option (List ℕ)) × MatchOption next ((c : List ℕ) → IsNextRoot net o tree b c → ⊥) (IsNextRoot net o tree b)
    some_next = go those refl
      where
        among : (c : List ℕ) → c ≢ b → Contains (concerned net o tree b) c → Contains those c
        among c other h = in_filter (λ (x : List ℕ). not (same_name x b)) (concerned net o tree b) c h (is_other c b other)

        go : (xs : List (List ℕ)) → those ≡ xs → (next : Option (List ℕ)) × MatchOption next ((c : List ℕ) → IsNextRoot net o tree b c → ⊥) (IsNextRoot net o tree b)
        go [] e = (None, λ c n. in_none c (subst (λ xs. Contains xs c) e (among c n.other n.among)))
        go (x ∷ xs) e =
            let m = least (identifier net tree) x xs in
            let f = from_filter (λ (x : List ℕ). not (same_name x b)) (concerned net o tree b) m.0 (subst (λ xs. Contains xs m.0) (sym e) m.1) in (
              Some m.0,
              record { among = f.0; other = isnt m.0 b f.1; least = λ bridge h other. m.2 bridge (subst (λ xs. Contains xs bridge) e (among bridge other h)) },
            )

    some_root : (wanted : Option (List ℕ)) → (reasons : List Reason) × AreRootReasons net o tree b wanted reasons
    some_root wanted = (root_reasons net o tree b wanted some_next.0, record { next = some_next.0; is_next = some_next.1; are = refl })

  -- ---- regions
  some_region : (bridges : List (List ℕ)) → (reasons : List Reason) × AreRegionReasons net bridges reasons
  some_region bridges =
      let g = groups_of (λ x y. same_region net x y ≡ true) (same_region net) (λ x y. (λ e. e, λ e. e)) (region.itself net) (region.swapped net) (λ x y z e k. region.congr net x y z e ∙ k) bridges in
      ((if has_two g.0 then why.Region g.0 ∷ [] else []), record { parts = g.0; are_parts = g.1; are = refl })

  -- ---- parents
  module _ (ok : IsNetwork net) (settled : IsSettled (trees_of net o)) (tree : ℕ) where
    some_leaf : (bridges : List (List ℕ)) → (reasons : List Reason) × AreLeafReasons net o tree bridges reasons
    some_leaf bridges =
        let c = has_children net ok o settled tree in
        let children : List ℕ → List (List ℕ) = λ bridge. map (λ (child : Child). child.name) (filter (is_child_of bridge) c.0) in
        (flat_map (λ bridge. leaf_reason tree bridge (children bridge)) bridges, record { children = children; are_children = λ bridge _. of_bridge (trees_of net o) settled tree (fin.keys net.bridges) c.0 c.1 bridge; are = refl })

    some_depth : (most : ℕ) → (reasons : List Reason) × AreDepthReasons net o tree most reasons
    some_depth most =
        let c = has_children net ok o settled tree in
        let f = trees_of net o in
        let names = fin.keys net.bridges in
        let top : ℕ = greatest f settled tree names c.0 c.1 in
        let those : List (List ℕ) = deepest f settled tree names c.0 c.1 in (
          (if nat_lt most top then why.Depth tree top those ∷ [] else []),
          record {
            greatest = top;
            none_deeper = none_deeper f settled tree names c.0 c.1;
            deepest = those;
            are_deepest = are_deepest f settled tree names c.0 c.1;
            some = some_deepest f settled tree names c.0 c.1;
            are = refl;
          },
        )

  -- ---- all fourteen
  module _ (ok : IsNetwork net) (settled : IsSettled (trees_of net o)) (islands : IslandsOf net o) (notes : (notes : List Row) × AreNoteRows net o notes) (before : Net) (lost : List Failure) (prior : Prior)
      (olds : MatchOption prior.before ⊤ (λ p. IslandsOf p.0 p.1)) where
    some_reach : (vids : List Bool) (bridges : List (List ℕ)) → (reasons : List Reason) × AreReachReasons net o vids bridges reasons
    some_reach vids bridges = some_of_parts (λ vid parts. AreGroups (IsReached net o vid) bridges parts) reach_reason (λ vid. reached_parts net o vid (islands vid).0 (islands vid).1 bridges) vids

    some_apart : (vids : List Bool) (bridges others : List (List ℕ)) → (reasons : List Reason) × AreApartReasons net o vids bridges others reasons
    some_apart vids bridges others = some_of_parts (AreBoth net o bridges others) apart_reason (λ vid. both_parts net o vid (islands vid).0 (islands vid).1 bridges others) vids

    some_leaves : (vids : List Bool) (bridges others : List (List ℕ)) → (reasons : List Reason) × AreLeavesReasons net o vids bridges others reasons
    some_leaves vids bridges others = some_of_parts (AreBoth net o bridges others) leaves_reason (λ vid. both_parts net o vid (islands vid).0 (islands vid).1 bridges others) vids

    pub some_reasons : (e : Expectation) → (reasons : List Reason) × AreReasons net o before lost prior e reasons
    some_reasons (expect.Root tree b next) = some_root tree b next
    some_reasons (expect.Region names) = some_region (named net lost names)
    some_reasons (expect.Role tree ports roles) = (role_reasons net o tree (ports_named net before ports) roles, refl)
    some_reasons (expect.Reach vids names) = some_reach vids (named net lost names)
    some_reasons (expect.Apart vids names others) = some_apart vids (named net lost names) (named net lost others)
    some_reasons (expect.Leaves vids names) = some_leaves vids (named net lost names) (unnamed net names)
    some_reasons (expect.Together vids names) = some_together net o vids lost names prior.leaving islands prior.before olds
    some_reasons (expect.Leaf tree names) = some_leaf ok settled tree (named net lost names)
    some_reasons (expect.Depth tree steps) = some_depth ok settled tree steps
    some_reasons (expect.Hops vids most names) = some_hops net o vids most (named net lost names)
    some_reasons (expect.Via vids a b c) = some_via net o vids a b c
    some_reasons (expect.Carries lan vids) = (carries_reason lan (not_as_wanted net o lan true vids), refl)
    some_reasons (expect.Avoids lan vids) = (avoids_reason lan (not_as_wanted net o lan false vids), refl)
    some_reasons expect.Fits = (filter_map (λ (note : Row). limit_reason note.kind note.cells) notes.0, record { notes = notes.0; are_notes = notes.1; are = refl })
