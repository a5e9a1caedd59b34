-- The groups of the things so far, and one more thing.
use Rattle.std.proofs.Common.{◌≡◌, ℕ, ◌+◌, inl, inr, Bool, true, false, cond, not, ◌||◌, true≢false, List, [], ◌∷◌, ◌++◌, map, get_or, set, suc, refl, sym, ap, subst, ◌∙◌, arith}
use Rattle.std.specs.List.{Contains, list_any, position_or_len, filter, AllByRecursion}
use Rattle.std.specs.Cmp.{IsEquivalence, on_equiv}
use Rattle.std.proofs.lemmas.List.{append-nil, map-append}
use Rattle.std.proofs.lemmas.List.Elements.{filter-append, Contains-push_cases}
use Rattle.std.proofs.lemmas.List.Folds.{list_any-append}
use Rattle.std.proofs.lemmas.Map.Steps.{list_any_congr}
use Rattle.indexmap.specs.IndexSet.{insert_key}
use Rattle.mst_graph.specs.Adding.{with_thing}
use Rattle.mst_graph.specs.Groups.{IsThinned, nothing, BeginWith, no_groups, one_more, AreGroups}
use Rattle.mst_graph.proofs.Members.{in_none, passing, in_map, from_map, in_filter, from_filter, filter_thins, filter_none, kept_last, left_out_last}

module _ {A : Type 0} (same : A → A → Bool) where
  -- the things of one group with x
  abbrev pub class : List A → A → List A
  class xs x = filter (same x) xs

  -- no two are the same
  abbrev pub Differ : List A → Type 0
  Differ [] = Unit {0}
  Differ (x ∷ xs) = (list_any (same x) xs ≡ false) × Differ xs

  -- its group begins with it
  abbrev pub Leads : List A → A → Type 0
  Leads xs x = (rest : List A) × (class xs x ≡ x ∷ rest)

  -- the things xs stand in groups, each led by the first of its things
  pub record Grouped (xs leaders : List A) (groups : List (List A)) : Type 0 where
    pub are : groups ≡ map (class xs) leaders
    pub met : (x : A) → Contains xs x → list_any (same x) leaders ≡ true
    pub differ : Differ leaders
    pub lead : AllByRecursion (Leads xs) leaders
    pub thinned : IsThinned leaders xs

  pub none_grouped : Grouped [] [] []
  none_grouped = record { are = refl; met = λ x h. absurd (in_none x h); differ = tt; lead = tt; thinned = nothing }

  module _ (laws : IsEquivalence same) where
    -- a class with one more thing
    class_more : (xs : List A) (x l : A) (b : Bool) → same x l ≡ b → class (xs ++ x ∷ []) l ≡ class xs l ++ cond b (x ∷ []) []
    class_more xs x l b e = filter-append (same l) xs (x ∷ []) ∙ ap (λ t. class xs l ++ cond t (x ∷ []) []) (laws.symm l x ∙ e)

    -- the classes that a thing is not in
    others : (xs leaders : List A) (x : A) → list_any (same x) leaders ≡ false → map (class (xs ++ x ∷ [])) leaders ≡ map (class xs) leaders
    others xs [] x h = refl
    others xs (l ∷ ls) x h = go (same x l) refl h (others xs ls x)
      where
        go : (b : Bool) → same x l ≡ b → b || list_any (same x) ls ≡ false → (list_any (same x) ls ≡ false → map (class (xs ++ x ∷ [])) ls ≡ map (class xs) ls)
            → map (class (xs ++ x ∷ [])) (l ∷ ls) ≡ map (class xs) (l ∷ ls)
        go true e h rest = absurd (true≢false h)
        go false e h rest =
            ap (λ g. g ∷ map (class (xs ++ x ∷ [])) ls) (class_more xs x l false e ∙ append-nil (class xs l))
            ∙ ap (λ gs. class xs l ∷ gs) (rest h)

    one_up : (n : ℕ) → 1 + n ≡ suc n
    one_up n = omega arith

    -- the classes where a thing is in one of them
    put : (xs leaders : List A) (x : A) → Differ leaders → list_any (same x) leaders ≡ true
        → map (class (xs ++ x ∷ [])) leaders
        ≡ set (map (class xs) leaders) (position_or_len (same x) leaders) (get_or (map (class xs) leaders) (position_or_len (same x) leaders) [] ++ x ∷ [])
    put xs [] x differ h = absurd (true≢false (sym h))
    put xs (l ∷ ls) x differ h = go (same x l) refl h (put xs ls x differ.1)
      where
        at : ℕ
        at = position_or_len (same x) ls

        go : (b : Bool) → same x l ≡ b → b || list_any (same x) ls ≡ true
            → (list_any (same x) ls ≡ true → map (class (xs ++ x ∷ [])) ls ≡ set (map (class xs) ls) at (get_or (map (class xs) ls) at [] ++ x ∷ []))
            → map (class (xs ++ x ∷ [])) (l ∷ ls)
            ≡ set (map (class xs) (l ∷ ls)) (cond (not b) (1 + at) 0) (get_or (map (class xs) (l ∷ ls)) (cond (not b) (1 + at) 0) [] ++ x ∷ [])
        go true e h rest =
            ap (λ g. g ∷ map (class (xs ++ x ∷ [])) ls) (class_more xs x l true e)
            ∙ ap (λ gs. (class xs l ++ x ∷ []) ∷ gs) (others xs ls x (list_any_congr laws x l ls e ∙ differ.0))
        go false e h rest =
            ap (λ g. g ∷ map (class (xs ++ x ∷ [])) ls) (class_more xs x l false e ∙ append-nil (class xs l))
            ∙ ap (λ gs. class xs l ∷ gs) (rest h)
            ∙ sym (ap (λ n. set (map (class xs) (l ∷ ls)) n (get_or (map (class xs) (l ∷ ls)) n [] ++ x ∷ [])) (one_up at))

    -- leaders lead on
    lead_on : (xs leaders : List A) (x : A) → AllByRecursion (Leads xs) leaders → AllByRecursion (Leads (xs ++ x ∷ [])) leaders
    lead_on xs [] x h = tt
    lead_on xs (l ∷ ls) x h =
        ((h.0.0 ++ cond (same x l) (x ∷ []) [], class_more xs x l (same x l) refl ∙ ap (λ g. g ++ cond (same x l) (x ∷ []) []) h.0.1), lead_on xs ls x h.1)

    met_on : (xs leaders : List A) (x : A) → list_any (same x) leaders ≡ true → ((y : A) → Contains xs y → list_any (same y) leaders ≡ true)
        → (y : A) → Contains (xs ++ x ∷ []) y → list_any (same y) leaders ≡ true
    met_on xs leaders x met before y h = elim (Contains-push_cases xs x y h) [
      | inl a ↦ before y a
      | inr e ↦ ap (λ z. list_any (same z) leaders) (sym e) ∙ met
    ]

    -- a thing of a group that is there
    pub add_known : (xs leaders : List A) (groups : List (List A)) (x : A) → list_any (same x) leaders ≡ true → Grouped xs leaders groups
        → Grouped (xs ++ x ∷ []) leaders (set groups (position_or_len (same x) leaders) (get_or groups (position_or_len (same x) leaders) [] ++ x ∷ []))
    add_known xs leaders groups x met g = record {
      are = ap (λ gs. set gs (position_or_len (same x) leaders) (get_or gs (position_or_len (same x) leaders) [] ++ x ∷ [])) g.are ∙ sym (put xs leaders x g.differ met);
      met = met_on xs leaders x met g.met;
      differ = g.differ;
      lead = lead_on xs leaders x g.lead;
      thinned = left_out_last x g.thinned;
    }

    differ_more : (leaders : List A) (x : A) → list_any (same x) leaders ≡ false → Differ leaders → Differ (leaders ++ x ∷ [])
    differ_more [] x h d = (refl, tt)
    differ_more (l ∷ ls) x h d = go (same x l) refl h (λ k. differ_more ls x k d.1)
      where
        go : (b : Bool) → same x l ≡ b → b || list_any (same x) ls ≡ false → (list_any (same x) ls ≡ false → Differ (ls ++ x ∷ [])) → Differ ((l ∷ ls) ++ x ∷ [])
        go true e h rest = absurd (true≢false h)
        go false e h rest =
            (list_any-append (same l) ls (x ∷ []) ∙ ap (λ b. b || (same l x || false)) d.0 ∙ ap (λ b. b || false) (laws.symm l x ∙ e), rest h)

    lead_more : (xs leaders : List A) (x : A) → class (xs ++ x ∷ []) x ≡ x ∷ [] → AllByRecursion (Leads (xs ++ x ∷ [])) leaders → AllByRecursion (Leads (xs ++ x ∷ [])) (leaders ++ x ∷ [])
    lead_more xs [] x alone h = (([], alone), tt)
    lead_more xs (l ∷ ls) x alone h = (h.0, lead_more xs ls x alone h.1)

    -- a thing of a new group
    pub add_new : (xs leaders : List A) (groups : List (List A)) (x : A) → list_any (same x) leaders ≡ false → Grouped xs leaders groups
        → Grouped (xs ++ x ∷ []) (leaders ++ x ∷ []) (groups ++ (x ∷ []) ∷ [])
    add_new xs leaders groups x new g = record {
      are =
          ap (λ gs. gs ++ (x ∷ []) ∷ []) (g.are ∙ sym (others xs leaders x new))
          ∙ ap (λ c. map (class (xs ++ x ∷ [])) leaders ++ c ∷ []) (sym alone)
          ∙ sym (map-append (class (xs ++ x ∷ [])) leaders (x ∷ []));
      met = met_on xs (leaders ++ x ∷ []) x
          (list_any-append (same x) leaders (x ∷ []) ∙ ap (λ b. b || (same x x || false)) new ∙ ap (λ b. b || false) (laws.refl x))
          (λ y h. list_any-append (same y) leaders (x ∷ []) ∙ ap (λ b. b || (same y x || false)) (g.met y h));
      differ = differ_more leaders x new g.differ;
      lead = lead_more xs leaders x alone (lead_on xs leaders x g.lead);
      thinned = kept_last x g.thinned;
    }
      where
        apart : (y : A) → Contains xs y → (b : Bool) → same x y ≡ b → b ≡ false
        apart y h false e = refl
        apart y h true e = absurd (true≢false (sym (list_any_congr laws x y leaders e ∙ g.met y h) ∙ new))

        alone : class (xs ++ x ∷ []) x ≡ x ∷ []
        alone = class_more xs x x true (laws.refl x) ∙ ap (λ c. c ++ x ∷ []) (filter_none (same x) xs (λ y h. apart y h (same x y) refl))

    -- the leaders begin the classes
    begin : (xs leaders : List A) → AllByRecursion (Leads xs) leaders → BeginWith leaders (map (class xs) leaders)
    begin xs [] h = no_groups
    begin xs (l ∷ ls) h = subst (λ c. BeginWith (l ∷ ls) (c ∷ map (class xs) ls)) (sym h.0.1) (one_more (begin xs ls h.1))

    -- what is grouped stands in groups
    pub all_grouped : (xs leaders : List A) (groups : List (List A)) → Grouped xs leaders groups → AreGroups (λ x y. same x y ≡ true) xs groups
    all_grouped xs leaders groups g = subst (λ gs. AreGroups (λ x y. same x y ≡ true) xs gs) (sym g.are) record {
      each = λ x h.
          let l = passing (same x) leaders (g.met x h) in
          (class xs l.0, in_map (class xs) leaders l.0 l.1, in_filter (same l.0) xs x h (laws.symm l.0 x ∙ l.2));
      related = λ c x y c_in x_in y_in.
          let l = from_map (class xs) leaders c c_in in
          let e : same l.0 x ≡ true = (from_filter (same l.0) xs x (subst (λ d. Contains d x) (sym l.2) x_in)).1 in (
            λ h. sym (laws.congr l.0 x y e) ∙ (from_filter (same l.0) xs y (subst (λ d. Contains d y) (sym l.2) h)).1,
            λ h. subst (λ d. Contains d y) l.2 (in_filter (same l.0) xs y y_in (laws.congr l.0 x y e ∙ h)),
          );
      in_order = λ c c_in.
          let l = from_map (class xs) leaders c c_in in
          subst (λ d. IsThinned d xs) l.2 (filter_thins (same l.0) xs);
      firsts = leaders;
      begin_with = begin xs leaders g.lead;
      by_firsts = g.thinned;
    }

-- things stand in groups by keys, of which each is that of a group's first thing
pub record GroupedBy {T K : Type 0} (same : K → K → Bool) (key : T → K) (things : List T) (keys : List K) (groups : List (List T)) : Type 0 where
  pub leaders : List T
  pub keys_are : keys ≡ map key leaders
  pub grouped : Grouped (λ (x : T) (y : T). same (key x) (key y)) things leaders groups

any_of_keys : {T K : Type 0} (test : K → Bool) (key : T → K) (xs : List T) → list_any test (map key xs) ≡ list_any (λ x. test (key x)) xs
any_of_keys test key [] = refl
any_of_keys test key (x ∷ xs) = ap (λ b. test (key x) || b) (any_of_keys test key xs)

place_of_key : {T K : Type 0} (test : K → Bool) (key : T → K) (xs : List T) → position_or_len test (map key xs) ≡ position_or_len (λ x. test (key x)) xs
place_of_key test key [] = refl
place_of_key test key (x ∷ xs) = ap (λ n. cond (not (test (key x))) (1 + n) 0) (place_of_key test key xs)

module _ {T K : Type 0} (same : K → K → Bool) (laws : IsEquivalence same) (key : T → K) where
  pub none_by : GroupedBy same key [] [] []
  none_by = record { leaders = []; keys_are = refl; grouped = none_grouped (λ x y. same (key x) (key y)) }

  -- one more thing, with its key
  more_at_key : (things leaders : List T) (groups : List (List T)) (x : T) → Grouped (λ y z. same (key y) (key z)) things leaders groups
      → GroupedBy same key (things ++ x ∷ []) (insert_key same (map key leaders) (key x)) (with_thing same (map key leaders) groups x (key x))
  more_at_key things leaders groups x g = go (list_any (same (key x)) (map key leaders)) refl
    where
      alike_laws : IsEquivalence (λ y z. same (key y) (key z))
      alike_laws = on_equiv key laws

      go : (b : Bool) → list_any (same (key x)) (map key leaders) ≡ b
          → GroupedBy same key (things ++ x ∷ []) (cond b (map key leaders) (map key leaders ++ key x ∷ []))
          (cond b (set groups (position_or_len (same (key x)) (map key leaders)) (get_or groups (position_or_len (same (key x)) (map key leaders)) [] ++ x ∷ [])) (groups ++ (x ∷ []) ∷ []))
      go true met = record {
        leaders = leaders;
        keys_are = refl;
        grouped =
            subst (λ n. Grouped (λ y z. same (key y) (key z)) (things ++ x ∷ []) leaders (set groups n (get_or groups n [] ++ x ∷ [])))
            (sym (place_of_key (same (key x)) key leaders))
            (add_known (λ y z. same (key y) (key z)) alike_laws things leaders groups x (sym (any_of_keys (same (key x)) key leaders) ∙ met) g);
      }
      go false new = record {
        leaders = leaders ++ x ∷ [];
        keys_are = sym (map-append key leaders (x ∷ []));
        grouped = add_new (λ y z. same (key y) (key z)) alike_laws things leaders groups x (sym (any_of_keys (same (key x)) key leaders) ∙ new) g;
      }

  pub more_by : (things : List T) (keys : List K) (groups : List (List T)) (x : T) (k : K) → k ≡ key x → GroupedBy same key things keys groups
      → GroupedBy same key (things ++ x ∷ []) (insert_key same keys k) (with_thing same keys groups x k)
  more_by things keys groups x k of_x g =
      subst (λ z. GroupedBy same key (things ++ x ∷ []) (insert_key same keys z) (with_thing same keys groups x z)) (sym of_x)
      (subst (λ ks. GroupedBy same key (things ++ x ∷ []) (insert_key same ks (key x)) (with_thing same ks groups x (key x))) (sym g.keys_are)
      (more_at_key things g.leaders groups x g.grouped))

  pub all_by : (things : List T) (keys : List K) (groups : List (List T)) → GroupedBy same key things keys groups → AreGroups (λ x y. same (key x) (key y) ≡ true) things groups
  all_by things keys groups g = all_grouped (λ x y. same (key x) (key y)) (on_equiv key laws) things g.leaders groups g.grouped
