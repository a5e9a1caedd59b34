-- The parts that a pair of failures makes, and what is kept of each alone: by classes of VIDs, and one for each VID.
use Rattle.std.proofs.Common.{◌≡◌, ℕ, ◌==◌, ◌+◌, ◌-◌, ◌<◌, nat_eq, ◌&&◌, not, Bool, true, false, true≢false, List, [], ◌∷◌, ◌++◌, get_or, length, Option, Some, None, refl, sym, ap, subst, ◌∙◌, arith, ◌⊎◌, inl, inr}
use Rattle.std.specs.FinMap as fin
use Rattle.std.specs.List.{AllZip, Contains, filter_map, position_from}
use Rattle.std.specs.Option.{option_and_then, option_map, option_map_or}
use Rattle.std.specs.Cmp.Lexicographic.{bytes_decides}
use Rattle.std.proofs.lemmas.Bool.{cases_lt, eqb-true, eq-eqb}
use Rattle.std.proofs.lemmas.List.{get_or_append_left}
use Rattle.std.proofs.Math.Seq.{get_or-append_seam}
use Rattle.mst_graph.specs.Islands.{Island}
use Rattle.mst_graph.specs.Numbers.{AreNumbers}
use Rattle.mst_graph.specs.declared.keys.Numbering.{Numbering}
use Rattle.mst_graph.proofs.Members.{from_map}
use Rattle.mst_ids.specs.Vids.{is_vid}
use Rattle.mst_net.specs.tables.Tables.{Net, Numbers}
use Rattle.mst_view.specs.Aggregation.{same_name}
use Rattle.mst_view.specs.Viewed.{Viewed}
use Rattle.mst_view.specs.declared.in_view.BridgeInView.{BridgeInView}
use Rattle.mst_vlan.specs.classes.Alike.{AreAlike, TellApart}
use Rattle.mst_vlan.specs.Reach.{AreIslandsOf}
use Rattle.mst_vlan.specs.forest.Agrees.{AreOf}
use Rattle.mst_vlan.specs.forest.Forest.{Forest}
use Rattle.mst_vlan.specs.forest.Outcome.{Outcome}
use Rattle.mst_vlan.proofs.classes_lemmas.VidPlaces.{place_of_vid}
use Rattle.mst_vlan.proofs.classes_lemmas.VidPlaces.{zip_at}
use Rattle.mst_vlan.proofs.forest_lemmas.Lists.{kept_in, kept_from, no_some, some_is}
use Rattle.mst_vlan.proofs.forest_lemmas.Seen.{bridge_seen}
use Rattle.mst_facts.proofs.Named.{names_are}
use Rattle.mst_vlan.proofs.OneList.{OneList}
use Rattle.mst_view.specs.View.{bridge_names}
use Rattle.mst_facts.specs.declared.both.Both.{Both}
use Rattle.mst_graph.specs.Lists.{has_any}
use Rattle.mst_facts.specs.Both.{seen_both, seen_in_both}
use Rattle.mst_sweep.specs.Baseline.{AreHomes}
use Rattle.mst_sweep.specs.Cuts.{parts_at}
use Rattle.mst_sweep.specs.CutClasses.{IsKeptAlone}
use Rattle.mst_sweep.specs.Left.{AreLeft}
use Rattle.mst_sweep.specs.Parts.{home, staying, stays_at, all_parts, AreParts}
use Rattle.mst_sweep.specs.Failures.{failed}
use Rattle.mst_sweep.specs.Pairs.{Pair, PairIslands, Outcomes, ArePairIslands, ArePairParts, are_in_one, stay_joined, stays_with_both}
use Rattle.mst_sweep.specs.Seen.{first_at, has_places, place_alone, places_before, same_places, seen_with_both}
use Rattle.mst_sweep.specs.declared.with_both.Places.{Places}
use Rattle.mst_sweep.specs.declared.parts.Stays.{Stays}
use Rattle.mst_sweep.proofs.CutApart.{both_true, have_parts as parts_of_apart, not_true, true_both, two_apart}
use Rattle.mst_sweep.proofs.Joined.{has_home, home_on}
use Rattle.mst_sweep.proofs.Positions.{both_pass, has_first, has_place, same_place}
use Rattle.mst_sweep.proofs.Relabelled.{parts_same, stays_by}
use Rattle.mst_sweep.proofs.Stay.{all_stay_by}
use Rattle.mst_sweep.proofs.StillOn.{on_before, on_with_first, on_with_second}
use Rattle.mst_sweep.proofs.WithBoth.{one_first, places_same}

-- ---- by classes
-- what is there for each class, shared by VIDs that nothing tells apart, is there for each VID
module _ {B : Type 0} (none : B) (R : ℕ → ℕ → B → Type 0) (tables : List (List ℕ)) (sets : List (List Bool)) (moved : (class x y : ℕ) → AreAlike tables sets x y → (body : B) → R class x body → R class y body)
    (told classes firsts : List ℕ) (tell : TellApart tables sets told) (are : AreNumbers nat_eq told classes firsts) (bodies : List B)
    (each : (class : ℕ) → class < length firsts → R class (get_or firsts class 0 + 1) (get_or bodies class none)) where
  pub class_there : (vid : ℕ) → is_vid vid ≡ true → R (get_or classes (vid - 1) 0) vid (get_or bodies (get_or classes (vid - 1) 0) none)
  class_there vid e =
      let p = place_of_vid vid e in
      let i : ℕ = vid - 1 in
      let l : i < 4094 = omega (arith, p.below, p.is) in
      let back : i + 1 ≡ vid = omega (arith, p.is) in
      let n : ℕ = get_or classes i 0 in
      let l_told : i < length told = subst (λ k. i < k) (sym tell.as_long) l in
      let below : n < length firsts = are.below i l_told in
      let first = are.first n below in
      let k : ℕ = get_or firsts n 0 in
      let k_below : k < 4094 = subst (λ m. k < m) tell.as_long first.0 in
      let same : get_or told k 0 ≡ get_or told i 0 = eqb-true (get_or told k 0) (get_or told i 0) ((are.equal k i 0 first.0 l_told).0 first.1) in
      subst (λ vid. R n vid (get_or bodies n none)) back (moved n (k + 1) (i + 1) (tell.alike k i k_below l same) (get_or bodies n none) (each n below))

-- the parts of the first VID of each class are those of each of its VIDs
pub have_parts : (R : ℕ → List (List (List ℕ)) → Type 0) (tables : List (List ℕ)) (sets : List (List Bool)) → ((x y : ℕ) → AreAlike tables sets x y → (parts : List (List (List ℕ))) → R x parts → R y parts)
    → (told classes firsts : List ℕ) → TellApart tables sets told → AreNumbers nat_eq told classes firsts → (parts : List (List (List (List ℕ)))) → AllZip (λ place parts. R (place + 1) parts) firsts parts
    → (vid : ℕ) → is_vid vid ≡ true → R vid (parts_at classes parts vid)
have_parts R tables sets moved told classes firsts tell are parts at =
    class_there [] (λ class. R) tables sets (λ class. moved) told classes firsts tell are parts (λ class below. zip_at (λ place parts. R (place + 1) parts) firsts parts class 0 [] at below)

-- a VID of a class is alike its first
module _ (tables : List (List ℕ)) (sets : List (List Bool)) (told : List ℕ) (tell : TellApart tables sets told) (classes : Numbering) (are : AreNumbers nat_eq told classes.numbers.items classes.firsts.items) (vid : ℕ) (e : is_vid vid ≡ true) where
  abbrev vid_place : (i : ℕ) × (i < length told) × (i + 1 ≡ vid) × (i ≡ vid - 1)
  vid_place =
      let p = place_of_vid vid e in
      let l : vid - 1 < 4094 = omega (arith, p.below, p.is) in
      let back : vid - 1 + 1 ≡ vid = omega (arith, p.is) in
      (vid - 1, subst (λ k. vid - 1 < k) (sym tell.as_long) l, back, refl)

  pub class_below : get_or classes.numbers.items (vid - 1) 0 < length classes.firsts.items
  class_below = let p = vid_place in are.below (vid - 1) p.1

  pub class_alike : (class : ℕ) → get_or classes.numbers.items (vid - 1) 0 ≡ class → AreAlike tables sets (get_or classes.firsts.items class 0 + 1) vid
  class_alike class is =
      let p = vid_place in
      let n : ℕ = get_or classes.numbers.items (vid - 1) 0 in
      let first = are.first n class_below in
      let k : ℕ = get_or classes.firsts.items n 0 in
      let k_below : k < 4094 = subst (λ m. k < m) tell.as_long first.0 in
      let l : vid - 1 < 4094 = subst (λ m. vid - 1 < m) tell.as_long p.1 in
      let same : get_or told k 0 ≡ get_or told (vid - 1) 0 = eqb-true (get_or told k 0) (get_or told (vid - 1) 0) ((are.equal k (vid - 1) 0 first.0 p.1).0 first.1) in
      subst (λ j. AreAlike tables sets (get_or classes.firsts.items j 0 + 1) vid) is (subst (AreAlike tables sets (k + 1)) p.2 (tell.alike k (vid - 1) k_below l same))

-- what is so of classes, one more at a time
module _ (R : ℕ → List (List (List ℕ)) → Type 0) where
  pub one_class_more : (count : ℕ) (each : List (List (List (List ℕ)))) (parts : List (List (List ℕ))) → length each ≡ count → ((class : ℕ) → class < count → R class (get_or each class [])) → R count parts
      → (class : ℕ) → class < count + 1 → R class (get_or (each ++ parts ∷ []) class [])
  one_class_more count each parts long are is class below = elim (cases_lt class count) [
    | inl h ↦ subst (R class) (sym (get_or_append_left each (parts ∷ []) [] class (omega (arith, long, h)))) (are class h)
    | inr h ↦
        let same : count ≡ class = omega (arith, h, below) in
        let there : get_or (each ++ parts ∷ []) count [] ≡ parts = subst (λ k. get_or (each ++ parts ∷ []) k [] ≡ parts) long (get_or-append_seam each parts [] []) in
        subst (λ k. R k (get_or (each ++ parts ∷ []) k [])) same (subst (R count) (sym there) is)
  ]

-- ---- places of islands
abbrev Named : Type 0
Named = List (Island (List ℕ) (List ℕ))

-- two bridges in one island
in_one : (islands : Named) (x y : List ℕ) (i : ℕ) → home islands x ≡ Some i → home islands y ≡ Some i → are_in_one islands x y ≡ true
in_one islands x y i e f =
    ap (λ o. option_map_or (λ at. option_map_or (λ other. other == at) (home islands y) false) o false) e ∙ ap (λ o. option_map_or (λ other. other == i) o false) f ∙ eq-eqb i i refl

one_home : (islands : Named) (x y : List ℕ) → are_in_one islands x y ≡ true → (i : ℕ) × (home islands x ≡ Some i) × (home islands y ≡ Some i)
one_home islands x y e = go (home islands x) (home islands y) e
  where
    go : (o p : Option ℕ) → option_map_or (λ at. option_map_or (λ other. other == at) p false) o false ≡ true → (i : ℕ) × (o ≡ Some i) × (p ≡ Some i)
    go None p e = absurd (true≢false (sym e))
    go (Some i) None e = absurd (true≢false (sym e))
    go (Some i) (Some j) e = (i, refl, ap Some (eqb-true j i e))

-- where a network has no parts, bridges that stay and were in one island are in one
module _ (olds news : Named) (names : List (List ℕ)) (whole : all_parts (staying olds news names) ≡ []) where
  pub still_one : (x y : List ℕ) → Contains names x → Contains names y → (i j k : ℕ) → home olds x ≡ Some i → home olds y ≡ Some i → home news x ≡ Some j → home news y ≡ Some k → k ≡ j
  still_one x y h g i j k ex ey nx ny = go (k == j) refl
    where
      stay : List ℕ → ℕ → Stays
      stay name after = record { name = name; before = i; after = after }

      is_there : (name : List ℕ) (after : ℕ) → Contains names name → home olds name ≡ Some i → home news name ≡ Some after → Contains (staying olds news names) (record { name = name; before = i; after = after })
      is_there name after h e f =
          kept_in (stays_at olds news) names name (record { name = name; before = i; after = after }) h
          (ap (λ old. option_and_then (λ before. option_map (λ after. let s : Stays = record { name = name; before = before; after = after } in s) (home news name)) old) e
          ∙ ap (option_map (λ after. let s : Stays = record { name = name; before = i; after = after } in s)) f)

      go : (b : Bool) → (k == j) ≡ b → k ≡ j
      go true e = eqb-true k j e
      go false e =
          absurd (true≢false (sym (parts_of_apart (staying olds news names) (record { name = x; before = i; after = j }) (record { name = y; before = i; after = k }) (is_there x j h ex nx) (is_there y k g ey ny)
          (true_both (i == i) (not (k == j)) (eq-eqb i i refl) (ap not e)))
          ∙ ap has_any whole))

-- ---- what is kept of a failure alone
-- under names: the places of islands, or one for all where no bridges were parted
abbrev KeptBy : List (List ℕ) → Named → Named → (List ℕ → Option ℕ) → Type 0
KeptBy names olds news kept = ((name : List ℕ) → kept name ≡ home news name) ⊎ (((name : List ℕ) → kept name ≡ Some 0) × (all_parts (staying olds news names) ≡ []))

module _ (names : List (List ℕ)) (olds news : Named) (kept : List ℕ → Option ℕ) where
  kept_there : KeptBy names olds news kept → (name : List ℕ) (at : ℕ) → home news name ≡ Some at → (k : ℕ) × (kept name ≡ Some k)
  kept_there (inl is) name at e = (at, is name ∙ e)
  kept_there (inr flat) name at e = (0, flat.0 name)

  kept_joined : KeptBy names olds news kept → (x y : List ℕ) → Contains names x → Contains names y → (i j l k : ℕ) → home olds x ≡ Some i → home olds y ≡ Some i → home news x ≡ Some j → home news y ≡ Some l → kept x ≡ Some k → kept y ≡ Some k → l ≡ j
  kept_joined (inl is) x y h g i j l k ex ey nx ny kx ky = some_is l j (sym ny ∙ sym (is y) ∙ ky ∙ sym kx ∙ is x ∙ nx)
  kept_joined (inr flat) x y h g i j l k ex ey nx ny kx ky = still_one olds news names flat.1 x y h g i j l ex ey nx ny

  joined_kept : KeptBy names olds news kept → (x y : List ℕ) (j k l : ℕ) → home news x ≡ Some j → home news y ≡ Some j → kept x ≡ Some k → kept y ≡ Some l → k ≡ l
  joined_kept (inl is) x y j k l nx ny kx ky = some_is k l (sym kx ∙ is x ∙ nx ∙ sym ny ∙ sym (is y) ∙ ky)
  joined_kept (inr flat) x y j k l nx ny kx ky = some_is k l (sym kx ∙ flat.0 x ∙ sym (flat.0 y) ∙ ky)

-- what is kept under numbers is so of some islands
pub record Alone (net : Net) (olds : Named) (b : Net) (n : Numbers) (p : Outcome) (vid : ℕ) (kept : Option (List (ℕ × ℕ))) : Type 0 where
  pub islands : Named
  pub are : AreIslandsOf b p vid islands
  pub named : List ℕ → Option ℕ
  pub by : KeptBy (bridge_names net) olds islands named
  pub under : (name : List ℕ) (m : ℕ) → fin.get n.bridges name ≡ Some m → place_alone kept m ≡ named name

pub alone : (list : OneList) (net : Net) (o : Outcome) (olds : Named) (b : Net) (n : Numbers) (p : Outcome) (vid : ℕ) → AreIslandsOf net o vid olds → (kept : Option (List (ℕ × ℕ))) → IsKeptAlone net o b n p vid kept → Alone net olds b n p vid kept
alone list net o olds b n p vid are None is =
    let same : is.0 ≡ olds = list net o vid is.0 olds is.2 are in
    record {
      islands = is.1;
      are = is.3;
      named = λ name. Some 0;
      by = inr (λ name. refl, ap (λ olds. all_parts (staying olds is.1 (bridge_names net))) (sym same) ∙ sym is.4);
      under = λ name m e. refl;
    }
alone list net o olds b n p vid are (Some homes) is = record { islands = is.0; are = is.1; named = home is.0; by = inl (λ name. refl); under = is.2 }

-- ---- the parts of a pair
module _ (net : Net) (pair : Pair) (of : Outcomes) (vid : ℕ) (islands : PairIslands) (are : ArePairIslands net pair of vid islands) where
  abbrev names : List (List ℕ)
  names = bridge_names net

  record HasHomes (name : List ℕ) : Type 0 where
    pub none : ℕ
    pub none_is : home islands.none name ≡ Some none
    pub first : ℕ
    pub first_is : home islands.first name ≡ Some first
    pub second : ℕ
    pub second_is : home islands.second name ≡ Some second

  -- a bridge that is on with both failures is on before and with each alone
  homes : (name : List ℕ) (at : ℕ) → home islands.both name ≡ Some at → HasHomes name
  homes name at e =
      let on = home_on (failed (pair.first ∷ pair.second ∷ []) net) of.both vid islands.both are.both name at e in
      let none = has_home net of.none vid islands.none are.none name (on_before net name pair.first pair.second on) in
      let first = has_home (failed (pair.first ∷ []) net) of.first vid islands.first are.first name (on_with_first net name pair.first pair.second on) in
      let second = has_home (failed (pair.second ∷ []) net) of.second vid islands.second are.second name (on_with_second net name pair.first pair.second on) in
      record { none = none.0; none_is = none.1; first = first.0; first_is = first.1; second = second.0; second_is = second.1 }

  -- bridges of the same homes stay joined, and those that stay joined have the same homes
  joined : (x y : List ℕ) (i j k : ℕ) → home islands.none x ≡ Some i → home islands.none y ≡ Some i → home islands.first x ≡ Some j → home islands.first y ≡ Some j → home islands.second x ≡ Some k → home islands.second y ≡ Some k → stay_joined islands x y ≡ true
  joined x y i j k a b c d e f = λ t. in_one islands.none x y i a b t && in_one islands.first x y j c d t && in_one islands.second x y k e f t

  record SameHomes (x y : List ℕ) : Type 0 where
    pub none : home islands.none x ≡ home islands.none y
    pub first : home islands.first x ≡ home islands.first y
    pub second : home islands.second x ≡ home islands.second y

  same_homes : (x y : List ℕ) → stay_joined islands x y ≡ true → SameHomes x y
  same_homes x y e =
      let two = both_true (are_in_one islands.none x y && are_in_one islands.first x y) (are_in_one islands.second x y) e in
      let one = both_true (are_in_one islands.none x y) (are_in_one islands.first x y) two.0 in
      let none = one_home islands.none x y one.0 in
      let first = one_home islands.first x y one.1 in
      let second = one_home islands.second x y two.1 in
      record { none = none.1 ∙ sym none.2; first = first.1 ∙ sym first.2; second = second.1 ∙ sym second.2 }

  -- ---- by numbers for places
  module _ (one two : List ℕ → Option ℕ) (by_first : KeptBy names islands.none islands.first one) (by_second : KeptBy names islands.none islands.second two) where
    abbrev pub named_places : List ℕ → Option Places
    named_places name = option_and_then (λ none. option_and_then (λ first. option_map (λ second. let p : Places = record { none = none; first = first; second = second } in p) (two name)) (one name)) (home islands.none name)

    places_are : (name : List ℕ) (i j k : ℕ) → home islands.none name ≡ Some i → one name ≡ Some j → two name ≡ Some k → named_places name ≡ Some (record { none = i; first = j; second = k })
    places_are name i j k e f g =
        ap (λ o. option_and_then (λ none. option_and_then (λ first. option_map (λ second. let p : Places = record { none = none; first = first; second = second } in p) (two name)) (one name)) o) e
        ∙ ap (λ o. option_and_then (λ first. option_map (λ second. let p : Places = record { none = i; first = first; second = second } in p) (two name)) o) f
        ∙ ap (option_map (λ second. let p : Places = record { none = i; first = j; second = second } in p)) g

    record HasPlaces (name : List ℕ) : Type 0 where
      pub of_islands : HasHomes name
      pub first : ℕ
      pub first_is : one name ≡ Some first
      pub second : ℕ
      pub second_is : two name ≡ Some second
      pub are_places : named_places name ≡ Some (record { none = of_islands.none; first = first; second = second })

    places : (name : List ℕ) (at : ℕ) → home islands.both name ≡ Some at → HasPlaces name
    places name at e =
        let h = homes name at e in
        let first = kept_there names islands.none islands.first one by_first name h.first h.first_is in
        let second = kept_there names islands.none islands.second two by_second name h.second h.second_is in
        record { of_islands = h; first = first.0; first_is = first.1; second = second.0; second_is = second.1; are_places = places_are name h.none first.0 second.0 h.none_is first.1 second.1 }

    module _ (number : Places → Option ℕ) (apart : (x y : Places) (at : ℕ) → number x ≡ Some at → number y ≡ Some at → x ≡ y)
        (there : (name : List ℕ) → Contains names name → (p : Places) → named_places name ≡ Some p → (at : ℕ) × (number p ≡ Some at)) where
      abbrev numbered : List ℕ → Option ℕ
      numbered name = option_and_then number (named_places name)

      abbrev placed : List ℕ → Option ℕ
      placed name = position_from (stay_joined islands name) 0 names

      both_there : (name : List ℕ) → Contains names name → (at : ℕ) → home islands.both name ≡ Some at → ((x : ℕ) × (numbered name ≡ Some x)) × ((y : ℕ) × (placed name ≡ Some y))
      both_there name h at e =
          let p = places name at e in
          let i = p.of_islands in
          let x = there name h (record { none = i.none; first = p.first; second = p.second }) p.are_places in
          let itself = joined name name i.none i.first i.second i.none_is i.none_is i.first_is i.first_is i.second_is i.second_is in
          ((x.0, ap (option_and_then number) p.are_places ∙ x.1), has_place (stay_joined islands name) 0 names name h itself)

      module _ (a b : List ℕ) (h : Contains names a) (g : Contains names b) (at at' x x' y y' : ℕ) (ea : home islands.both a ≡ Some at) (eb : home islands.both b ≡ Some at')
          (na : numbered a ≡ Some x) (nb : numbered b ≡ Some x') (pa : placed a ≡ Some y) (pb : placed b ≡ Some y') where
        abbrev of_a : HasPlaces a
        of_a = places a at ea

        abbrev of_b : HasPlaces b
        of_b = places b at' eb

        abbrev places_a : Places
        places_a = record { none = of_a.of_islands.none; first = of_a.first; second = of_a.second }

        abbrev places_b : Places
        places_b = record { none = of_b.of_islands.none; first = of_b.first; second = of_b.second }

        number_a : number places_a ≡ Some x
        number_a = sym (ap (option_and_then number) of_a.are_places) ∙ na

        number_b : number places_b ≡ Some x'
        number_b = sym (ap (option_and_then number) of_b.are_places) ∙ nb

        -- of one number
        same_number : x' ≡ x → y' ≡ y
        same_number e =
            let same : places_b ≡ places_a = apart places_b places_a x (number_b ∙ ap Some e) number_a in
            let i = of_a.of_islands in
            let j = of_b.of_islands in
            let none : j.none ≡ i.none = ap (λ (p : Places). p.none) same in
            let first : of_b.first ≡ of_a.first = ap (λ (p : Places). p.first) same in
            let second : of_b.second ≡ of_a.second = ap (λ (p : Places). p.second) same in
            let none_b : home islands.none b ≡ Some i.none = j.none_is ∙ ap Some none in
            let first_b : j.first ≡ i.first =
            kept_joined names islands.none islands.first one by_first a b h g i.none i.first j.first of_a.first i.none_is none_b i.first_is j.first_is of_a.first_is (of_b.first_is ∙ ap Some first) in
            let second_b : j.second ≡ i.second =
            kept_joined names islands.none islands.second two by_second a b h g i.none i.second j.second of_a.second i.none_is none_b i.second_is j.second_is of_a.second_is (of_b.second_is ∙ ap Some second) in
            let tests : (z : List ℕ) → stay_joined islands a z ≡ stay_joined islands b z =
            λ z t. option_map_or (λ at. option_map_or (λ other. other == at) (home islands.none z) false) ((i.none_is ∙ sym none_b) t) false
            && option_map_or (λ at. option_map_or (λ other. other == at) (home islands.first z) false) ((i.first_is ∙ sym (j.first_is ∙ ap Some first_b)) t) false
            && option_map_or (λ at. option_map_or (λ other. other == at) (home islands.second z) false) ((i.second_is ∙ sym (j.second_is ∙ ap Some second_b)) t) false in
            some_is y' y (sym pb ∙ sym (same_place (stay_joined islands a) (stay_joined islands b) 0 names (λ z c. tests z)) ∙ pa)

        -- of one place
        same_placed : y' ≡ y → x' ≡ x
        same_placed e =
            let r = both_pass (stay_joined islands a) (stay_joined islands b) 0 y names pa (pb ∙ ap Some e) in
            let sa = same_homes a r.0 r.2 in
            let sb = same_homes b r.0 r.3 in
            let i = of_a.of_islands in
            let j = of_b.of_islands in
            let none : j.none ≡ i.none = some_is j.none i.none (sym j.none_is ∙ sb.none ∙ sym sa.none ∙ i.none_is) in
            let first : of_b.first ≡ of_a.first = joined_kept names islands.none islands.first one by_first b a i.first of_b.first of_a.first (sb.first ∙ sym sa.first ∙ i.first_is) i.first_is of_b.first_is of_a.first_is in
            let second : of_b.second ≡ of_a.second = joined_kept names islands.none islands.second two by_second b a i.second of_b.second of_a.second (sb.second ∙ sym sa.second ∙ i.second_is) i.second_is of_b.second_is of_a.second_is in
            let same : places_b ≡ places_a = λ t. record { none = none t; first = first t; second = second t } in
            some_is x' x (sym number_b ∙ ap number same ∙ number_a)

        agree : (x' == x) ≡ (y' == y)
        agree = go (x' == x) refl (y' == y) refl
          where
            go : (b : Bool) → (x' == x) ≡ b → (c : Bool) → (y' == y) ≡ c → (x' == x) ≡ (y' == y)
            go true e true f = e ∙ sym f
            go false e false f = e ∙ sym f
            go true e false f = absurd (true≢false (sym (eq-eqb y' y (same_number (eqb-true x' x e))) ∙ f))
            go false e true f = absurd (true≢false (sym (eq-eqb x' x (same_placed (eqb-true y' y f))) ∙ e))

      pub numbered_parts : (parts : List (List (List ℕ))) → parts ≡ all_parts (filter_map (stays_by (home islands.both) numbered) names) → ArePairParts net pair of vid parts
      numbered_parts parts e = record {
        islands = islands;
        are_islands = are;
        are = e ∙ parts_same (home islands.both) numbered placed names both_there agree;
      }

  -- ---- where both together part no bridges, they part none that stay joined
  pub no_pair_parts : all_parts (staying islands.none islands.both names) ≡ [] → ArePairParts net pair of vid []
  no_pair_parts whole = record { islands = islands; are_islands = are; are = sym (go (all_parts stay) refl) }
    where
      stay : List Stays
      stay = filter_map (stays_with_both islands names) names

      by_is : (name : List ℕ) (s : Stays) → stays_with_both islands names name ≡ Some s → (position_from (stay_joined islands name) 0 names ≡ Some s.before) × (home islands.both name ≡ Some s.after)
      by_is name s e = parted (position_from (stay_joined islands name) 0 names) (home islands.both name) e
        where
          parted : (old new : Option ℕ) → option_and_then (λ before. option_map (λ after. let t : Stays = record { name = name; before = before; after = after } in t) new) old ≡ Some s → (old ≡ Some s.before) × (new ≡ Some s.after)
          parted None new e = absurd (no_some s e)
          parted (Some x) None e = absurd (no_some s e)
          parted (Some x) (Some y) e = let same = some_is (record { name = name; before = x; after = y }) s e in (ap (λ (s : Stays). Some s.before) same, ap (λ (s : Stays). Some s.after) same)

      apart : has_any (all_parts (filter_map (stays_with_both islands names) names)) ≡ true → ⊥
      apart e =
          let r = two_apart (filter_map (stays_with_both islands names) names) e in
          let x = kept_from (stays_with_both islands names) names r.0 r.2 in
          let y = kept_from (stays_with_both islands names) names r.1 r.3 in
          let at_x = by_is x.0 r.0 x.2 in
          let at_y = by_is y.0 r.1 y.2 in
          let two = both_true (r.1.before == r.0.before) (not (r.1.after == r.0.after)) r.4 in
          let before : r.1.before ≡ r.0.before = eqb-true r.1.before r.0.before two.0 in
          let z = both_pass (stay_joined islands x.0) (stay_joined islands y.0) 0 r.0.before names at_x.0 (at_y.0 ∙ ap Some before) in
          let h = homes x.0 r.0.after at_x.1 in
          let none_y = (same_homes y.0 z.0 z.3).none ∙ sym (same_homes x.0 z.0 z.2).none ∙ h.none_is in
          not_true (r.1.after == r.0.after) two.1
          (eq-eqb r.1.after r.0.after (still_one islands.none islands.both names whole x.0 y.0 x.1 y.1 h.none r.0.after r.1.after h.none_is none_y at_x.1 at_y.1))

      go : (parts : List (List (List ℕ))) → all_parts (filter_map (stays_with_both islands names) names) ≡ parts → all_parts (filter_map (stays_with_both islands names) names) ≡ []
      go [] e = e
      go (c ∷ cs) e = absurd (apart (ap has_any e))

-- so it is by whatever is kept of each alone
pub no_parts_alone : (list : OneList) (net : Net) (n : Numbers) (pair : Pair) (of : Outcomes) (vid : ℕ) (one two : Option (List (ℕ × ℕ))) → IsKeptAlone net of.none (failed (pair.first ∷ []) net) n of.first vid one
    → IsKeptAlone net of.none (failed (pair.second ∷ []) net) n of.second vid two → AreParts net of.none (failed (pair.first ∷ pair.second ∷ []) net) of.both vid [] → ArePairParts net pair of vid []
no_parts_alone list net n pair of vid one two first second h =
    let a = alone list net of.none h.0 (failed (pair.first ∷ []) net) n of.first vid h.2 one first in
    let b = alone list net of.none h.0 (failed (pair.second ∷ []) net) n of.second vid h.2 two second in
    no_pair_parts net pair of vid (record { none = h.0; first = a.islands; second = b.islands; both = h.1 }) (record { none = h.2; first = a.are; second = b.are; both = h.3 }) (sym h.4)

-- ---- as they are seen
module _ (a b : Net) (n k : Numbers) (v w : Viewed) (f g : Forest) (of : AreOf a n v f.regions) (so : AreOf b k w g.regions) (left : AreLeft a b) (seen : ℕ → Option Places) (named : List ℕ → Option Places)
    (under : (name : List ℕ) (m : ℕ) → fin.get n.bridges name ≡ Some m → seen m ≡ named name) where
  in_both : (name : List ℕ) → Contains (bridge_names a) name → (both : Both) × Contains (seen_both v w) both × (both.old.name ≡ name) × (fin.get n.bridges name ≡ Some both.old.bridge.number)
  in_both name h =
      let x = from_map (λ (x : BridgeInView). x.name) v.bridges name (subst (λ l. Contains l name) (sym (names_are a n v f of)) h) in
      let y = from_map (λ (y : BridgeInView). y.name) w.bridges name (subst (λ l. Contains l name) (left.bridges ∙ sym (names_are b k w g so)) h) in
      let found = has_first (λ (z : BridgeInView). same_name z.name x.0.name) w.bridges y.0 y.1 ((bytes_decides y.0.name x.0.name).1 (y.2 ∙ sym x.2)) in
      let both : Both = record { old = x.0; new = found.0 } in (
        both,
        kept_in (seen_in_both w) v.bridges x.0 both x.1 (ap (option_map (λ y. let t : Both = record { old = x.0; new = y } in t)) found.1),
        x.2,
        ap (fin.get n.bridges) (sym x.2) ∙ (bridge_seen a n v of.view x.0 x.1).has_number,
      )

  pub first_there : (name : List ℕ) → Contains (bridge_names a) name → (p : Places) → named name ≡ Some p → (at : ℕ) × (first_at seen (seen_both v w) p ≡ Some at)
  first_there name h p e =
      let r = in_both name h in
      has_place (has_places seen p) 0 (seen_both v w) r.0 r.1 (ap (λ o. option_map_or (same_places p) o false) (under name r.0.old.bridge.number r.3 ∙ e) ∙ places_same p)

-- the parts of the bridges that are seen to stay with both failures are those of the pair
module _ (net : Net) (n : Numbers) (pair : Pair) (of : Outcomes) (vid : ℕ) (v w : Viewed) (f g : Forest) (is : AreOf net n v f.regions) (are : AreOf (failed (pair.first ∷ pair.second ∷ []) net) n w g.regions)
    (left : AreLeft net (failed (pair.first ∷ pair.second ∷ []) net)) (olds news : List (ℕ × ℕ)) (one two : Option (List (ℕ × ℕ)))
    (before : AreHomes net n of.none vid olds) (first : Alone net before.0 (failed (pair.first ∷ []) net) n of.first vid one) (second : Alone net before.0 (failed (pair.second ∷ []) net) n of.second vid two)
    (after : AreHomes (failed (pair.first ∷ pair.second ∷ []) net) n of.both vid news) where
  abbrev pair_islands : PairIslands
  pair_islands = record { none = before.0; first = first.islands; second = second.islands; both = after.0 }

  abbrev are_pair_islands : ArePairIslands net pair of vid pair_islands
  are_pair_islands = record { none = before.1; first = first.are; second = second.are; both = after.1 }

  abbrev seen : ℕ → Option Places
  seen = places_before olds one two

  abbrev named : List ℕ → Option Places
  named = named_places net pair of vid pair_islands are_pair_islands first.named second.named first.by second.by

  seen_named : (name : List ℕ) (m : ℕ) → fin.get n.bridges name ≡ Some m → seen m ≡ named name
  seen_named name m e = λ i.
      option_and_then (λ none. option_and_then (λ one. option_map (λ other. let p : Places = record { none = none; first = one; second = other } in p) (second.under name m e i)) (first.under name m e i)) (before.2 name m e i)

  pub seen_parts : (all : List Stays) → all ≡ filter_map (seen_with_both seen news (seen_both v w)) (seen_both v w) → ArePairParts net pair of vid (all_parts all)
  seen_parts all e =
      let number = first_at seen (seen_both v w) in
      numbered_parts net pair of vid pair_islands are_pair_islands first.named second.named first.by second.by number (λ x y at. one_first seen (seen_both v w) x y at)
      (first_there net (failed (pair.first ∷ pair.second ∷ []) net) n n v w f g is are left seen named seen_named) (all_parts all)
      (ap all_parts (e
      ∙ all_stay_by net (failed (pair.first ∷ pair.second ∷ []) net) n n v w f g is are of.both vid after.0 after.1 (λ m. option_and_then number (seen m)) (λ name. option_and_then number (named name)) news
      (λ name m h. ap (option_and_then number) (seen_named name m h)) after.2))

-- ---- of each VID one
module _ (net : Net) (pair : Pair) (of : Outcomes) (list : OneList) where
  pub one_pair_parts : (vid : ℕ) (parts other : List (List (List ℕ))) → ArePairParts net pair of vid parts → ArePairParts net pair of vid other → parts ≡ other
  one_pair_parts vid parts other x y =
      let none = list net of.none vid x.islands.none y.islands.none x.are_islands.none y.are_islands.none in
      let first = list (failed (pair.first ∷ []) net) of.first vid x.islands.first y.islands.first x.are_islands.first y.are_islands.first in
      let second = list (failed (pair.second ∷ []) net) of.second vid x.islands.second y.islands.second x.are_islands.second y.are_islands.second in
      let both = list (failed (pair.first ∷ pair.second ∷ []) net) of.both vid x.islands.both y.islands.both x.are_islands.both y.are_islands.both in
      let same : x.islands ≡ y.islands = λ i. record { none = none i; first = first i; second = second i; both = both i } in
      x.are ∙ (λ i. all_parts (filter_map (stays_with_both (same i) (bridge_names net)) (bridge_names net))) ∙ sym y.are
