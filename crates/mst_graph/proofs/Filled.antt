-- Islands that are filled with one node after another, by their labels.
use Rattle.std.proofs.Common.{◌≡◌, ◌≢◌, ℕ, ◌+◌, ◌-◌, ◌<◌, ◌⊎◌, inl, inr, Bool, true, false, cond, ◌||◌, nat_eq, eq-eqb, List, [], ◌∷◌, ◌++◌, length, map, get_or, set, refl, sym, ap, subst, ◌∙◌, arith}
use Rattle.std.specs.Cmp.{nat_eq_equiv}
use Rattle.std.specs.List.{All, list_any, position_or_len}
use Rattle.std.proofs.lemmas.Bool.{cases_eq, ne_eqb}
use Rattle.std.proofs.lemmas.List.{length-set, length_push, get_or-set_same, get_or-set_other, append-nil, append_assoc, map_push}
use Rattle.std.proofs.lemmas.List.Elements.{All-push}
use Rattle.std.proofs.lemmas.List.Folds.{list_any-append}
use Rattle.indexmap.specs.IndexSet.{insert_key}
use Rattle.mst_graph.specs.Adding.{with_thing}
use Rattle.mst_graph.specs.Filling.{no_members, is_new, island_place, islands_with, counts_with}
use Rattle.mst_graph.specs.Islands.{Island, members, nodes}
use Rattle.mst_graph.specs.Walks.{Node, bridge_at, lan_at}
use Rattle.mst_graph.proofs.Grouped.{GroupedBy, none_by, more_by}
use Rattle.mst_graph.proofs.KeyPlaces.{put_known, put_new, met_below, none_met}
use Rattle.mst_graph.proofs.Standing.{inserted, kept}

-- a label's count: one more than its place among the labels that were met, or 0 where it was not met
abbrev pub count_of : List ℕ → ℕ → ℕ
count_of met l = cond (list_any (nat_eq l) met) (1 + position_or_len (nat_eq l) met) 0

pub record Filled (label : Node ℕ ℕ → ℕ) (things : List (Node ℕ ℕ)) (counts : List ℕ) (islands : List (Island ℕ ℕ)) : Type 0 where
  pub met : List ℕ
  pub counted : (l : ℕ) → l < length counts → get_or counts l 0 ≡ count_of met l
  pub as_long : length islands ≡ length met
  pub grouped : GroupedBy nat_eq label things met (map members islands)

pub none_filled : (label : Node ℕ ℕ → ℕ) (counts : List ℕ) → ((l : ℕ) → l < length counts → get_or counts l 0 ≡ 0) → Filled label [] counts []
none_filled label counts none = record { met = []; counted = none; as_long = refl; grouped = none_by nat_eq nat_eq_equiv label }

-- the counts once one more label is met
module _ (met : List ℕ) (l : ℕ) where
  abbrev after : List ℕ
  after = insert_key nat_eq met l

  none_other : (q : ℕ) → nat_eq q l ≡ false → list_any (nat_eq q) met ≡ false → list_any (nat_eq q) after ≡ false
  none_other q apart none = go (list_any (nat_eq l) met)
    where
      go : (b : Bool) → list_any (nat_eq q) (cond b met (met ++ l ∷ [])) ≡ false
      go true = none
      go false = list_any-append (nat_eq q) met (l ∷ []) ∙ ap (λ b. b || (nat_eq q l || false)) none ∙ ap (λ b. b || false) apart

  other_count : (q : ℕ) → q ≢ l → count_of met q ≡ count_of after q
  other_count q apart = go (list_any (nat_eq q) met) refl
    where
      go : (b : Bool) → list_any (nat_eq q) met ≡ b → count_of met q ≡ count_of after q
      go true h =
          let k = kept nat_eq nat_eq_equiv q l met h in
          ap (λ b. cond b (1 + position_or_len (nat_eq q) met) 0) h ∙ ap (λ n. 1 + n) (sym k.1) ∙ sym (ap (λ b. cond b (1 + position_or_len (nat_eq q) after) 0) k.0)
      go false h =
          ap (λ b. cond b (1 + position_or_len (nat_eq q) met) 0) h
          ∙ sym (ap (λ b. cond b (1 + position_or_len (nat_eq q) after) 0) (none_other q (ne_eqb q l apart) h))

  own_count : 1 + position_or_len (nat_eq l) met ≡ count_of after l
  own_count =
      let k = inserted nat_eq nat_eq_equiv l met in
      ap (λ n. 1 + n) (sym k.1) ∙ sym (ap (λ b. cond b (1 + position_or_len (nat_eq l) after) 0) k.0)

-- one more node, with its label
module _ (label : Node ℕ ℕ → ℕ) (things : List (Node ℕ ℕ)) (counts : List ℕ) (islands : List (Island ℕ ℕ)) (before : Filled label things counts islands)
    (x : Node ℕ ℕ) (l : ℕ) (of_x : l ≡ label x) (below : l < length counts) where
  abbrev is_met : Bool
  is_met = list_any (nat_eq l) before.met

  abbrev place : ℕ
  place = position_or_len (nat_eq l) before.met

  abbrev met_after : List ℕ
  met_after = insert_key nat_eq before.met l

  grouped_after : (islands' : List (Island ℕ ℕ)) → map members islands' ≡ with_thing nat_eq before.met (map members islands) x l → GroupedBy nat_eq label (things ++ x ∷ []) met_after (map members islands')
  grouped_after islands' e =
      subst (GroupedBy nat_eq label (things ++ x ∷ []) met_after) (sym e) (more_by nat_eq nat_eq_equiv label things before.met (map members islands) x l of_x before.grouped)

  within : is_met ≡ true → place < length islands
  within h = subst (λ n. place < n) (sym before.as_long) (met_below (nat_eq l) before.met h)

  -- its label was met
  known : is_met ≡ true → (old new : Island ℕ ℕ) → old ≡ get_or islands place old → members new ≡ members old ++ x ∷ [] → Filled label (things ++ x ∷ []) counts (set islands place new)
  known h old new is more = record {
    met = met_after;
    counted = λ q q_below. before.counted q q_below ∙ counted_on q (cases_eq q l);
    as_long = length-set islands place new ∙ before.as_long ∙ sym (ap (λ b. length (cond b before.met (before.met ++ l ∷ []))) h);
    grouped = grouped_after (set islands place new) (put_known members nat_eq before.met islands place old new x l refl (within h) is more h);
  }
    where
      counted_on : (q : ℕ) → (q ≡ l) ⊎ (q ≢ l) → count_of before.met q ≡ count_of met_after q
      counted_on q (inl e) = ap (count_of before.met) e ∙ ap (λ b. cond b (1 + place) 0) h ∙ own_count before.met l ∙ sym (ap (count_of met_after) e)
      counted_on q (inr apart) = other_count before.met l q apart

  -- it is new
  fresh : is_met ≡ false → (old new : Island ℕ ℕ) → old ≡ get_or (islands ++ no_members ∷ []) place old → members new ≡ members old ++ x ∷ []
      → Filled label (things ++ x ∷ []) (set counts l (1 + length islands)) (set (islands ++ no_members ∷ []) place new)
  fresh h old new is more = record {
    met = met_after;
    counted = λ q q_below. counted_on q (subst (λ n. q < n) (length-set counts l (1 + length islands)) q_below) (cases_eq q l);
    as_long =
        length-set (islands ++ no_members ∷ []) place new ∙ length_push islands no_members ∙ ap (λ n. n + 1) before.as_long
        ∙ sym (ap (λ b. length (cond b before.met (before.met ++ l ∷ []))) h ∙ length_push before.met l);
    grouped = grouped_after (set (islands ++ no_members ∷ []) place new) (put_new members nat_eq before.met islands place no_members old new x l refl before.as_long refl is more h);
  }
    where
      counted_on : (q : ℕ) → q < length counts → (q ≡ l) ⊎ (q ≢ l) → get_or (set counts l (1 + length islands)) q 0 ≡ count_of met_after q
      counted_on q q_below (inl e) =
          ap (λ k. get_or (set counts l (1 + length islands)) k 0) e ∙ get_or-set_same counts l (1 + length islands) 0 below
          ∙ ap (λ n. 1 + n) (before.as_long ∙ sym (none_met (nat_eq l) before.met h)) ∙ own_count before.met l ∙ sym (ap (count_of met_after) e)
      counted_on q q_below (inr apart) = get_or-set_other counts l q (1 + length islands) 0 apart ∙ before.counted q q_below ∙ other_count before.met l q apart

  abbrev is_unmet : Bool
  is_unmet = is_new counts l

  abbrev at : ℕ
  at = island_place counts islands l

  -- what the count says
  record Told (t : Bool) : Type 0 where
    new : is_unmet ≡ t
    met : is_met ≡ cond t false true
    place_is : at ≡ place

  told_known : is_met ≡ true → Told false
  told_known h =
      let count : get_or counts l 0 ≡ 1 + place = before.counted l below ∙ ap (λ b. cond b (1 + place) 0) h in
      let new : is_unmet ≡ false = ne_eqb (get_or counts l 0) 0 (λ e. absurd (omega (arith, e, count))) in
      record { new = new; met = h; place_is = ap (λ b. cond b (length islands) (get_or counts l 0 - 1)) new ∙ omega (arith, count) }

  told_new : is_met ≡ false → Told true
  told_new h =
      let new : is_unmet ≡ true = eq-eqb (get_or counts l 0) 0 (before.counted l below ∙ ap (λ b. cond b (1 + place) 0) h) in
      record { new = new; met = h; place_is = ap (λ b. cond b (length islands) (get_or counts l 0 - 1)) new ∙ before.as_long ∙ sym (none_met (nat_eq l) before.met h) }

  told : (P : Bool → Type 0) → ((t : Bool) → Told t → P t) → P is_unmet
  told P f = go is_met refl
    where
      go : (b : Bool) → is_met ≡ b → P is_unmet
      go true h = let r = told_known h in subst P (sym r.new) (f false r)
      go false h = let r = told_new h in subst P (sym r.new) (f true r)

  place_at : at ≡ place
  place_at = told (λ t. at ≡ place) (λ t r. r.place_is)

  module _ (counts' : List ℕ) (islands' : List (Island ℕ ℕ)) (p : ℕ) (p_is : p ≡ at) (islands_are : islands' ≡ (islands_with counts islands l)) where
    pub place_below : p < length islands'
    place_below =
        subst (λ n. n < length islands') (sym (p_is ∙ place_at))
        (subst (λ is. place < length is) (sym islands_are) (told (λ t. place < length (cond t (islands ++ no_members ∷ []) islands)) below_each))
      where
        below_each : (t : Bool) → Told t → place < length (cond t (islands ++ no_members ∷ []) islands)
        below_each true r =
            let last : place ≡ length before.met = none_met (nat_eq l) before.met r.met in
            let long : length islands ≡ length before.met = before.as_long in
            let more : length (islands ++ no_members ∷ []) ≡ length islands + 1 = length_push islands no_members in
            omega arith
        below_each false r = within r.met

    pub one_filled : counts' ≡ (counts_with counts islands l) → (old new : Island ℕ ℕ) → old ≡ get_or islands' p old → members new ≡ members old ++ x ∷ [] → Filled label (things ++ x ∷ []) counts' (set islands' p new)
    one_filled counts_are old new is more =
        subst (λ cs. Filled label (things ++ x ∷ []) cs (set islands' p new)) (sym counts_are)
        (subst (λ is. Filled label (things ++ x ∷ []) (counts_with counts islands l) (set is p new)) (sym islands_are)
        (subst (λ n. Filled label (things ++ x ∷ []) (counts_with counts islands l) (set (islands_with counts islands l) n new)) (sym (p_is ∙ place_at))
        (told (λ t. old ≡ get_or (cond t (islands ++ no_members ∷ []) islands) place old
        → Filled label (things ++ x ∷ []) (cond t (set counts l (1 + length islands)) counts) (set (cond t (islands ++ no_members ∷ []) islands) place new)) each
        (is ∙ ap (λ is. get_or is p old) islands_are ∙ ap (λ n. get_or (islands_with counts islands l) n old) (p_is ∙ place_at)))))
      where
        each : (t : Bool) → Told t → old ≡ get_or (cond t (islands ++ no_members ∷ []) islands) place old
            → Filled label (things ++ x ∷ []) (cond t (set counts l (1 + length islands)) counts) (set (cond t (islands ++ no_members ∷ []) islands) place new)
        each true r here = fresh r.met old new here more
        each false r here = known r.met old new here more

-- an island with one more bridge, where it has no LAN
pub bridge_member : (old new : Island ℕ ℕ) (n : ℕ) → old.lans ≡ [] → new.bridges ≡ old.bridges ++ n ∷ [] → new.lans ≡ old.lans → members new ≡ members old ++ bridge_at n ∷ []
bridge_member old new n none more same =
    ap (λ bs. nodes bs new.lans) more ∙ ap (nodes (old.bridges ++ n ∷ [])) (same ∙ none) ∙ append-nil (map bridge_at (old.bridges ++ n ∷ []))
    ∙ map_push bridge_at old.bridges n
    ∙ ap (λ xs. xs ++ bridge_at n ∷ []) (sym (ap (nodes old.bridges) none ∙ append-nil (map bridge_at old.bridges)))

-- an island with one more LAN
pub lan_member : (old new : Island ℕ ℕ) (n : ℕ) → new.bridges ≡ old.bridges → new.lans ≡ old.lans ++ n ∷ [] → members new ≡ members old ++ lan_at n ∷ []
lan_member old new n same more =
    ap (λ bs. nodes bs new.lans) same ∙ ap (nodes old.bridges) more
    ∙ ap (λ xs. map bridge_at old.bridges ++ xs) (map_push lan_at old.lans n)
    ∙ sym (append_assoc (map bridge_at old.bridges) (map lan_at old.lans) (lan_at n ∷ []))

-- islands with no LAN, of which one gets a bridge
abbrev pub HaveNoLan : List (Island ℕ ℕ) → Type 0
HaveNoLan islands = All (λ (i : Island ℕ ℕ). i.lans ≡ []) islands

pub no_lan_more : (t : Bool) (islands : List (Island ℕ ℕ)) → HaveNoLan islands → HaveNoLan (cond t (islands ++ no_members ∷ []) islands)
no_lan_more true islands none = All-push (λ (i : Island ℕ ℕ). i.lans ≡ []) islands no_members none refl
no_lan_more false islands none = none
