-- Why all bridges don't stay together after an event is what a sweep tells of it.
use Rattle.std.proofs.Common.{◌≡◌, ◌↔◌, ℕ, cond, not, Bool, true, false, true≢false, List, [], ◌∷◌, Option, Some, None, refl, sym, ap, subst, ◌∙◌}
use Rattle.std.specs.Prelude.{if◌then◌else◌}
use Rattle.std.specs.List.{Contains, cons_option, filter, filter_map, flat_map}
use Rattle.std.specs.Option.{option_and_then, option_map}
use Rattle.mst_ids.specs.Vids.{has, set_where}
use Rattle.mst_graph.specs.Groups.{AreGroups}
use Rattle.mst_graph.specs.Islands.{Island}
use Rattle.mst_graph.proofs.Members.{from_filter, here, in_filter, there}
use Rattle.mst_view.specs.Trees.{is_among}
use Rattle.mst_net.specs.tables.Tables.{IsNetwork, Net}
use Rattle.mst_policy.specs.Leaving.{leaves}
use Rattle.mst_policy.specs.declared.item.NameItem.TheVariants.{Any}
use Rattle.mst_rows.specs.Rows.{Row}
use Rattle.mst_roles.proofs.forest_lemmas.Pieces.{flat_map-flat_map}
use Rattle.mst_view.specs.View.{bridge_names}
use Rattle.mst_graph.specs.Lists.{has_any}
use Rattle.mst_island_judges.specs.judged.reasons.sweep.vlan.classes.AllVids.{all_vids}
use Rattle.mst_roles.specs.forest.Outcome.{IsOutcome, Outcome}
use Rattle.mst_island_judges.proofs.judged_lemmas.reasons_lemmas.sweep_lemmas.vlan_lemmas.classes_lemmas.VidPlaces.{is_vid_there}
use Rattle.mst_island_judges.specs.judged.reasons.sweep.vlan.Reach.{AreIslandsOf}
use Rattle.mst_island_judges.specs.judged.reasons.sweep.Cuts.{AreCuts, cut_row, group_rows, runs_of}
use Rattle.mst_island_judges.specs.judged.reasons.sweep.Failures.{Event, failed}
use Rattle.mst_island_judges.specs.judged.reasons.sweep.Parts.{all_parts, AreParts, ArePartsOf, home, staying, stays_at}
use Rattle.mst_island_judges.specs.judged.reasons.sweep.SweepText.{IsTold, Told}
use Rattle.mst_island_judges.specs.judged.reasons.sweep.declared.cuts.CutBy.TheVariants.{One}
use Rattle.mst_island_judges.specs.judged.reasons.sweep.declared.event.Cause.{Cause}
use Rattle.mst_island_judges.specs.judged.reasons.sweep.declared.failure.Failure.{Failure}
use Rattle.mst_island_judges.specs.judged.reasons.sweep.declared.parts.Stays.{Stays}
use Rattle.mst_island_judges.proofs.judged_lemmas.reasons_lemmas.sweep_lemmas.Joined.{home_on}
use Rattle.mst_island_judges.proofs.judged_lemmas.reasons_lemmas.sweep_lemmas.Together.{failed_network}
use Rattle.mst_island_judges.specs.judged.reasons.Holds.{AllStayTogether}
use Rattle.mst_island_judges.specs.judged.reasons.Judged.{HoldsAfter}
use Rattle.mst_island_judges.specs.judged.reasons.Named.{is_named, named, nothing_before, remaining, vids_in}
use Rattle.mst_island_judges.specs.judged.reasons.Reasons.{AreTogetherReasons, AreVidReasons, Parts, group_reasons, together_reason}
use Rattle.mst_verify.specs.Whole.{AreAllVids, all_together, as_cut}
use Rattle.mst_island_judges.specs.judged.reasons.declared.reason.Reason.{Reason}
use Rattle.mst_island_judges.specs.judged.reasons.declared.reason.Reason.TheVariants as why
use Rattle.mst_verify.proofs.Failed.{not_gone}
use Rattle.mst_island_judges.proofs.judged_lemmas.OfVids.{one_of_vids}
use Rattle.mst_verify.proofs.ReasonsTogether.{OneIslands, one_parts}
use Rattle.mst_island_judges.proofs.StayTogether.{stay_whole, whole_stay}
use Rattle.mst_island_judges.proofs.judged_lemmas.reasons_lemmas.Things.{any_there, each_same, no_true, there_any}

-- ---- lists
-- what is left out by a test makes nothing
kept_whole : {A B : Type 0} (h : A → Option B) (test : A → Bool) → ((x : A) → test x ≡ false → h x ≡ None) → (xs : List A) → filter_map h (filter test xs) ≡ filter_map h xs
kept_whole h test out [] = refl
kept_whole h test out (x ∷ xs) = go (test x) refl (kept_whole h test out xs)
  where
    go : (b : Bool) → test x ≡ b → filter_map h (filter test xs) ≡ filter_map h xs → filter_map h (cond b (x ∷ filter test xs) (filter test xs)) ≡ filter_map h (x ∷ xs)
    go true e rest = ap (cons_option (h x)) rest
    go false e rest = rest ∙ sym (ap (λ o. cons_option o (filter_map h xs)) (out x e))

-- all pass
all_pass : {A : Type 0} (test : A → Bool) (xs : List A) → ((x : A) → Contains xs x → test x ≡ true) → filter test xs ≡ xs
all_pass test [] h = refl
all_pass test (x ∷ xs) h = ap (λ b. cond b (x ∷ filter test xs) (filter test xs)) (h x (here x xs)) ∙ ap (λ ys. x ∷ ys) (all_pass test xs (λ y k. h y (there x y xs k)))

-- ---- an event
-- all bridges but those that failed: none is to leave a VID
abbrev left_by : Net → List Failure → ℕ → List (List ℕ)
left_by net those vid = remaining [] vid net those (Any ∷ [])

module _ (net : Net) (those : List Failure) (cause : Cause) (o p : Outcome) where
  abbrev fallen : Net
  fallen = failed those net

  abbrev left : ℕ → List (List ℕ)
  left = left_by net those

  -- their parts
  abbrev HasParts : ℕ → Parts → Type 0
  HasParts vid parts = ArePartsOf (left vid) net o fallen p vid parts

  module _ (vid : ℕ) (olds news : List (Island (List ℕ) (List ℕ))) (are : AreIslandsOf fallen p vid news) where
    -- those have no place afterwards
    lost : (name : List ℕ) → is_named those (Any ∷ []) name ≡ false → stays_at olds news name ≡ None
    lost name lost_one = go (home olds name) (home news name) refl
      where
        go : (h k : Option ℕ) → home news name ≡ k → option_and_then (λ before. option_map (λ after. let stays : Stays = record { name = name; before = before; after = after } in stays) k) h ≡ None
        go None k f = refl
        go (Some i) None f = refl
        go (Some i) (Some j) f = absurd (true≢false (sym (ap not (not_gone those net name (home_on fallen p vid news are name j f))) ∙ lost_one))

    left_stay : staying olds news (left vid) ≡ staying olds news (bridge_names net)
    left_stay =
        ap (staying olds news) (all_pass (λ bridge. not (leaves [] vid bridge)) (named net those (Any ∷ [])) (λ bridge _. refl))
        ∙ kept_whole (stays_at olds news) (is_named those (Any ∷ [])) lost (bridge_names net)

  -- so the parts of those that are left are the parts of all
  of_all : (vid : ℕ) (parts : Parts) → HasParts vid parts → AreParts net o fallen p vid parts
  of_all vid parts s = (s.0, s.1, s.2, s.3, s.4 ∙ ap all_parts (left_stay vid s.0 s.1 s.3))

  of_left : (vid : ℕ) (parts : Parts) → AreParts net o fallen p vid parts → HasParts vid parts
  of_left vid parts s = (s.0, s.1, s.2, s.3, s.4 ∙ ap all_parts (sym (left_stay vid s.0 s.1 s.3)))

  module _ (vids : List Bool) (every : AreAllVids vids) (cut : List ℕ) (rows : List Row) (cuts : AreCuts net o fallen p cause cut rows) where
    all_are : vids_in vids ≡ all_vids
    all_are = all_pass (has vids) all_vids every

    left_parts : (vid : ℕ) → Contains all_vids vid → HasParts vid (cuts.parts vid)
    left_parts vid h = of_left vid (cuts.parts vid) (cuts.are_parts vid (is_vid_there vid h))

    -- ---- rows
    one_row : (group : List ℕ) → flat_map (as_cut cause) (group_reasons together_reason cuts.parts group) ≡ group_rows (One cause) cuts.parts group
    one_row [] = refl
    one_row (vid ∷ others) = go (has_any (cuts.parts vid))
      where
        go : (b : Bool) → flat_map (as_cut cause) (if b then why.Together (set_where (is_among (vid ∷ others))) (cuts.parts vid) ∷ [] else [])
            ≡ (if b then cut_row (One cause) (runs_of (vid ∷ others)) (cuts.parts vid) ∷ [] else [])
        go true = refl
        go false = refl

    abbrev told : List Reason
    told = flat_map (group_reasons together_reason cuts.parts) cuts.groups

    are_told : AreVidReasons HasParts together_reason vids told
    are_told = record {
      value = cuts.parts;
      has = λ vid h. left_parts vid (subst (λ vs. Contains vs vid) all_are h);
      groups = cuts.groups;
      are_groups = subst (λ vs. AreGroups (λ x y. cuts.parts x ≡ cuts.parts y) vs cuts.groups) (sym all_are) cuts.are_groups;
      are = refl;
    }

    pub rows_same : OneIslands → (reasons : List Reason) → AreTogetherReasons (Some (net, o)) [] fallen p vids those (Any ∷ []) reasons → flat_map (as_cut cause) reasons ≡ rows
    rows_same one reasons r =
        ap (flat_map (as_cut cause)) (one_of_vids HasParts (λ vid parts other s t. one_parts one (left vid) net fallen o p vid parts other s t) together_reason vids reasons told r are_told)
        ∙ flat_map-flat_map (as_cut cause) (group_reasons together_reason cuts.parts) cuts.groups
        ∙ each_same (λ group. flat_map (as_cut cause) (group_reasons together_reason cuts.parts group)) (group_rows (One cause) cuts.parts) cuts.groups (λ group _. one_row group)
        ∙ sym cuts.are

    -- ---- whether some VID is cut
    abbrev cuts_some : ℕ → Bool
    cuts_some vid = has_any (cuts.parts vid)

    stay_uncut : AllStayTogether net o fallen p vids left → has_any cut ≡ false
    stay_uncut stay = no_true (has_any cut) (λ some.
        let vid = any_there cut some in
        let its = from_filter cuts_some all_vids vid.0 (subst (λ vids. Contains vids vid.0) cuts.cut vid.1) in
        let parts = left_parts vid.0 its.0 in
        let whole = stay_whole net fallen o p vid.0 parts.0 parts.1 parts.2 parts.3 (left vid.0) (stay vid.0 (subst (λ vs. Contains vs vid.0) (sym all_are) its.0)) in
        true≢false (sym its.1 ∙ ap has_any parts.4 ∙ whole))

    uncut_stay : has_any cut ≡ false → AllStayTogether net o fallen p vids left
    uncut_stay none vid h =
        let its = subst (λ vs. Contains vs vid) all_are h in
        let parts = left_parts vid its in
        whole_stay net fallen o p vid parts.0 parts.1 parts.2 parts.3 (left vid)
        (ap has_any (sym parts.4) ∙ no_true (cuts_some vid) (λ some. true≢false (sym (there_any cut vid (subst (λ vids. Contains vids vid) (sym cuts.cut) (in_filter cuts_some all_vids vid its some))) ∙ none)))

-- ---- as a sweep tells of the event
module _ (single : (net : Net) (o p : Outcome) → IsNetwork net → IsOutcome net o → IsOutcome net p → o ≡ p) (net : Net) (o : Outcome) (ok : IsNetwork net) (event : Event)
    (vids : List Bool) (every : AreAllVids vids) (told : Told) (t : IsTold net o event told) where
  holds_uncut : HoldsAfter net o nothing_before event.failures (all_together vids) → told.cuts ≡ false
  holds_uncut holds = t.is.some ∙ stay_uncut net event.failures event.cause o t.outcome vids every t.is.vids t.is.cut t.is.are_cuts (holds t.outcome t.is_outcome)

  uncut_holds : told.cuts ≡ false → HoldsAfter net o nothing_before event.failures (all_together vids)
  uncut_holds none q its =
      let b = failed event.failures net in
      let outcome : q ≡ t.outcome = single b q t.outcome (failed_network event.failures net ok) its t.is_outcome in
      subst (λ q. AllStayTogether net o b q vids (left_by net event.failures)) (sym outcome)
      (uncut_stay net event.failures event.cause o t.outcome vids every t.is.vids t.is.cut t.is.are_cuts (sym t.is.some ∙ none))

  pub together_where_uncut : HoldsAfter net o nothing_before event.failures (all_together vids) ↔ (told.cuts ≡ false)
  together_where_uncut = (holds_uncut, uncut_holds)
