-- In a network that is whole, all bridges that are left reach each other after an event just where it cuts no VID.
use Rattle.std.proofs.Common.{◌≡◌, ◌≢◌, ◌↔◌, inl, inr, ℕ, ◌==◌, not, Bool, true, false, true≢false, List, [], ◌∷◌, Some, refl, sym, ap, subst, ◌∙◌}
use Rattle.std.specs.FinMap as fin
use Rattle.std.specs.List.{AllByRecursion, Contains}
use Rattle.std.specs.Option.{option_map, option_and_then}
use Rattle.std.proofs.lemmas.Bool.{eq-eqb}
use Rattle.mst_ids.specs.Vids.{has}
use Rattle.mst_graph.specs.Islands.{Island}
use Rattle.mst_graph.proofs.Members.{in_filter, from_filter}
use Rattle.mst_net.specs.tables.Tables.{Net, IsNetwork}
use Rattle.mst_policy.specs.declared.item.NameItem.TheVariants.{Any}
use Rattle.mst_rows.specs.Rows.{Row}
use Rattle.mst_view.specs.View.{bridge_names}
use Rattle.mst_graph.specs.Lists.{has_any}
use Rattle.mst_island_judges.specs.judged.reasons.sweep.vlan.classes.AllVids.{all_vids}
use Rattle.mst_roles.specs.forest.Outcome.{Outcome, IsOutcome}
use Rattle.mst_island_judges.proofs.judged_lemmas.reasons_lemmas.sweep_lemmas.vlan_lemmas.classes_lemmas.VidPlaces.{is_vid_there}
use Rattle.mst_roles.proofs.forest_lemmas.Lists.{kept_in, kept_from, some_is}
use Rattle.mst_island_judges.specs.judged.reasons.sweep.vlan.Reach.{AreIslandsOf, bridges_on}
use Rattle.mst_island_judges.specs.judged.reasons.sweep.Cuts.{AreCuts}
use Rattle.mst_island_judges.specs.judged.reasons.sweep.Failures.{Event, failed, failures}
use Rattle.mst_island_judges.specs.judged.reasons.sweep.Parts.{home, stays_at, staying, all_parts, AreParts}
use Rattle.mst_island_judges.specs.judged.reasons.sweep.SweepText.{Told, IsTold}
use Rattle.mst_island_judges.specs.judged.reasons.sweep.declared.failure.Failure.{Failure}
use Rattle.mst_island_judges.specs.judged.reasons.sweep.declared.parts.Stays.{Stays}
use Rattle.mst_island_judges.proofs.judged_lemmas.reasons_lemmas.sweep_lemmas.CutApart.{both_true, have_parts, not_true, stays_is, two_apart}
use Rattle.mst_island_judges.proofs.judged_lemmas.reasons_lemmas.sweep_lemmas.Failed.{are_left}
use Rattle.mst_island_judges.proofs.judged_lemmas.reasons_lemmas.sweep_lemmas.Joined.{has_home, home_on, home_joined, joined_home}
use Rattle.mst_island_judges.proofs.judged_lemmas.reasons_lemmas.sweep_lemmas.Together.{failed_network}
use Rattle.mst_island_judges.specs.judged.reasons.Holds.{AllReach, AreTogether, IsReached}
use Rattle.mst_island_judges.specs.judged.reasons.Judged.{HoldsAfter}
use Rattle.mst_island_judges.specs.judged.reasons.Named.{is_gone, is_named, named, nothing_before, vids_in}
use Rattle.mst_verify.specs.Whole.{AreAllVids, Fails, IsWhole, NoneIsCut, reach_all}
use Rattle.mst_verify.proofs.Failed.{not_gone, on_key, stays_on}
use Rattle.mst_verify.proofs.ReachLinked.{same_or_not}
use Rattle.mst_island_judges.proofs.judged_lemmas.reasons_lemmas.Things.{any_there, no_true, same_place, there_any, true_both}

-- ---- one VID
module _ (net : Net) (those : List Failure) where
  abbrev fallen : Net
  fallen = failed those net

  -- all bridges that are left
  abbrev left : List (List ℕ)
  left = named fallen those (Any ∷ [])

  on_left : (name : List ℕ) → Contains (bridges_on fallen) name → Contains left name
  on_left name h = in_filter (is_named those (Any ∷ [])) (fin.keys fallen.bridges) name (on_key fallen name h) (ap not (not_gone those net name h))

  left_key : (name : List ℕ) → Contains left name → Contains (fin.keys net.bridges) name × (is_gone those name ≡ false)
  left_key name h =
      let f = from_filter (is_named those (Any ∷ [])) (fin.keys fallen.bridges) name h in
      (subst (λ names. Contains names name) (sym (are_left those net).bridges) f.0, no_true (is_gone those name) (not_true (is_gone those name) f.1))

  module _ (o p : Outcome) (vid : ℕ) (olds news : List (Island (List ℕ) (List ℕ))) (before : AreIslandsOf net o vid olds) (afterwards : AreIslandsOf fallen p vid news) where
    abbrev AllLeftReach : Type 0
    AllLeftReach = (x y : List ℕ) → Contains left x → Contains left y → IsReached fallen p vid x y

    abbrev AllReached : Type 0
    AllReached = (x y : List ℕ) → Contains (fin.keys net.bridges) x → Contains (fin.keys net.bridges) y → IsReached net o vid x y

    abbrev all : List Stays
    all = staying olds news (bridge_names net)

    -- two bridges of one part are at one place
    one_home : (x y : List ℕ) (i j : ℕ) → home news x ≡ Some i → home news y ≡ Some j → IsReached fallen p vid x y → j ≡ i
    one_home x y i j at_x at_y (inl same) = some_is j i (sym at_y ∙ ap (home news) (sym same) ∙ at_x)
    one_home x y i j at_x at_y (inr t) = some_is j i (sym at_y ∙ sym (joined_home fallen p vid news afterwards x y t.first t.second t.joined) ∙ at_x)

    reach_uncut : AllLeftReach → has_any (all_parts all) ≡ true → ⊥
    reach_uncut reach cut =
        let r = two_apart all cut in
        let x = kept_from (stays_at olds news) (bridge_names net) r.0 r.2 in
        let y = kept_from (stays_at olds news) (bridge_names net) r.1 r.3 in
        let at_x = stays_is olds news x.0 r.0 x.2 in
        let at_y = stays_is olds news y.0 r.1 y.2 in
        let places = both_true (r.1.before == r.0.before) (not (r.1.after == r.0.after)) r.4 in
        let there_x = on_left x.0 (home_on fallen p vid news afterwards x.0 r.0.after at_x.1) in
        let there_y = on_left y.0 (home_on fallen p vid news afterwards y.0 r.1.after at_y.1) in
        not_true (r.1.after == r.0.after) places.1 (eq-eqb r.1.after r.0.after (one_home x.0 y.0 r.0.after r.1.after at_x.1 at_y.1 (reach x.0 y.0 there_x there_y)))

    there_all : (name : List ℕ) (i j : ℕ) → Contains (fin.keys net.bridges) name → home olds name ≡ Some i → home news name ≡ Some j → Contains all (record { name = name; before = i; after = j })
    there_all name i j key at_old at_new =
        kept_in (stays_at olds news) (bridge_names net) name (record { name = name; before = i; after = j }) key
        (ap (λ old. option_and_then (λ before. option_map (λ after. let stays : Stays = record { name = name; before = before; after = after } in stays) (home news name)) old) at_old
        ∙ ap (option_map (λ after. let stays : Stays = record { name = name; before = i; after = after } in stays)) at_new)

    uncut_reach : AllReached → (has_any (all_parts all) ≡ true → ⊥) → AllLeftReach
    uncut_reach whole uncut x y hx hy = elim (same_or_not x y) [
      | inl same ↦ inl same
      | inr other ↦ inr (both (left_key x hx) (left_key y hy) (whole x y (left_key x hx).0 (left_key y hy).0) other)
    ]
      where
        both : Contains (fin.keys net.bridges) x × (is_gone those x ≡ false) → Contains (fin.keys net.bridges) y × (is_gone those y ≡ false) → IsReached net o vid x y → x ≢ y → AreTogether fallen p vid x y
        both kx ky (inl same) other = absurd (other same)
        both kx ky (inr t) other =
            let on_x = stays_on those net x t.first kx.1 in
            let on_y = stays_on those net y t.second ky.1 in
            let old = has_home net o vid olds before x t.first in
            let old_y : home olds y ≡ Some old.0 = sym (joined_home net o vid olds before x y t.first t.second t.joined) ∙ old.1 in
            let new_x = has_home fallen p vid news afterwards x on_x in
            let new_y = has_home fallen p vid news afterwards y on_y in
            let sx : Stays = record { name = x; before = old.0; after = new_x.0 } in
            let sy : Stays = record { name = y; before = old.0; after = new_y.0 } in
            let same = same_place new_x.0 new_y.0 (new_y.0 == new_x.0) refl
            (λ apart. uncut (have_parts all sx sy (there_all x old.0 new_x.0 kx.0 old.1 new_x.1) (there_all y old.0 new_y.0 ky.0 old_y new_y.1) (true_both (old.0 == old.0) (not (new_y.0 == new_x.0)) (eq-eqb old.0 old.0 refl) apart))) in
            record { first = on_x; second = on_y; joined = home_joined fallen p vid news afterwards x y new_x.0 new_x.1 (new_y.1 ∙ ap Some same) }

-- ---- all of them
module _ (single : (net : Net) (o p : Outcome) → IsNetwork net → IsOutcome net o → IsOutcome net p → o ≡ p)
    (net : Net) (o p : Outcome) (event : Event) (fails : Fails net o event.failures p) (vids : List Bool) (whole : IsWhole net o vids) (cut : List ℕ) (rows : List Row) (cuts : AreCuts net o (failed event.failures net) p event.cause cut rows) where
  abbrev those : List Failure
  those = event.failures

  abbrev left_net : Net
  left_net = failed those net

  abbrev cuts_some : ℕ → Bool
  cuts_some vid = has_any (cuts.parts vid)

  a_vid : (vid : ℕ) → Contains (vids_in vids) vid → Contains all_vids vid
  a_vid vid h = (from_filter (has vids) all_vids vid h).0

  parts_of : (vid : ℕ) → Contains (vids_in vids) vid → AreParts net o left_net p vid (cuts.parts vid)
  parts_of vid h = cuts.are_parts vid (is_vid_there vid (a_vid vid h))

  holds_uncut : HoldsAfter net o nothing_before those (reach_all vids) → NoneIsCut vids cut
  holds_uncut holds vid h k =
      let parts = parts_of vid h in
      let some = (from_filter cuts_some all_vids vid (subst (λ vids. Contains vids vid) cuts.cut k)).1 in
      reach_uncut net those o p vid parts.0 parts.1 parts.2 parts.3 (holds p fails.is_failed vid h) (ap has_any (sym parts.4) ∙ some)

  uncut_here : NoneIsCut vids cut → AllReach left_net p vids (named left_net those (Any ∷ []))
  uncut_here none vid h =
      let parts = parts_of vid h in
      uncut_reach net those o p vid parts.0 parts.1 parts.2 parts.3 (whole vid h)
      (λ some. none vid h (subst (λ vids. Contains vids vid) (sym cuts.cut) (in_filter cuts_some all_vids vid (a_vid vid h) (ap has_any parts.4 ∙ some))))

  uncut_holds : NoneIsCut vids cut → HoldsAfter net o nothing_before those (reach_all vids)
  uncut_holds none q its =
      let outcome : q ≡ p = single left_net q p (failed_network those net fails.is_network) its fails.is_failed in
      subst (λ q. AllReach left_net q vids (named left_net those (Any ∷ []))) (sym outcome) (uncut_here none)

  pub holds_where_uncut : HoldsAfter net o nothing_before those (reach_all vids) ↔ NoneIsCut vids cut
  holds_where_uncut = (holds_uncut, uncut_holds)

  -- by all VIDs
  pub holds_where_none : AreAllVids vids → HoldsAfter net o nothing_before those (reach_all vids) ↔ (has_any cut ≡ false)
  holds_where_none all = (
    λ holds. no_true (has_any cut) (λ some.
        let vid = any_there cut some in
        let its = (from_filter cuts_some all_vids vid.0 (subst (λ vids. Contains vids vid.0) cuts.cut vid.1)).0 in
        holds_uncut holds vid.0 (in_filter (has vids) all_vids vid.0 its (all vid.0 its)) vid.1),
    λ none. uncut_holds (λ vid _ k. true≢false (sym (there_any cut vid k) ∙ none)),
  )

-- as a sweep tells of the event
pub told_where_cut : (single : (net : Net) (o p : Outcome) → IsNetwork net → IsOutcome net o → IsOutcome net p → o ≡ p) → (net : Net) (o : Outcome) → IsNetwork net → IsOutcome net o
    → (event : Event) → AllByRecursion (Contains (failures net)) event.failures → (vids : List Bool) → AreAllVids vids → IsWhole net o vids → (told : Told) → IsTold net o event told
    → HoldsAfter net o nothing_before event.failures (reach_all vids) ↔ (told.cuts ≡ false)
told_where_cut single net o ok is event can vids all whole told t =
    let fails : Fails net o event.failures t.outcome = record { is_network = ok; is_outcome = is; can_fail = can; is_failed = t.is_outcome } in
    let h = holds_where_none single net o t.outcome event fails vids whole t.is.vids t.is.cut t.is.are_cuts all in
    (λ holds. t.is.some ∙ h.0 holds, λ none. h.1 (sym t.is.some ∙ none))
