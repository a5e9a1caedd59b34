-- Where all may pass, bridges reach each other just where enabled ports link them.
use Rattle.std.proofs.Common.{◌≡◌, ◌≢◌, ◌↔◌, ◌⊎◌, inl, inr, ℕ, Bool, true, false, true≢false, List, [], ◌∷◌, is_some, refl, sym, subst, ◌∙◌}
use Rattle.std.specs.Cmp.Lexicographic.{bytes_decides}
use Rattle.std.specs.List.{Contains}
use Rattle.mst_net.specs.tables.Tables.{Net, IsNetwork}
use Rattle.mst_view.specs.Aggregation.{same_name}
use Rattle.mst_view.specs.View.{IsUnrestricted}
use Rattle.mst_graph.specs.Walks.{Node, Walk, bridge_at}
use Rattle.mst_graph.proofs.Members.{from_map, in_map}
use Rattle.mst_policy.specs.declared.item.NameItem.{NameItem}
use Rattle.mst_roles.specs.forest.Outcome.{Outcome, IsOutcome}
use Rattle.mst_roles.specs.Active.{active_ports, port_ends, IsEnabled}
use Rattle.mst_island_judges.specs.judged.reasons.sweep.Failures.{Event, alone, failed, failures, single_events}
use Rattle.mst_island_judges.specs.judged.reasons.sweep.declared.failure.Failure.{Failure}
use Rattle.mst_island_judges.specs.judged.reasons.sweep.declared.failure.Failure.TheVariants.{Lan, Bridge}
use Rattle.mst_island_judges.proofs.judged_lemmas.reasons_lemmas.sweep_lemmas.CutApart.{joined_linked, kept_free, kept_members, linked_joined}
use Rattle.mst_island_judges.proofs.judged_lemmas.reasons_lemmas.sweep_lemmas.Together.{failed_network}
use Rattle.mst_island_judges.specs.judged.reasons.Holds.{AllReach, IsReached}
use Rattle.mst_island_judges.specs.judged.reasons.Judged.{HoldsAfter, asks, asks_now, IsKept}
use Rattle.mst_verify.specs.Linked.{AllPass, AllAreLinked, AreLinkedOn, StayLinked, always_reach}
use Rattle.mst_island_judges.specs.judged.reasons.Named.{Prior, named, vids_in}
use Rattle.mst_island_judges.proofs.judged_lemmas.reasons_lemmas.Things.{any_there}

-- what enabled ports link, active ports do, in any network where no role is restricted
abbrev ActiveLink : Type 0
ActiveLink = (net : Net) (o : Outcome) (vid : ℕ) → IsNetwork net → IsOutcome net o → IsUnrestricted net → (x y : Node (List ℕ) (List ℕ)) → Walk port_ends (IsEnabled net) x y → Walk port_ends (Contains (active_ports net o vid)) x y

-- names are one or are two
pub same_or_not : (x y : List ℕ) → (x ≡ y) ⊎ (x ≢ y)
same_or_not x y = go (same_name x y) refl
  where
    go : (b : Bool) → same_name x y ≡ b → (x ≡ y) ⊎ (x ≢ y)
    go true e = inl ((bytes_decides x y).0 e)
    go false e = inr (λ same. true≢false (sym ((bytes_decides x y).1 same) ∙ e))

module _ (active : ActiveLink) (net : Net) (o : Outcome) (vids : List Bool) (bridges : List (List ℕ)) (ok : IsNetwork net) (is : IsOutcome net o) (pass : AllPass net vids) where
  reach_linked : AllReach net o vids bridges → AllAreLinked net bridges
  reach_linked all x y hx hy other = let vid = any_there (vids_in vids) pass.some in go vid.0 vid.1 (all vid.0 vid.1 x y hx hy)
    where
      go : (vid : ℕ) → Contains (vids_in vids) vid → IsReached net o vid x y → AreLinkedOn net x y
      go vid h (inl same) = absurd (other same)
      go vid h (inr t) = record { first = t.first; second = t.second; linked = joined_linked net o vid (pass.members vid h) x y t.joined }

  linked_reach : AllAreLinked net bridges → AllReach net o vids bridges
  linked_reach all vid h x y hx hy = elim (same_or_not x y) [
    | inl same ↦ inl same
    | inr other ↦
        let l = all x y hx hy other in
        inr (record { first = l.first; second = l.second; joined = linked_joined net o vid (pass.members vid h) (λ x y. active net o vid ok is pass.unrestricted (bridge_at x) (bridge_at y)) x y l.linked })
  ]

  pub reach_where_linked : AllReach net o vids bridges ↔ AllAreLinked net bridges
  reach_where_linked = (reach_linked, linked_reach)

-- `always` asks for each failure
asked : (vids : List Bool) (names : List NameItem) (failure : Failure) → asks (always_reach vids names) (alone failure) ≡ true
asked vids names (Lan lan) = refl
asked vids names (Bridge bridge) = refl

-- and for the network itself, whether one is before it or not
asked_now : (vids : List Bool) (names : List NameItem) (has_prior : Bool) → asks_now has_prior (always_reach vids names) ≡ true
asked_now vids names true = refl
asked_now vids names false = refl

module _ (active : ActiveLink) (outcomes : (net : Net) → IsNetwork net → (o : Outcome) × IsOutcome net o) (net : Net) (o : Outcome) (prior : Prior) (vids : List Bool) (names : List NameItem) (ok : IsNetwork net) (is : IsOutcome net o)
    (pass : AllPass net vids) where
  still : (failure : Failure) → AllPass (failed (failure ∷ []) net) vids
  still failure = record {
    some = pass.some;
    members = λ vid h. kept_members (failure ∷ []) net vid (pass.members vid h);
    unrestricted = kept_free (failure ∷ []) net pass.unrestricted;
  }

  kept_linked : IsKept net o prior (single_events net) (always_reach vids names) → StayLinked net names
  kept_linked kept = record {
    now = reach_linked active net o vids (named net [] names) ok is pass (kept.now (asked_now vids names (is_some prior.before)));
    failed = λ failure h.
        let left = failed (failure ∷ []) net in
        let its = failed_network (failure ∷ []) net ok in
        let p = outcomes left its in
        reach_linked active left p.0 vids (named left (failure ∷ []) names) its p.1 (still failure) (kept.failed (alone failure) (in_map alone (failures net) failure h) (asked vids names failure) p.0 p.1);
  }

  linked_kept : StayLinked net names → IsKept net o prior (single_events net) (always_reach vids names)
  linked_kept stay = record {
    now = λ _. linked_reach active net o vids (named net [] names) ok is pass stay.now;
    failed = λ event h _.
        let f = from_map alone (failures net) event h in
        subst (λ (event : Event). HoldsAfter net o prior event.failures (always_reach vids names).expectation) f.2
        (λ p its. let left = failed (f.0 ∷ []) net in linked_reach active left p vids (named left (f.0 ∷ []) names) (failed_network (f.0 ∷ []) net ok) its (still f.0) (stay.failed f.0 f.1));
  }

  pub kept_where_linked : IsKept net o prior (single_events net) (always_reach vids names) ↔ StayLinked net names
  kept_where_linked = (kept_linked, linked_kept)
