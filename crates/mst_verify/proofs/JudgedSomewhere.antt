-- A promise of which nothing is missing is judged in some network.
use Rattle.std.proofs.Common.{◌≡◌, ◌&&◌, ◌||◌, not, Bool, true, false, true≢false, List, [], ◌∷◌, cond, map, Some, None, refl, sym}
use Rattle.std.specs.List.{list_all}
use Rattle.mst_graph.proofs.Members.{here, in_map, passing, there}
use Rattle.mst_net.specs.tables.Tables.{Net}
use Rattle.mst_policy.specs.Items.{item_has}
use Rattle.mst_policy.specs.declared.expectation.Promise.{Promise}
use Rattle.mst_policy.specs.declared.expectation.Scope.{Scope}
use Rattle.mst_policy.specs.declared.expectation.Scope.TheVariants as scope
use Rattle.mst_policy.specs.declared.item.NameItem.{NameItem}
use Rattle.mst_island_judges.specs.judged.reasons.sweep.Failures.{Event}
use Rattle.mst_island_judges.specs.judged.reasons.sweep.SweepText.{cause_name}
use Rattle.mst_island_judges.proofs.judged_lemmas.reasons_lemmas.sweep_lemmas.CutApart.{both_true}
use Rattle.mst_island_judges.specs.judged.reasons.Judged.{IsJudgedSomewhere, asks, has_now, looks_back}
use Rattle.mst_island_judges.specs.judged.reasons.Missing.{has_event, have_events, lacks_bridge, lacks_event, lacks_event_of, lacks_lan, lacks_port, lacks_tree, missing}
use Rattle.mst_island_judges.specs.judged.reasons.declared.missing.Missing.TheVariants as lacking
use Rattle.mst_island_judges.proofs.judged_lemmas.reasons_lemmas.Things.{true_both}

-- nothing is missing: so neither a LAN is, nor an event
pub whole : (net : Net) (events : List Event) (promise : Promise) → missing net events promise ≡ None → (lacks_lan net promise ≡ false) × (lacks_event events promise ≡ false)
whole net events promise e = by (lacks_tree net promise) (lacks_bridge net promise) (lacks_port net promise) (lacks_lan net promise) (lacks_event events promise) e
  where
    by : (a b c d f : Bool) → cond a (Some lacking.Tree) (cond b (Some lacking.Bridge) (cond c (Some lacking.Port) (cond d (Some lacking.Lan) (cond f (Some lacking.Failure) None)))) ≡ None → (d ≡ false) × (f ≡ false)
    by true b c d f e = absurd (cc)
    by false true c d f e = absurd (cc)
    by false false true d f e = absurd (cc)
    by false false false true f e = absurd (cc)
    by false false false false true e = absurd (cc)
    by false false false false false e = (refl, refl)

not_false : (b : Bool) → not b ≡ false → b ≡ true
not_false true e = refl
not_false false e = sym e

module _ (net : Net) (events : List Event) (has_prior : Bool) (promise : Promise) (looks : (has_prior || not (looks_back promise.expectation)) ≡ true) where
  after_one : (items : List NameItem) → have_events events promise items ≡ true → IsJudgedSomewhere events has_prior promise
  after_one [] e = absurd (true≢false (sym e))
  after_one (item ∷ items) e =
      let first = both_true (has_event events promise item) (list_all (has_event events promise) items) e in
      let f = passing (λ event. item_has item (cause_name event.cause) && asks promise event) events first.0 in
      record {
        place = Some f.0;
        there = there None (Some f.0) (map Some events) (in_map Some events f.0 f.1);
        is_asked = (both_true (item_has item (cause_name f.0.cause)) (asks promise f.0) f.2).1;
      }

  in_itself : has_now promise.scope ≡ true → IsJudgedSomewhere events has_prior promise
  in_itself e = record { place = None; there = here None (map Some events); is_asked = true_both (has_now promise.scope) (has_prior || not (looks_back promise.expectation)) e looks }

  by_scope : (s : Scope) → promise.scope ≡ s → lacks_event_of events promise s ≡ false → IsJudgedSomewhere events has_prior promise
  by_scope scope.Now is e = in_itself (λ i. has_now (is i))
  by_scope (scope.AfterLan names) is e = after_one names (not_false (have_events events promise names) e)
  by_scope (scope.AfterBridge names) is e = after_one names (not_false (have_events events promise names) e)
  by_scope (scope.AfterRisk names) is e = after_one names (not_false (have_events events promise names) e)
  by_scope scope.Always is e = in_itself (λ i. has_now (is i))

  pub judged_somewhere : missing net events promise ≡ None → IsJudgedSomewhere events has_prior promise
  judged_somewhere e = by_scope promise.scope refl (whole net events promise e).1
