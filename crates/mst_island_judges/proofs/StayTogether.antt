-- Bridges have parts in a VID just where some that were together and are on aren't together.
use Rattle.std.proofs.Common.{◌≡◌, ℕ, ◌==◌, not, true, false, true≢false, List, Some, refl, sym, ap, ◌∙◌}
use Rattle.std.specs.List.{Contains}
use Rattle.std.specs.Option.{option_and_then, option_map}
use Rattle.std.proofs.lemmas.Bool.{eqb-true, eq-eqb}
use Rattle.mst_graph.specs.Islands.{Island}
use Rattle.mst_graph.specs.Lists.{has_any}
use Rattle.mst_tables.specs.Tables.{Net}
use Rattle.mst_forest.specs.Outcome.{Outcome}
use Rattle.mst_forest.proofs.Lists.{kept_in, kept_from, some_is}
use Rattle.mst_judged.specs.reasons.sweep.vlan.Reach.{AreIslandsOf, bridges_on}
use Rattle.mst_judged.specs.reasons.sweep.Parts.{all_parts, home, staying, stays_at}
use Rattle.mst_judged.specs.reasons.sweep.declared.parts.Stays.{Stays}
use Rattle.mst_judged.proofs.reasons_lemmas.sweep_lemmas.CutApart.{both_true, have_parts, not_true, stays_is, two_apart}
use Rattle.mst_judged.proofs.reasons_lemmas.sweep_lemmas.Joined.{has_home, home_on, home_joined, joined_home}
use Rattle.mst_judged.specs.reasons.Holds.{AreTogether}
use Rattle.mst_judged.proofs.reasons_lemmas.Things.{no_true, same_place, true_both}

-- those of these bridges that were together in a VID and are on are it still
abbrev pub Stay : Net → Net → Outcome → Outcome → ℕ → List (List ℕ) → Type 0
Stay a b o p vid bridges = (x y : List ℕ) → Contains bridges x → Contains bridges y → Contains (bridges_on b) x → Contains (bridges_on b) y → AreTogether a o vid x y → AreTogether b p vid x y

module _ (a b : Net) (o p : Outcome) (vid : ℕ) (olds news : List (Island (List ℕ) (List ℕ))) (are : AreIslandsOf a o vid olds) (so : AreIslandsOf b p vid news) (bridges : List (List ℕ)) where
  abbrev all : List Stays
  all = staying olds news bridges

  there_all : (name : List ℕ) (i j : ℕ) → Contains bridges name → home olds name ≡ Some i → home news name ≡ Some j → Contains all (record { name = name; before = i; after = j })
  there_all name i j key at_old at_new =
      kept_in (stays_at olds news) bridges name (record { name = name; before = i; after = j }) key
      (ap (λ old. option_and_then (λ before. option_map (λ after. let stays : Stays = record { name = name; before = before; after = after } in stays) (home news name)) old) at_old
      ∙ ap (option_map (λ after. let stays : Stays = record { name = name; before = i; after = after } in stays)) at_new)

  none_apart : Stay a b o p vid bridges → has_any (all_parts all) ≡ true → ⊥
  none_apart stay e =
      let r = two_apart all e in
      let x = kept_from (stays_at olds news) bridges r.0 r.2 in
      let y = kept_from (stays_at olds news) bridges r.1 r.3 in
      let at_x = stays_is olds news x.0 r.0 x.2 in
      let at_y = stays_is olds news y.0 r.1 y.2 in
      let places = both_true (r.1.before == r.0.before) (not (r.1.after == r.0.after)) r.4 in
      let before : r.1.before ≡ r.0.before = eqb-true r.1.before r.0.before places.0 in
      let y_old : home olds y.0 ≡ Some r.0.before = at_y.0 ∙ ap Some before in
      let were : AreTogether a o vid x.0 y.0 = record { first = home_on a o vid olds are x.0 r.0.before at_x.0; second = home_on a o vid olds are y.0 r.0.before y_old; joined = home_joined a o vid olds are x.0 y.0 r.0.before at_x.0 y_old } in
      let t = stay x.0 y.0 x.1 y.1 (home_on b p vid news so x.0 r.0.after at_x.1) (home_on b p vid news so y.0 r.1.after at_y.1) were in
      let after : r.0.after ≡ r.1.after = some_is r.0.after r.1.after (sym at_x.1 ∙ joined_home b p vid news so x.0 y.0 t.first t.second t.joined ∙ at_y.1) in
      not_true (r.1.after == r.0.after) places.1 (eq-eqb r.1.after r.0.after (sym after))

  pub stay_whole : Stay a b o p vid bridges → has_any (all_parts all) ≡ false
  stay_whole stay = no_true (has_any (all_parts all)) (none_apart stay)

  pub whole_stay : has_any (all_parts all) ≡ false → Stay a b o p vid bridges
  whole_stay none x y hx hy on_x on_y t =
      let old = has_home a o vid olds are x t.first in
      let old_y : home olds y ≡ Some old.0 = sym (joined_home a o vid olds are x y t.first t.second t.joined) ∙ old.1 in
      let new_x = has_home b p vid news so x on_x in
      let new_y = has_home b p vid news so y on_y in
      let sx : Stays = record { name = x; before = old.0; after = new_x.0 } in
      let sy : Stays = record { name = y; before = old.0; after = new_y.0 } in
      let in_x = there_all x old.0 new_x.0 hx old.1 new_x.1 in
      let in_y = there_all y old.0 new_y.0 hy old_y new_y.1 in
      let same = same_place new_x.0 new_y.0 (new_y.0 == new_x.0) refl
      (λ apart. true≢false (sym (have_parts all sx sy in_x in_y (true_both (old.0 == old.0) (not (new_y.0 == new_x.0)) (eq-eqb old.0 old.0 refl) apart)) ∙ none)) in
      record { first = on_x; second = on_y; joined = home_joined b p vid news so x y new_x.0 new_x.1 (new_y.1 ∙ ap Some same) }
