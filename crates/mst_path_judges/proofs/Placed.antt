-- The places of ports of bridges, one bridge at a time.
use Rattle.std.proofs.Common.{inl, inr, ℕ, ◌<◌, List, [], ◌∷◌, ◌++◌, length, get_or, sym, ◌∙◌, subst}
use Rattle.std.specs.List.{All, Contains}
use Rattle.std.proofs.lemmas.List.Elements.{All-contains_itself, Contains-append_left, Contains-append_right, Contains-push_cases}
use Rattle.mst_graph.proofs.Members.{here, in_none}
use Rattle.mst_path.specs.Places.{bridge_at}
use Rattle.mst_tables.specs.Tables.{Net}
use Rattle.mst_view.specs.declared.in_view.PortInView.{PortInView}
use Rattle.mst_judged.specs.reasons.sweep.vlan.Reach.{bridges_on}
use Rattle.mst_path_judges.specs.Longest.{ArePlacesOf, HasNoPlace, HasPlace, IsPlaceOf}

module _ (net : Net) (ports : List PortInView) where
  -- of no bridge so far
  pub none_placed : ArePlacesOf net ports [] []
  none_placed = record { each = λ place h. absurd (in_none place h); all = λ bridge h. absurd (in_none bridge h) }

  -- each is a place
  pub all_below : (bridges : List (List ℕ)) (places : List ℕ) → ArePlacesOf net ports bridges places → All (λ place. place < length ports) places
  all_below bridges places are i d l = (are.each (get_or places i d) (All-contains_itself places i d l)).below

  module _ (bridges : List (List ℕ)) (bridge : List ℕ) (places : List ℕ) (are : ArePlacesOf net ports bridges places) where
    still : (place : ℕ) → IsPlaceOf net ports bridges place → IsPlaceOf net ports (bridges ++ bridge ∷ []) place
    still place p = record { below = p.below; own = Contains-append_left bridges (bridge ∷ []) (bridge_at ports place) p.own; on = p.on }

    -- one that has no place
    pub passed : HasNoPlace net ports bridge → ArePlacesOf net ports (bridges ++ bridge ∷ []) places
    passed none = record {
      each = λ place h. still place (are.each place h);
      all = λ b h on at l is. elim (Contains-push_cases bridges bridge b h) [
        | inl k ↦ are.all b k on at l is
        | inr e ↦ absurd (none at (record { below = l; is = is ∙ sym e; on = subst (Contains (bridges_on net)) (sym e) on }))
      ];
    }

    -- and one that has this place
    pub placed : (place : ℕ) → HasPlace net ports bridge place → ArePlacesOf net ports (bridges ++ bridge ∷ []) (places ++ place ∷ [])
    placed place p = record {
      each = λ x h. elim (Contains-push_cases places place x h) [
        | inl k ↦ still x (are.each x k)
        | inr e ↦ subst (IsPlaceOf net ports (bridges ++ bridge ∷ [])) e own
      ];
      all = λ b h on at l is. elim (Contains-push_cases bridges bridge b h) [
        | inl k ↦ (let x = are.all b k on at l is in (x.0, Contains-append_left places (place ∷ []) x.0 x.1, x.2))
        | inr e ↦ (place, Contains-append_right places (place ∷ []) place (here place []), p.is ∙ e)
      ];
    }
      where
        own : IsPlaceOf net ports (bridges ++ bridge ∷ []) place
        own = record {
          below = p.below;
          own = Contains-append_right bridges (bridge ∷ []) (bridge_at ports place) (subst (Contains (bridge ∷ [])) (sym p.is) (here bridge []));
          on = subst (Contains (bridges_on net)) (sym p.is) p.on;
        }
