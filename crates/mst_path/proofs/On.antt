-- The bridges of a view that are on, by name.
use Rattle.std.proofs.Common.{◌≡◌, ◌&&◌, ◌||◌, ◌↔◌, inl, inr, ℕ, Bool, true, false, List, [], ◌∷◌, filter, refl, sym, ap, ◌∙◌, subst}
use Rattle.std.specs.FinMap as fin
use Rattle.std.specs.List.{Contains, list_any}
use Rattle.std.specs.Cmp.Lexicographic.{nat_list_eq_equiv}
use Rattle.mst_graph.proofs.Members.{cases, in_none, in_map, from_map, in_filter, from_filter, passing}
use Rattle.mst_tables.specs.Seen.{bridge_row}
use Rattle.mst_tables.specs.Tables.{BridgeRow, Net, Numbers}
use Rattle.mst_view.specs.Aggregation.{same_name}
use Rattle.mst_view.specs.Viewed.{IsView, Viewed, named_bridge}
use Rattle.mst_view.specs.declared.in_view.BridgeInView.{BridgeInView}
use Rattle.mst_view.proofs.Names.{same_names}
use Rattle.mst_vlan.specs.Reach.{bridges_on}

-- one of some things passes a test
passed : {A : Type 0} (test : A → Bool) (xs : List A) (x : A) → Contains xs x → test x ≡ true → list_any test xs ≡ true
passed test [] x c e = absurd (in_none x c)
passed test (y ∷ xs) x c e = elim (cases y x xs c) [ inl s ↦ first (test y) (ap test s ∙ e) | inr k ↦ rest (test y) (passed test xs x k e) ]
  where
    first : (b : Bool) → b ≡ true → b || list_any test xs ≡ true
    first true h = refl
    first false h = cc

    rest : (b : Bool) → list_any test xs ≡ true → b || list_any test xs ≡ true
    rest true h = refl
    rest false h = h

both : (p q : Bool) → p && q ≡ true → (p ≡ true) × (q ≡ true)
both true q h = (refl, h)
both false q h = cc

joined : (p q : Bool) → p ≡ true → q ≡ true → p && q ≡ true
joined true q h k = k
joined false q h k = cc

module _ (net : Net) (numbers : Numbers) (v : Viewed) (of : IsView net numbers v) (name : List ℕ) where
  abbrev test : BridgeInView → Bool
  test b = same_name b.name name && (bridge_row b.bridge).is_on

  abbrev is_on : List ℕ × BridgeRow → Bool
  is_on e = e.1.is_on

  abbrev key : List ℕ × BridgeRow → List ℕ
  key e = e.0

  on_there : list_any test v.bridges ≡ true → Contains (bridges_on net) name
  on_there h =
      let b = passing test v.bridges h in
      let told = both (same_name b.0.name name) (bridge_row b.0.bridge).is_on b.2 in
      let entry : Contains (fin.entries net.bridges) (named_bridge b.0) = subst (λ (es : List (List ℕ × BridgeRow)). Contains es (named_bridge b.0)) of.bridges (in_map named_bridge v.bridges b.0 b.1) in
      subst (λ n. Contains (bridges_on net) n) (same_names b.0.name name told.0) (in_map key (filter is_on (fin.entries net.bridges)) (named_bridge b.0) (in_filter is_on (fin.entries net.bridges) (named_bridge b.0) entry told.1))

  there_on : Contains (bridges_on net) name → list_any test v.bridges ≡ true
  there_on c =
      let e = from_map key (filter is_on (fin.entries net.bridges)) name c in
      let kept = from_filter is_on (fin.entries net.bridges) e.0 e.1 in
      let b = from_map named_bridge v.bridges e.0 (subst (λ (es : List (List ℕ × BridgeRow)). Contains es e.0) (sym of.bridges) kept.0) in
      let own : b.0.name ≡ name = ap key b.2 ∙ e.2 in
      passed test v.bridges b.0 b.1 (joined (same_name b.0.name name) (bridge_row b.0.bridge).is_on (ap (λ n. same_name n name) own ∙ nat_list_eq_equiv.refl name) (ap is_on b.2 ∙ kept.1))

  pub on_by_name : list_any test v.bridges ≡ true ↔ Contains (bridges_on net) name
  on_by_name = (on_there, there_on)
