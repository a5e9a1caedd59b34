-- Islands that are kept for classes of VIDs.
use Rattle.std.proofs.Common.{◌≡◌, ℕ, ◌+◌, ◌<◌, List, length, get_or, Option, Some, None, MatchOption, sym, subst, ◌∙◌, arith}
use Rattle.std.specs.Prelude.{⊤}
use Rattle.std.specs.HashMap.{HashMap}
use Rattle.std.proofs.lemmas.Slice.Zip.{AllZip-long}
use Rattle.std.proofs.lemmas.List.{get_or_default}
use Rattle.mst_reasons.specs.sweep.vlan.Carried.{ViewWithTrees}
use Rattle.mst_view.specs.Viewed.{Viewed}
use Rattle.mst_tables.specs.Tables.{Net, Numbers}
use Rattle.mst_roles.specs.forest.Agrees.{AreOf, Known}
use Rattle.mst_roles.specs.forest.Forest.{Forest, IsForest}
use Rattle.mst_roles.specs.forest.Settled.{SettledNet, IsSettledNet, outcome_of}
use Rattle.mst_roles.proofs.forest_lemmas.SettledNet.{forest_of}
use Rattle.mst_reasons.proofs.sweep_lemmas.vlan_lemmas.classes_lemmas.VidPlaces.{zip_at}
use Rattle.mst_reasons.specs.sweep.Baseline.{AreHomes}
use Rattle.mst_judged.specs.Islands.{AreMade, HasHomesBy, IsOfPlan}

module _ (s : SettledNet) (is : IsSettledNet s) (v : Viewed) (f : Forest) (same_view : v ≡ s.view) (same_forest : f ≡ s.forest) where
  -- a view and a forest that are those of a settled network
  pub known_of : Known v f.regions
  known_of = subst (λ (w : Viewed). Known w f.regions) (sym same_view) (subst (λ (g : Forest). Known s.view g.regions) (sym same_forest) (record { net = s.net; numbers = s.numbers; of = is.of }))

  -- so they are those that a table of what carries its VIDs is of
  pub is_of_plan : (c : ViewWithTrees) → c ≡ record { view = v; forest = f } → IsOfPlan s c
  is_of_plan c is = is ∙ (λ i. record { view = same_view i; forest = same_forest i })

  pub homes_told : (vid : ℕ) (homes : List (ℕ × ℕ)) → ((net : Net) (numbers : Numbers) (i : IsForest net numbers f) → AreOf net numbers v f.regions → AreHomes net numbers i.outcome vid homes)
      → AreHomes s.net s.numbers (outcome_of s) vid homes
  homes_told vid homes told =
      let by_view = subst (λ (w : Viewed). (net : Net) (numbers : Numbers) (i : IsForest net numbers f) → AreOf net numbers w f.regions → AreHomes net numbers i.outcome vid homes) same_view told in
      let by_forest = subst (λ (g : Forest). (net : Net) (numbers : Numbers) (i : IsForest net numbers g) → AreOf net numbers s.view g.regions → AreHomes net numbers i.outcome vid homes) same_forest by_view in
      by_forest s.net s.numbers (forest_of s is) is.of

-- what a VID has, if it is made
abbrev pub HasHomes : {S : Type 0} → SettledNet → ℕ → Option (HashMap ℕ ℕ S) → Type 0
HasHomes s vid homes = MatchOption homes ⊤ (λ h. AreHomes s.net s.numbers (outcome_of s) vid h.entries)

-- as it has in each network with this view and these trees
pub has_homes : {S : Type 0} (c : ViewWithTrees) (s : SettledNet) → IsSettledNet s → IsOfPlan s c → (vid : ℕ) (homes : Option (HashMap ℕ ℕ S)) → MatchOption homes ⊤ (λ h. HasHomesBy c vid h.entries) → HasHomes s vid homes
has_homes c s is of vid None h = tt
has_homes c s is of vid (Some m) h = h s is of

module _ {S : Type 0} (s : SettledNet) (firsts : List ℕ) (made : List (Option (HashMap ℕ ℕ S))) (are : AreMade s firsts made) where
  pub made_there : (i : ℕ) → i < length firsts → i < length made
  made_there i l = let long = AllZip-long (λ place homes. HasHomes s (place + 1) homes) firsts made are in omega arith

  -- those that are read at a place
  pub made_homes : (i : ℕ) (o : Option (HashMap ℕ ℕ S)) (h : HashMap ℕ ℕ S) → i < length firsts → o ≡ get_or made i o → o ≡ Some h → AreHomes s.net s.numbers (outcome_of s) (get_or firsts i 0 + 1) h.entries
  made_homes i o h l is some =
      let read : get_or made i None ≡ Some h = get_or_default made i None o (made_there i l) ∙ sym is ∙ some in
      subst (HasHomes s (get_or firsts i 0 + 1)) read (zip_at (λ place homes. HasHomes s (place + 1) homes) firsts made i 0 None are l)
