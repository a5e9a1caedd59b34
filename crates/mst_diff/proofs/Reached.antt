-- VIDs that no table and no set of VLANs of either network tells apart have the same sides.
use Rattle.std.proofs.Common.{ℕ, ◌++◌, Bool, List, subst}
use Rattle.std.specs.List.{AllByRecursion, Contains}
use Rattle.std.proofs.lemmas.List.Elements.{Contains-append_left, Contains-append_right}
use Rattle.mst_graph.specs.Islands.{AreIslands}
use Rattle.mst_vlan.specs.forest.Settled.{SettledNet, outcome_of, IsSettledNet}
use Rattle.mst_vlan.proofs.forest_lemmas.Entries.{all_weaker}
use Rattle.mst_vlan.specs.Reach.{bridges_on, lans_up}
use Rattle.mst_vlan.specs.classes.Alike.{AreAlike}
use Rattle.mst_vlan.proofs.LinksAlike.{links_shared}
use Rattle.mst_diff.specs.Reach.{Sides}
use Rattle.mst_vlan.specs.classes.Classes.{HasOnly}
use Rattle.mst_diff.specs.Seen.{AreSidesOf}

-- what is in the first list, or in the second, is in both
pub in_first : {A X : Type 0} (key : A → X) (xs ys : List X) (things : List A) → AllByRecursion (λ a. Contains xs (key a)) things → AllByRecursion (λ a. Contains (xs ++ ys) (key a)) things
in_first key xs ys things h = all_weaker _ _ (λ a there. Contains-append_left xs ys (key a) there) things h

pub in_second : {A X : Type 0} (key : A → X) (xs ys : List X) (things : List A) → AllByRecursion (λ a. Contains ys (key a)) things → AllByRecursion (λ a. Contains (xs ++ ys) (key a)) things
in_second key xs ys things h = all_weaker _ _ (λ a there. Contains-append_right xs ys (key a) there) things h

module _ (s t : SettledNet) (is : IsSettledNet s) (are : IsSettledNet t) (tables : List (List ℕ)) (sets : List (List Bool)) (old : HasOnly s.view tables sets) (new : HasOnly t.view tables sets) where
  pub sides_moved : (x y : ℕ) → AreAlike tables sets x y → (sides : Sides) → AreSidesOf s t x sides → AreSidesOf s t y sides
  sides_moved x y alike sides h = (
    h.0,
    h.1,
    subst (λ ks. AreIslands (bridges_on s.net) (lans_up s.net) ks h.0) (links_shared s.net s.numbers s.view s.forest is.of (outcome_of s) tables sets old.tables_there old.sets_there x y alike) h.2,
    subst (λ ks. AreIslands (bridges_on t.net) (lans_up t.net) ks h.1) (links_shared t.net t.numbers t.view t.forest are.of (outcome_of t) tables sets new.tables_there new.sets_there x y alike) h.3,
    h.4,
  )
