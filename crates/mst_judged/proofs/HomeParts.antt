-- The parts of bridges in islands, by the places of the islands that are kept under their numbers.
use Rattle.std.proofs.Common.{◌≡◌, ◌↔◌, inl, inr, ℕ, nat_eq, Bool, true, false, true≢false, List, [], ◌∷◌, map, Option, Some, None, refl, sym, ap, ◌∙◌, eq-eqb}
use Rattle.std.specs.List.{Contains}
use Rattle.std.specs.Option.{option_map_or}
use Rattle.std.specs.FinMap as fin
use Rattle.std.proofs.lemmas.Bool.{eqb-true}
use Rattle.std.proofs.lemmas.List.Elements.{All-contains_itself, All-map, All-weaker}
use Rattle.mst_graph.specs.Adding.{AreKeyed}
use Rattle.mst_graph.specs.Groups.{AreGroups}
use Rattle.mst_graph.specs.Islands.{Island}
use Rattle.mst_graph.proofs.Alike.{alike_groups}
use Rattle.mst_graph.proofs.Members.{from_map}
use Rattle.mst_view.specs.declared.in_view.BridgeInView.{BridgeInView}
use Rattle.mst_tables.specs.Contents.{IsNumbered}
use Rattle.mst_tables.specs.Tables.{Net, Numbers}
use Rattle.mst_roles.specs.forest.Outcome.{Outcome}
use Rattle.mst_roles.proofs.forest_lemmas.Lists.{some_is}
use Rattle.mst_reasons.specs.sweep.Baseline.{AreHomes}
use Rattle.mst_reasons.specs.sweep.Parts.{home}
use Rattle.mst_reasons.proofs.sweep_lemmas.Joined.{has_home, home_on, home_joined, joined_home}
use Rattle.mst_reasons.specs.Holds.{IsReached}
use Rattle.mst_judged.specs.Islands.{home_of, with_homes, HaveNumbers, AreReachParts, TellReached}
use Rattle.mst_reasons.specs.Seen.{names_in}
use Rattle.mst_reasons.specs.Reasons.{Parts}
use Rattle.mst_judged.specs.declared.homes.Home.{Home}
use Rattle.mst_judged.specs.declared.homes.Home.TheVariants as at

-- ---- bridges with where they are
pub first_names : (homes : List (ℕ × ℕ)) (bridges : List BridgeInView) → map (λ (p : List ℕ × Home). p.0) (with_homes homes bridges) ≡ names_in bridges
first_names homes [] = refl
first_names homes (b ∷ bridges) = ap (λ names. b.name ∷ names) (first_names homes bridges)

-- where a bridge is, by the place of its island, or by its number
abbrev at_home : Option ℕ → ℕ → Home
at_home place n = option_map_or at.Island place (at.Alone n)

one_place : (i j : ℕ) → at.Island i ≡ at.Island j → i ≡ j
one_place i j e = cc

one_alone : (n m : ℕ) → at.Alone n ≡ at.Alone m → n ≡ m
one_alone n m e = cc

not_alone : (i n : ℕ) → at.Island i ≡ at.Alone n → ⊥
not_alone i n e = cc

-- they are compared by their places or numbers
pub homes_decide : (same : Home → Home → Bool) → ((i j : ℕ) → same (at.Island i) (at.Island j) ≡ nat_eq i j) → ((n m : ℕ) → same (at.Alone n) (at.Alone m) ≡ nat_eq n m)
    → ((i n : ℕ) → same (at.Island i) (at.Alone n) ≡ false) → ((n i : ℕ) → same (at.Alone n) (at.Island i) ≡ false) → (a b : Home) → (same a b ≡ true) ↔ (a ≡ b)
homes_decide same places numbers apart other (at.Island i) (at.Island j) = (λ e. ap at.Island (eqb-true i j (sym (places i j) ∙ e)), λ e. places i j ∙ eq-eqb i j (one_place i j e))
homes_decide same places numbers apart other (at.Alone n) (at.Alone m) = (λ e. ap at.Alone (eqb-true n m (sym (numbers n m) ∙ e)), λ e. numbers n m ∙ eq-eqb n m (one_alone n m e))
homes_decide same places numbers apart other (at.Island i) (at.Alone m) = (λ e. absurd (true≢false (sym e ∙ apart i m)), λ e. absurd (not_alone i m e))
homes_decide same places numbers apart other (at.Alone n) (at.Island j) = (λ e. absurd (true≢false (sym e ∙ other n j)), λ e. absurd (not_alone j n (sym e)))

module _ (net : Net) (numbers : Numbers) (o : Outcome) (vid : ℕ) (numbered : IsNumbered net numbers) (homes : List (ℕ × ℕ)) (are : AreHomes net numbers o vid homes) where
  abbrev islands : List (Island (List ℕ) (List ℕ))
  islands = are.0

  home_is : (name : List ℕ) (n : ℕ) → fin.get numbers.bridges name ≡ Some n → home_of homes n ≡ at_home (home islands name) n
  home_is name n e = ap (λ (o : Option ℕ). at_home o n) (are.2 name n e)

  module _ (x y : List ℕ) (n m : ℕ) (x_is : fin.get numbers.bridges x ≡ Some n) (y_is : fin.get numbers.bridges y ≡ Some m) where
    reached : (h : Option ℕ) → home islands x ≡ h → (k : Option ℕ) → home islands y ≡ k → at_home h n ≡ at_home k m → IsReached net o vid x y
    reached (Some i) e (Some j) f same =
        let one : home islands y ≡ Some i = f ∙ ap Some (sym (one_place i j same)) in
        inr (record { first = home_on net o vid islands are.1 x i e; second = home_on net o vid islands are.1 y i one; joined = home_joined net o vid islands are.1 x y i e one })
    reached (Some i) e None f same = absurd (not_alone i m same)
    reached None e (Some j) f same = absurd (not_alone j n (sym same))
    reached None e None f same = inl (numbered.bridges_differ x y n x_is (y_is ∙ ap Some (sym (one_alone n m same))))

    same_reached : home_of homes n ≡ home_of homes m → IsReached net o vid x y
    same_reached same = reached (home islands x) refl (home islands y) refl (sym (home_is x n x_is) ∙ same ∙ home_is y m y_is)

    reached_same : IsReached net o vid x y → home_of homes n ≡ home_of homes m
    reached_same (inl same) = ap (home_of homes) (some_is n m (sym x_is ∙ ap (fin.get numbers.bridges) same ∙ y_is))
    reached_same (inr t) =
        let h = has_home net o vid islands are.1 x t.first in
        let k : home islands y ≡ Some h.0 = sym (joined_home net o vid islands are.1 x y t.first t.second t.joined) ∙ h.1 in
        home_is x n x_is ∙ ap (λ (o : Option ℕ). at_home o n) h.1 ∙ sym (home_is y m y_is ∙ ap (λ (o : Option ℕ). at_home o m) k)

  -- the places of islands tell which bridges are reached
  pub homes_tell : TellReached net numbers o vid homes
  homes_tell x y n m x_is y_is = (same_reached x y n m x_is y_is, reached_same x y n m x_is y_is)

module _ (net : Net) (numbers : Numbers) (o : Outcome) (vid : ℕ) (homes : List (ℕ × ℕ)) (tell : TellReached net numbers o vid homes) where
  abbrev number_of : List ℕ → ℕ
  number_of name = option_map_or (λ n. n) (fin.get numbers.bridges name) 0

  abbrev pub key : List ℕ → Home
  key name = home_of homes (number_of name)

  key_is : (name : List ℕ) (n : ℕ) → fin.get numbers.bridges name ≡ Some n → key name ≡ home_of homes n
  key_is name n e = ap (λ (o : Option ℕ). home_of homes (option_map_or (λ n. n) o 0)) e

  module _ (bridges : List BridgeInView) (have : HaveNumbers numbers bridges) where
    number_in : (name : List ℕ) → Contains (names_in bridges) name → (n : ℕ) × (fin.get numbers.bridges name ≡ Some n)
    number_in name h = let b = from_map (λ (b : BridgeInView). b.name) bridges name h in (b.0.bridge.number, ap (fin.get numbers.bridges) (sym b.2) ∙ have b.0 b.1)

    pub are_keyed : AreKeyed key (with_homes homes bridges)
    are_keyed =
        All-map (λ (p : List ℕ × Home). p.1 ≡ key p.0) (λ (b : BridgeInView). (b.name, home_of homes b.bridge.number)) bridges
        (All-weaker (Contains bridges) (λ (b : BridgeInView). home_of homes b.bridge.number ≡ key b.name)
        (λ b h. ap (λ (o : Option ℕ). home_of homes (option_map_or (λ n. n) o 0)) (sym (have b h))) bridges (All-contains_itself bridges))

    -- groups of bridges that are at one place
    pub parts_are : (same : Home → Home → Bool) → ((a b : Home) → (same a b ≡ true) ↔ (a ≡ b)) → (parts : Parts) → AreGroups (λ x y. same (key x) (key y) ≡ true) (names_in bridges) parts → AreReachParts net o (names_in bridges) vid parts
    parts_are same decides parts =
        alike_groups (λ x y. same (key x) (key y) ≡ true) (IsReached net o vid) (names_in bridges) parts
        (λ x y hx hy.
        let n = number_in x hx in
        let m = number_in y hy in
        let at_x = key_is x n.0 n.1 in
        let at_y = key_is y m.0 m.1 in
        let told = tell x y n.0 m.0 n.1 m.1 in
        (λ e. told.0 (sym at_x ∙ (decides (key x) (key y)).0 e ∙ at_y), λ r. (decides (key x) (key y)).1 (at_x ∙ told.1 r ∙ sym at_y)))
