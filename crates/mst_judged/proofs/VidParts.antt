-- What value a class of VIDs has, each of its VIDs has.
use Rattle.std.proofs.Common.{◌≡◌, inl, inr, ℕ, ◌+◌, ◌-◌, ◌<◌, Bool, true, false, List, [], length, get_or, sym, subst, arith}
use Rattle.std.specs.List.{Contains}
use Rattle.std.proofs.lemmas.Bool.{eqb-true}
use Rattle.mst_graph.specs.Islands.{AreJoined}
use Rattle.mst_graph.specs.Walks.{bridge_at}
use Rattle.mst_graph.specs.declared.keys.Numbering.{Numbering}
use Rattle.mst_graph.proofs.Alike.{alike_groups}
use Rattle.mst_view.specs.Viewed.{Viewed}
use Rattle.mst_tables.specs.Tables.{Net}
use Rattle.mst_reasons.specs.sweep.vlan.classes.Alike.{AreAlike}
use Rattle.mst_reasons.specs.sweep.vlan.classes.AllVids.{NumberEach, all_vids}
use Rattle.mst_roles.specs.forest.Outcome.{Outcome}
use Rattle.mst_roles.specs.forest.Settled.{SettledNet, IsSettledNet, outcome_of}
use Rattle.mst_reasons.specs.sweep.vlan.classes.Classes.{AreClasses}
use Rattle.mst_reasons.specs.sweep.vlan.classes.Flags.{flag_at}
use Rattle.mst_reasons.proofs.sweep_lemmas.vlan_lemmas.LinksAlike.{links_shared}
use Rattle.mst_reasons.proofs.sweep_lemmas.vlan_lemmas.classes_lemmas.VidPlaces.{numbers_below, vid_place}
use Rattle.mst_reasons.specs.sweep.vlan.Reach.{vid_links}
use Rattle.mst_reasons.specs.Holds.{AreTogether, IsReached}
use Rattle.mst_judged.specs.Islands.{AreReachParts}
use Rattle.mst_judged.specs.Valued.{AreValuesOf, value_at}
use Rattle.mst_reasons.specs.Reasons.{AreBoth, Parts, either_on}

-- ---- classes
module _ (v : Viewed) (c : Numbering) (k : AreClasses v c) where
  open k use {numbers as told, tell, classes as are}

  -- each VID has a class
  pub each_class : (count : ℕ) → count ≡ length c.firsts.items → NumberEach c.numbers.items count
  each_class count e = numbers_below told c.numbers.items c.firsts.items count tell.as_long are e

  -- VIDs of one class are alike
  pub one_alike : (i j : ℕ) → i < 4094 → j < 4094 → get_or c.numbers.items i 0 ≡ get_or c.numbers.items j 0 → AreAlike k.tables k.sets (i + 1) (j + 1)
  one_alike i j li lj same =
      let i_told : i < length told = subst (λ n. i < n) (sym tell.as_long) li in
      let j_told : j < length told = subst (λ n. j < n) (sym tell.as_long) lj in
      tell.alike i j li lj (eqb-true (get_or told i 0) (get_or told j 0) ((are.equal i j 0 i_told j_told).0 same))

  module _ {B : Type 0} (none : B) (Has : ℕ → B → Type 0)
      (moved : (i j : ℕ) → i < 4094 → j < 4094 → get_or c.numbers.items i 0 ≡ get_or c.numbers.items j 0 → (value : B) → Has (i + 1) value → Has (j + 1) value)
      (flags : List Bool) (values : List B) (of : AreValuesOf none Has c.firsts.items flags values) where
    there : (i : ℕ) → i < 4094 → get_or flags (get_or c.numbers.items i 0) false ≡ true → Has (i + 1) (get_or values (get_or c.numbers.items i 0) none)
    there i l flag =
        let n : ℕ = get_or c.numbers.items i 0 in
        let l_told : i < length told = subst (λ k. i < k) (sym tell.as_long) l in
        let below : n < length c.firsts.items = are.below i l_told in
        let first = are.first n below in
        let k : ℕ = get_or c.firsts.items n 0 in
        let k_below : k < 4094 = subst (λ m. k < m) tell.as_long first.0 in
        moved k i k_below l first.1 (get_or values n none) (of n below flag)

    pub vids_have : (vid : ℕ) → Contains all_vids vid → flag_at c.numbers.items flags vid ≡ true → Has vid (value_at none c.numbers.items values vid)
    vids_have vid h flag =
        let p = vid_place vid h in
        let is : p.place + 1 ≡ vid = p.is in
        let place : p.place ≡ vid - 1 = omega arith in
        subst (λ i. Has vid (get_or values (get_or c.numbers.items i 0) none)) place
        (subst (λ vid. Has vid (get_or values (get_or c.numbers.items p.place 0) none)) is
        (there p.place p.below (subst (λ i. get_or flags (get_or c.numbers.items i 0) false ≡ true) (sym place) flag)))

-- ---- VIDs of the same links
module _ (net : Net) (o : Outcome) (x y : ℕ) (same : vid_links net o x ≡ vid_links net o y) where
  together_moved : (a b : List ℕ) → AreTogether net o x a b → AreTogether net o y a b
  together_moved a b t = record { first = t.first; second = t.second; joined = subst (λ links. AreJoined links (bridge_at a) (bridge_at b)) same t.joined }

  reached_moved : (a b : List ℕ) → IsReached net o x a b → IsReached net o y a b
  reached_moved a b (inl e) = inl e
  reached_moved a b (inr t) = inr (together_moved a b t)

module _ (s : SettledNet) (is : IsSettledNet s) (c : Numbering) (k : AreClasses s.view c) (x y : ℕ) (alike : AreAlike k.tables k.sets x y) where
  pub same_links : vid_links s.net (outcome_of s) x ≡ vid_links s.net (outcome_of s) y
  same_links = links_shared s.net s.numbers s.view s.forest is.of (outcome_of s) k.tables k.sets k.have_tables k.have_sets x y alike

  pub reach_moved : (bridges : List (List ℕ)) (parts : Parts) → AreReachParts s.net (outcome_of s) bridges x parts → AreReachParts s.net (outcome_of s) bridges y parts
  reach_moved bridges parts =
      alike_groups (IsReached s.net (outcome_of s) x) (IsReached s.net (outcome_of s) y) bridges parts
      (λ a b ha hb. (reached_moved s.net (outcome_of s) x y same_links a b, reached_moved s.net (outcome_of s) y x (sym same_links) a b))

  pub both_moved : (bridges others : List (List ℕ)) (parts : Parts) → AreBoth s.net (outcome_of s) bridges others x parts → AreBoth s.net (outcome_of s) bridges others y parts
  both_moved bridges others parts b = record {
    all = b.all;
    are_parts = alike_groups (AreTogether s.net (outcome_of s) x) (AreTogether s.net (outcome_of s) y) (either_on s.net bridges others) b.all
        (λ a d ha hd. (together_moved s.net (outcome_of s) x y same_links a d, together_moved s.net (outcome_of s) y x (sym same_links) a d)) b.are_parts;
    are = b.are;
  }
