-- What a class of VIDs has is that of each of its VIDs.
use Rattle.std.proofs.Common.{◌≡◌, ℕ, ◌+◌, ◌-◌, ◌<◌, nat_eq, Bool, true, List, [], length, map, get_or, sym, ap, subst, ◌∙◌, arith}
use Rattle.std.specs.List.{AllByRecursion, Contains}
use Rattle.std.proofs.lemmas.Bool.{eqb-true}
use Rattle.std.proofs.lemmas.List.{get_or-map}
use Rattle.mst_ids.specs.Vids.{is_vid}
use Rattle.mst_ids.specs.declared.name.PortName.{PortName}
use Rattle.mst_graph.specs.Numbers.{AreNumbers}
use Rattle.mst_tables.specs.ByTree.{table_in, vlans_in}
use Rattle.mst_tables.specs.Tables.{Net, Numbers}
use Rattle.mst_view.specs.Viewed.{Viewed}
use Rattle.mst_vlan.specs.forest.Agrees.{AreOf}
use Rattle.mst_vlan.specs.forest.Outcome.{Outcome}
use Rattle.mst_vlan.specs.forest.Forest.{Forest}
use Rattle.mst_text.specs.vlan.classes.Alike.{AreAlike, TellApart}
use Rattle.mst_text.proofs.vlan_lemmas.classes_lemmas.VidPlaces.{place_of_vid}
use Rattle.mst_plan_text.specs.Bodies.{pair_of, pairs_at, pairs_of}
use Rattle.mst_text.proofs.vlan_lemmas.LinksAlike.{one_tree, same_ports}
use Rattle.mst_plan_text.proofs.VidsAlike.{ports_alike}

-- of what VIDs have that alike VIDs share: what a class has is that of each of its VIDs
module _ (pairs : ℕ → List (PortName × Bool)) (tables : List (List ℕ)) (sets : List (List Bool)) (shared : (x y : ℕ) → AreAlike tables sets x y → pairs x ≡ pairs y)
    (told classes firsts : List ℕ) (tell : TellApart tables sets told) (are : AreNumbers nat_eq told classes firsts) (all : List (List (PortName × Bool))) (is : all ≡ map (λ place. pairs (place + 1)) firsts) where
  pairs_there : (i : ℕ) → i < 4094 → get_or all (get_or classes i 0) [] ≡ pairs (i + 1)
  pairs_there i l =
      let n : ℕ = get_or classes i 0 in
      let l_told : i < length told = subst (λ k. i < k) (sym tell.as_long) l in
      let below : n < length firsts = are.below i l_told in
      let first = are.first n below in
      let k : ℕ = get_or firsts n 0 in
      let k_below : k < 4094 = subst (λ m. k < m) tell.as_long first.0 in
      let same : get_or told k 0 ≡ get_or told i 0 = eqb-true (get_or told k 0) (get_or told i 0) ((are.equal k i 0 first.0 l_told).0 first.1) in
      ap (λ ps. get_or ps n []) is ∙ get_or-map (λ place. pairs (place + 1)) firsts n 0 [] below ∙ shared (k + 1) (i + 1) (tell.alike k i k_below l same)

  pub have_pairs : (vid : ℕ) → is_vid vid ≡ true → pairs_at classes all vid ≡ pairs vid
  have_pairs vid e =
      let p = place_of_vid vid e in
      let is : p.place + 1 ≡ vid = p.is in
      let place : vid - 1 ≡ p.place = omega arith in
      ap (λ k. get_or all (get_or classes k 0) []) place ∙ pairs_there p.place p.below ∙ ap pairs is

module _ (net : Net) (numbers : Numbers) (v : Viewed) (f : Forest) (of : AreOf net numbers v f.regions) (o : Outcome) (tables : List (List ℕ)) (sets : List (List Bool))
    (have_table : AllByRecursion (λ b. Contains tables (table_in v.settings.tables b.name)) v.bridges)
    (have_set : AllByRecursion (λ p. Contains sets (vlans_in v.settings.vlans p.name)) v.ports) where
  module _ (x y : ℕ) (a : AreAlike tables sets x y) where
    pairs_shared : pairs_of net o x ≡ pairs_of net o y
    pairs_shared = ap (map pair_of) (ports_alike net numbers v f of o x y (one_tree net numbers v f of o tables sets have_table have_set x y a) (same_ports net numbers v f of o tables sets have_table have_set x y a))

  -- the active ports of a VID, by the number of its class
  pub are_pairs : (told classes firsts : List ℕ) → TellApart tables sets told → AreNumbers nat_eq told classes firsts → (all : List (List (PortName × Bool))) → all ≡ map (λ place. pairs_of net o (place + 1)) firsts
      → (vid : ℕ) → is_vid vid ≡ true → pairs_at classes all vid ≡ pairs_of net o vid
  are_pairs told classes firsts tell are all is = have_pairs (pairs_of net o) tables sets pairs_shared told classes firsts tell are all is
