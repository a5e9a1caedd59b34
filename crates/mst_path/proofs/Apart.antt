-- Two paths of a network are equal, where no role is restricted, and two first ones always.
use Rattle.std.proofs.Common.{◌≡◌, ◌≢◌, ◌⊎◌, inl, inr, ℕ, ◌<◌, Bool, true, false, List, [], ◌∷◌, Option, Some, None, length, refl, sym, ap, ◌∙◌, true≢false, Less, Equal, Greater}
use Rattle.std.specs.List.{Contains}
use Rattle.std.specs.Ordering.{nat_cmp, ordering_then, MatchOrdering}
use Rattle.std.specs.declared.cmp.Ordering.{Ordering}
use Rattle.std.specs.Cmp.Lexicographic.{slice_cmp}
use Rattle.std.proofs.lemmas.Cmp.{ranked}
use Rattle.mst_graph.proofs.Members.{from_filter, here, there}
use Rattle.mst_ids.specs.Names.{name_cmp, port_cmp}
use Rattle.mst_tables.specs.Tables.{Net, port_eq}
use Rattle.mst_view.specs.View.{LogicalPort, view_ports}
use Rattle.mst_view.proofs.Names.{same_ports, own_port}
use Rattle.mst_vlan.specs.forest.Outcome.{Outcome}
use Rattle.mst_vlan.specs.roles.Roles.{forwards_for}
use Rattle.mst_vlan.specs.roles.Active.{active_ports, JoinWithoutLoop}
use Rattle.mst_vlan.specs.Reach.{is_member}
use Rattle.mst_vlan.proofs.roles_lemmas.ActiveLaw.{one_port}
use Rattle.mst_vlan.proofs.forest_lemmas.Views.{name_is}
use Rattle.mst_path.specs.Paths.{Hop, IsPath, IsFirstPath, IsPathOf, carrying, hop_cmp, path_cmp}
use Rattle.mst_path.proofs.First.{IsOf, own_hops}
use Rattle.mst_path.proofs.Orders.{level, paths_total}
use Rattle.mst_path.proofs.Unique.{one_path}

module _ (net : Net) (o : Outcome) (vid : ℕ) where
  active_of : (p : LogicalPort) → Contains (carrying net o vid) p → Contains (active_ports net o vid) p
  active_of p h = (from_filter (is_member net vid) (active_ports net o vid) p h).0

  in_view : (p : LogicalPort) → Contains (carrying net o vid) p → Contains (view_ports net) p
  in_view p h = (from_filter (forwards_for net o vid) (view_ports net) p (active_of p h)).0

  port_cases : (p q : LogicalPort) → Contains (carrying net o vid) p → Contains (carrying net o vid) q → (p ≡ q) ⊎ (p ≢ q)
  port_cases p q h k = go (port_eq p.name q.name) refl
    where
      go : (t : Bool) → port_eq p.name q.name ≡ t → (p ≡ q) ⊎ (p ≢ q)
      go true e = inl (one_port net o vid p q (in_view p h) (in_view q k) (same_ports p.name q.name e))
      go false e = inr (λ same. true≢false (sym (own_port p.name) ∙ ap (λ (q : LogicalPort). port_eq p.name q.name) same ∙ e))

  pub one : JoinWithoutLoop net (active_ports net o vid) → (a b : List ℕ) (hops others : List Hop) → IsPath (carrying net o vid) a b hops → IsPath (carrying net o vid) a b others → hops ≡ others
  one law a b hops others p q = one_path (carrying net o vid) (active_ports net o vid) active_of law.no_loop port_cases b hops others a p q

  -- ---- first paths
  both_level : (r s : Ordering) → ordering_then r s ≡ Equal → (r ≡ Equal) × (s ≡ Equal)
  both_level Less s e = cc
  both_level Equal s e = (refl, e)
  both_level Greater s e = cc

  same_number : (m n : ℕ) → nat_cmp m n ≡ Equal → m ≡ n
  same_number m n = go (nat_cmp m n) (ranked m n (nat_cmp m n) refl)
    where
      go : (r : Ordering) → MatchOrdering r (m < n) (m ≡ n) (n < m) → r ≡ Equal → m ≡ n
      go Less h e = cc
      go Equal h e = h
      go Greater h e = cc

  same_port : (p q : LogicalPort) → Contains (carrying net o vid) p → Contains (carrying net o vid) q → port_cmp p.name q.name ≡ Equal → p ≡ q
  same_port p q h k e =
      let both = both_level (name_cmp p.name.bridge q.name.bridge) (nat_cmp p.name.number q.name.number) e in
      let bridge : p.name.bridge ≡ q.name.bridge = name_is p.name.bridge q.name.bridge both.0 in
      let number : p.name.number ≡ q.name.number = same_number p.name.number q.name.number both.1 in
      let name : p.name ≡ q.name = λ i. record { bridge = bridge i; number = number i } in
      one_port net o vid p q (in_view p h) (in_view q k) name

  same_hops : (hops others : List Hop) → ((h : Hop) → Contains hops h → IsOf (carrying net o vid) h) → ((h : Hop) → Contains others h → IsOf (carrying net o vid) h) → slice_cmp hop_cmp hops others ≡ Equal → hops ≡ others
  same_hops [] [] own other e = refl
  same_hops [] (k ∷ ks) own other e = cc
  same_hops (h ∷ hs) [] own other e = cc
  same_hops (h ∷ hs) (k ∷ ks) own other e =
      let first = both_level (hop_cmp h k) (slice_cmp hop_cmp hs ks) e in
      let two = both_level (port_cmp h.arriving.name k.arriving.name) (port_cmp h.leaving.name k.leaving.name) first.0 in
      let a = own h (here h hs) in
      let b = other k (here k ks) in
      let arrives : h.arriving ≡ k.arriving = same_port h.arriving k.arriving a.arrives b.arrives two.0 in
      let leaves : h.leaving ≡ k.leaving = same_port h.leaving k.leaving a.leaves b.leaves two.1 in
      let rest : hs ≡ ks = same_hops hs ks (λ g c. own g (there h g hs c)) (λ g c. other g (there k g ks c)) first.1 in
      λ i. record { leaving = leaves i; arriving = arrives i } ∷ rest i

  same_first : (a b : List ℕ) (hops others : List Hop) → IsFirstPath (carrying net o vid) a b hops → IsFirstPath (carrying net o vid) a b others → hops ≡ others
  same_first a b hops others p q =
      let even : path_cmp hops others ≡ Equal = level path_cmp paths_total hops others (p.first others q.path) (q.first hops p.path) in
      same_hops hops others (own_hops (carrying net o vid) a b hops a p.path.way) (own_hops (carrying net o vid) a b others a q.path.way) (both_level (nat_cmp (length hops) (length others)) (slice_cmp hop_cmp hops others) even).1

  pub one_first : (a b : List ℕ) (path other : Option (List Hop)) → IsPathOf net o vid a b path → IsPathOf net o vid a b other → path ≡ other
  one_first a b None None p q = refl
  one_first a b None (Some hops) p q = absurd (p q.0 hops q.1.path)
  one_first a b (Some hops) None p q = absurd (q p.0 hops p.1.path)
  one_first a b (Some hops) (Some others) p q = ap Some (same_first a b hops others p.1 q.1)
