-- The clusters of islands, under the numbers of records and under names.
use Rattle.std.proofs.Common.{◌≡◌, ℕ, suc, ◌==◌, Bool, true, false, cond, List, [], ◌∷◌, ◌++◌, map, Option, Some, None, is_some, refl, sym, ap, ◌∙◌, true≢false, eq-eqb}
use Rattle.std.specs.Prelude.{if◌then◌else◌}
use Rattle.std.specs.List.{Contains, filter, find, flat_map}
use Rattle.std.specs.Option.{option_map_or}
use Rattle.std.specs.FinMap as fin
use Rattle.std.proofs.lemmas.Bool.{eqb-true}
use Rattle.mst_view.specs.declared.in_view.BridgeInView.{BridgeInView}
use Rattle.mst_view.specs.declared.in_view.PortInView.{PortInView}
use Rattle.mst_tables.specs.After.{table_of}
use Rattle.mst_tables.specs.ByTree.{table_in}
use Rattle.mst_tables.specs.Seen.{bridge_row}
use Rattle.mst_tables.specs.Table.{tree_in}
use Rattle.mst_tables.specs.Tables.{BridgeRow}
use Rattle.mst_graph.specs.Lists.{has_any}
use Rattle.mst_roles.specs.Roles.{tree_of_vid}
use Rattle.mst_roles.specs.SeenRoles.{seen_tree}
use Rattle.mst_roles.specs.forest.Outcome.{Outcome}
use Rattle.mst_roles.specs.forest.Settled.{SettledNet, outcome_of, IsSettledNet}
use Rattle.mst_roles.proofs.forest_lemmas.Lists.{some_is}
use Rattle.mst_roles.proofs.forest_lemmas.Looking.{first_found}
use Rattle.mst_roles.proofs.forest_lemmas.Seen.{bridge_there, bridge_seen, port_seen}
use Rattle.mst_graph.specs.Islands.{Island}
use Rattle.mst_summary.specs.vlan.declared.island.Island.{Island as IslandNos}
use Rattle.mst_picture.specs.Bridges.{is_root}
use Rattle.mst_picture.specs.InView.{cluster_of, clusters_of, node_at, node_of}
use Rattle.mst_picture.specs.VlanPicture.{cluster, cluster_closing, cluster_opening, clusters, node_line, node_text, numbered}

-- ---- lists of numbers beside the lists of what has them
-- the texts are those of the numbers, where each thing's is that of its number
texts_same : {A : Type 0} (has : A → Option ℕ) (f : ℕ → List ℕ) (g : A → List ℕ) → ((x : A) (n : ℕ) → has x ≡ Some n → f n ≡ g x) → (ns : List ℕ) (xs : List A) → map Some ns ≡ map has xs → flat_map f ns ≡ flat_map g xs
texts_same has f g each [] [] e = refl
texts_same has f g each [] (x ∷ xs) e = cc
texts_same has f g each (n ∷ ns) [] e = cc
texts_same has f g each (n ∷ ns) (x ∷ xs) e =
    let first : has x ≡ Some n = cc in
    let others : map Some ns ≡ map has xs = cc in
    let own = each x n first in
    let rest = texts_same has f g each ns xs others in
    λ i. own i ++ rest i

any_same : {A : Type 0} (has : A → Option ℕ) (ns : List ℕ) (xs : List A) → map Some ns ≡ map has xs → has_any ns ≡ has_any xs
any_same has [] [] e = refl
any_same has [] (x ∷ xs) e = cc
any_same has (n ∷ ns) [] e = cc
any_same has (n ∷ ns) (x ∷ xs) e = refl

module _ (s : SettledNet) (is : IsSettledNet s) (vid : ℕ) where
  open s use {net, numbers, view as v}
  open is use {of}

  abbrev o : Outcome
  o = outcome_of s

  -- ---- bridges
  -- the bridge of the view that has the number of a bridge of the network
  record IsFound (a : List ℕ) (row : BridgeRow) (n : ℕ) : Type 0 where
    bridge : BridgeInView
    found : find (λ (b : BridgeInView). n == b.bridge.number) v.bridges ≡ Some bridge
    name : bridge.name ≡ a
    is_row : bridge_row bridge.bridge ≡ row

  by_number : (a : List ℕ) (row : BridgeRow) (n : ℕ) → fin.get numbers.bridges a ≡ Some n → fin.get net.bridges a ≡ Some row → IsFound a row n
  by_number a row n e h =
      let b = bridge_there net numbers v of.view a row h in
      let own = bridge_seen net numbers v of.view b.0 b.1 in
      let name : b.0.name ≡ a = ap (λ (q : List ℕ × BridgeRow). q.0) b.2 in
      let number : n ≡ b.0.bridge.number = some_is n b.0.bridge.number (sym e ∙ ap (fin.get numbers.bridges) (sym name) ∙ own.has_number) in
      let first = first_found (λ (x : BridgeInView). n == x.bridge.number) v.bridges b.0 b.1 (eq-eqb n b.0.bridge.number number) in
      let other = bridge_seen net numbers v of.view first.it first.there in
      let one : first.it.name ≡ a = of.numbered.bridges_differ first.it.name a n (other.has_number ∙ ap Some (sym (eqb-true n first.it.bridge.number first.passes))) e in
      record { bridge = first.it; found = first.found; name = one; is_row = some_is (bridge_row first.it.bridge) row (sym other.has_row ∙ ap (fin.get net.bridges) one ∙ h) }

  -- a name that has a number is that of a bridge of the network
  no_number : (a : List ℕ) (n : ℕ) → fin.get numbers.bridges a ≡ Some n → fin.get net.bridges a ≡ None → true ≡ false
  no_number a n e h = sym (ap is_some e) ∙ of.numbered.bridges a ∙ ap is_some h

  found_tree : (a : List ℕ) (row : BridgeRow) (n : ℕ) → fin.get net.bridges a ≡ Some row → IsFound a row n → seen_tree v n vid ≡ tree_of_vid net a vid
  found_tree a row n h x =
      ap (λ (y : Option BridgeInView). option_map_or (λ (b : BridgeInView). if (bridge_row b.bridge).is_rstp then 0 else tree_in (table_in v.settings.tables b.name) vid) y 0) x.found
      ∙ (λ i. if (x.is_row i).is_rstp then 0 else tree_in (table_in (of.view.settings i).tables (x.name i)) vid)
      ∙ sym (ap (λ (y : Option BridgeRow). option_map_or (λ (row : BridgeRow). if row.is_rstp then 0 else tree_in (table_of net a) vid) y 0) h)

  -- the tree that a bridge has the VID in
  tree_named : (a : List ℕ) (n : ℕ) → fin.get numbers.bridges a ≡ Some n → seen_tree v n vid ≡ tree_of_vid net a vid
  tree_named a n e = go (fin.get net.bridges a) refl
    where
      go : (y : Option BridgeRow) → fin.get net.bridges a ≡ y → seen_tree v n vid ≡ tree_of_vid net a vid
      go None h = absurd (true≢false (no_number a n e h))
      go (Some row) h = found_tree a row n h (by_number a row n e h)

  pub port_tree_named : (p : PortInView) → Contains v.ports p → seen_tree v p.bridge vid ≡ tree_of_vid net p.name.bridge vid
  port_tree_named p there = tree_named p.name.bridge p.bridge (port_seen net numbers v of.view p there).has_numbers.bridge

  node_named : (a : List ℕ) (n : ℕ) → fin.get numbers.bridges a ≡ Some n → node_at s vid n ≡ node_text net o vid a
  node_named a n e = go (fin.get net.bridges a) refl
    where
      go : (y : Option BridgeRow) → fin.get net.bridges a ≡ y → node_at s vid n ≡ node_text net o vid a
      go None h = absurd (true≢false (no_number a n e h))
      go (Some row) h =
          let x = by_number a row n e h in
          let tree = found_tree a row n h x in
          ap (λ (y : Option BridgeInView). option_map_or (node_of s (seen_tree v n vid)) y []) x.found
          ∙ (λ i. node_line (x.name i) (tree i) (is_root net o (tree i) (x.name i, x.is_row i)))
          ∙ sym (ap (λ (y : Option BridgeRow). option_map_or (λ (row : BridgeRow). node_line a (tree_of_vid net a vid) (is_root net o (tree_of_vid net a vid) (a, row))) y []) h)

  -- ---- islands
  abbrev has : List ℕ → Option ℕ
  has = fin.get numbers.bridges

  cluster_named : (i : IslandNos) (j : Island (List ℕ) (List ℕ)) → map Some i.bridges ≡ map has j.bridges → (number : ℕ) → cluster_of s vid number i ≡ cluster net o vid number j
  cluster_named i j e number = ap (λ t. cluster_opening number ++ t ++ cluster_closing) (texts_same has (node_at s vid) (node_text net o vid) node_named i.bridges j.bridges e)

  abbrev drawn : List IslandNos → List IslandNos
  drawn islands = filter (λ (i : IslandNos). has_any i.bridges) islands

  abbrev drawn_names : List (Island (List ℕ) (List ℕ)) → List (Island (List ℕ) (List ℕ))
  drawn_names named = filter (λ (j : Island (List ℕ) (List ℕ)). has_any j.bridges) named

  each_named : (islands : List IslandNos) (named : List (Island (List ℕ) (List ℕ)))
      → map (λ (i : IslandNos). map Some i.bridges) islands ≡ map (λ (j : Island (List ℕ) (List ℕ)). map has j.bridges) named → (number : ℕ)
      → numbered (cluster_of s vid) number (drawn islands) ≡ numbered (cluster net o vid) number (drawn_names named)
  each_named [] [] e number = refl
  each_named [] (j ∷ named) e number = cc
  each_named (i ∷ islands) [] e number = cc
  each_named (i ∷ islands) (j ∷ named) e number =
      let bridges : map Some i.bridges ≡ map has j.bridges = cc in
      let others : map (λ (i : IslandNos). map Some i.bridges) islands ≡ map (λ (j : Island (List ℕ) (List ℕ)). map has j.bridges) named = cc in
      ap (λ t. numbered (cluster_of s vid) number (cond t (i ∷ drawn islands) (drawn islands))) (any_same has i.bridges j.bridges bridges)
      ∙ go (has_any j.bridges) (cluster_named i j bridges number) (each_named islands named others)
    where
      go : (t : Bool) → cluster_of s vid number i ≡ cluster net o vid number j → ((number : ℕ) → numbered (cluster_of s vid) number (drawn islands) ≡ numbered (cluster net o vid) number (drawn_names named))
          → numbered (cluster_of s vid) number (cond t (i ∷ drawn islands) (drawn islands)) ≡ numbered (cluster net o vid) number (cond t (j ∷ drawn_names named) (drawn_names named))
      go true own rest = let others = rest (suc number) in λ k. own k ++ others k
      go false own rest = rest number

  pub clusters_named : (islands : List IslandNos) (named : List (Island (List ℕ) (List ℕ)))
      → map (λ (i : IslandNos). map Some i.bridges) islands ≡ map (λ (j : Island (List ℕ) (List ℕ)). map has j.bridges) named → clusters_of s vid islands ≡ clusters net o vid named
  clusters_named islands named e = each_named islands named e 1
