-- What is seen of a summary, under names.
use Rattle.std.proofs.Common.{◌≡◌, ℕ, ◌==◌, ◌&&◌, ◌||◌, Bool, true, false, true≢false, List, [], ◌∷◌, ◌++◌, map, length, Some, refl, sym, ap, ◌∙◌, eq-eqb, arith}
use Rattle.std.specs.List.{filter, filter_map, flat_map, list_any, count_by}
use Rattle.std.specs.Option.{option_map_or, unwrap_or}
use Rattle.std.specs.FinMap as fin
use Rattle.std.specs.Cmp.Lexicographic.{bytes_decides}
use Rattle.std.proofs.lemmas.Bool.{eqb-true}
use Rattle.std.proofs.lemmas.List.{length-map}
use Rattle.std.proofs.lemmas.List.Folds.{flat_map-map}
use Rattle.mst_ids.specs.Identifiers.{bridge_id}
use Rattle.mst_ids.specs.Vids.{has}
use Rattle.mst_tables.specs.ByTree.{by_tree, vlans_in}
use Rattle.mst_tables.specs.Seen.{bridge_row}
use Rattle.mst_tables.specs.Tables.{Net, BridgeRow, IsNetwork}
use Rattle.mst_view.specs.Aggregation.{same_name}
use Rattle.mst_view.specs.View.{LogicalLan, LogicalPort, bridge_names}
use Rattle.mst_view.specs.Viewed.{named_bridge, named_lan, named_port}
use Rattle.mst_view.specs.declared.in_view.BridgeInView.{BridgeInView}
use Rattle.mst_view.specs.declared.in_view.LanInView.{LanInView}
use Rattle.mst_view.specs.declared.in_view.PortInView.{PortInView}
use Rattle.mst_vlan.specs.forest.config.Shared.{AreRegions}
use Rattle.mst_vlan.specs.forest.config.Regions.{region_of}
use Rattle.mst_vlan.proofs.forest_lemmas.config_lemmas.SameRegion.{has_first, HasFirst}
use Rattle.mst_vlan.specs.forest.InUse.{id_in, seen_has}
use Rattle.mst_vlan.specs.forest.Outcome.{Outcome}
use Rattle.mst_vlan.specs.forest.Settled.{SettledNet, outcome_of, IsSettledNet}
use Rattle.mst_vlan.proofs.forest_lemmas.Entries.{all_weaker}
use Rattle.mst_vlan.proofs.forest_lemmas.Lists.{all_passing, filter_mapped, mapped_twice, some_is}
use Rattle.mst_vlan.proofs.forest_lemmas.Looking.{filter_alike, has_tree_at}
use Rattle.mst_vlan.proofs.forest_lemmas.Seen.{SeenBridge, SeenPort, bridges_seen, ports_seen}
use Rattle.mst_vlan.proofs.forest_lemmas.SettledNet.{forest_of}
use Rattle.mst_vlan.specs.forest.Msti.{has_tree}
use Rattle.mst_vlan.proofs.roles_lemmas.Forwarded.{each_forwards}
use Rattle.mst_vlan.specs.Reach.{is_member, lans_up}
use Rattle.mst_vlan.specs.Seen.{seen_member}
use Rattle.mst_vlan.specs.forest.AllTrees.{all_trees}
use Rattle.mst_vlan.proofs.forest_lemmas.Pieces.{filter_map-map}
use Rattle.mst_facts.proofs.Named.{names_are}
use Rattle.mst_summary.specs.Blocked.{is_blocked, blocked, blocked_row}
use Rattle.mst_summary.specs.Carries.{are_of_two, carriers, carries, goes_over, joins, joining_lans, ports_on}
use Rattle.mst_summary.specs.Counts.{is_first, is_used, used_trees, counts_of}
use Rattle.mst_summary.specs.Roots.{follower, followers, rows_of_root, root_rows}
use Rattle.mst_slips.specs.Seen.{seen_first}
use Rattle.mst_summary.specs.Seen.{seen_used, seen_trees, seen_counts, seen_root, blocked_of, seen_tree_rows, seen_on, seen_carries, seen_over, seen_joins, seen_lans_up, seen_joining_lans}
use Rattle.mst_summary.specs.SummaryText.{all_trees_rows}
use Rattle.mst_summary.proofs.Lists.{count_mapped, count_alike, any_mapped, any_alike}

same_mac : (m n : ℕ) → bridge_id 0 0 m ≡ bridge_id 0 0 n → m ≡ n
same_mac m n e = omega arith

-- a bridge is the first of its region just where the region's identifier has its MAC
first_told : (net : Net) → IsNetwork net → (a : List ℕ) (x : BridgeRow) → fin.get net.bridges a ≡ Some x → (region_of net a == bridge_id 0 0 x.mac) ≡ is_first net a
first_told net ok a x row =
    let f = has_first net a x row in
    ap (λ n. n == bridge_id 0 0 x.mac) f.identifier ∙ go f (same_name f.first a) refl ∙ ap (λ o. same_name (unwrap_or o a) a) (sym f.is_first)
  where
    same_row : (f : HasFirst net a) → f.first ≡ a → bridge_id 0 0 f.row.mac ≡ bridge_id 0 0 x.mac
    same_row f e = ap (λ (r : BridgeRow). bridge_id 0 0 r.mac) (some_is f.row x (sym f.has_row ∙ ap (fin.get net.bridges) e ∙ row))

    go : (f : HasFirst net a) (t : Bool) → same_name f.first a ≡ t → (bridge_id 0 0 f.row.mac == bridge_id 0 0 x.mac) ≡ t
    go f true e = eq-eqb (bridge_id 0 0 f.row.mac) (bridge_id 0 0 x.mac) (same_row f ((bytes_decides f.first a).0 e))
    go f false e = by (bridge_id 0 0 f.row.mac == bridge_id 0 0 x.mac) refl
      where
        by : (u : Bool) → (bridge_id 0 0 f.row.mac == bridge_id 0 0 x.mac) ≡ u → u ≡ false
        by false k = refl
        by true k =
            let macs = same_mac f.row.mac x.mac (eqb-true (bridge_id 0 0 f.row.mac) (bridge_id 0 0 x.mac) k) in
            absurd (true≢false (sym ((bytes_decides f.first a).1 (ok.bridges.macs_differ f.first a f.row x f.has_row row macs)) ∙ e))

module _ (s : SettledNet) (is : IsSettledNet s) where
  open s use {net, numbers, view as v, forest as f}
  open is use {of}

  abbrev o : Outcome
  o = outcome_of s

  -- ---- trees
  used_named : (tree : ℕ) → seen_used v tree ≡ is_used net tree
  used_named tree =
      any_alike (λ (b : BridgeInView). seen_has v tree b.bridge.number) (λ b. has_tree net tree b.name) v.bridges
      (all_weaker (SeenBridge net numbers) _ (λ b seen. ap (λ t. tree == 0 || t) (has_tree_at net numbers v f.regions of tree b.name b.bridge.number seen.has_number)) v.bridges (bridges_seen net numbers v of.view))
      ∙ sym (any_mapped (has_tree net tree) (λ (b : BridgeInView). b.name) v.bridges)
      ∙ ap (list_any (has_tree net tree)) (names_are net numbers v f of)

  pub trees_named : seen_trees v ≡ used_trees net
  trees_named = λ i. filter (λ tree. used_named tree i) all_trees

  -- ---- counts
  module _ (classes : List (ℕ × ℕ)) (regions : AreRegions net numbers classes) where
    first_named : (b : BridgeInView) → SeenBridge net numbers b → seen_first classes b ≡ is_first net b.name
    first_named b seen =
        ap (λ o. option_map_or (λ region. region == bridge_id 0 0 b.bridge.mac) o false) (regions.identifiers b.name b.bridge.number seen.has_number)
        ∙ first_told net of.network b.name (bridge_row b.bridge) seen.has_row

    firsts_named : count_by (seen_first classes) v.bridges ≡ count_by (is_first net) (bridge_names net)
    firsts_named =
        count_alike (seen_first classes) (λ (b : BridgeInView). is_first net b.name) v.bridges (all_weaker (SeenBridge net numbers) _ first_named v.bridges (bridges_seen net numbers v of.view))
        ∙ sym (count_mapped (is_first net) (λ (b : BridgeInView). b.name) v.bridges)
        ∙ ap (count_by (is_first net)) (names_are net numbers v f of)

    pub counts_named : seen_counts v classes (seen_trees v) ≡ counts_of net
    counts_named = λ i. record {
      bridges = (sym (length-map v.bridges named_bridge) ∙ ap length of.view.bridges) i;
      on = (sym (count_mapped (λ (e : List ℕ × BridgeRow). e.1.is_on) named_bridge v.bridges) ∙ ap (count_by (λ (e : List ℕ × BridgeRow). e.1.is_on)) of.view.bridges) i;
      ports = (sym (length-map v.ports named_port) ∙ ap length of.view.ports) i;
      enabled = (sym (count_mapped (λ (p : LogicalPort). p.is_enabled) named_port v.ports) ∙ ap (count_by (λ (p : LogicalPort). p.is_enabled)) of.view.ports) i;
      regions = firsts_named i;
      trees = length (trees_named i);
    }

  module _ (tree : ℕ) where
    -- ---- roots
    pub followers_named : filter_map (λ b. follower net o tree (named_bridge b)) v.bridges ≡ followers net o tree
    followers_named = sym (filter_map-map (follower net o tree) named_bridge v.bridges) ∙ ap (filter_map (follower net o tree)) of.view.bridges

    roots_named : flat_map (seen_root s tree (followers net o tree)) v.bridges ≡ root_rows net o tree
    roots_named =
        sym (flat_map-map (λ (e : List ℕ × BridgeRow). rows_of_root (by_tree net) tree (followers net o tree) e.0 (id_in (by_tree net) tree e.0 e.1)) named_bridge v.bridges)
        ∙ ap (flat_map (λ (e : List ℕ × BridgeRow). rows_of_root (by_tree net) tree (followers net o tree) e.0 (id_in (by_tree net) tree e.0 e.1))) of.view.bridges

    -- ---- ports that block
    blocked_named : blocked_of s tree ≡ blocked net o tree
    blocked_named =
        sym (mapped_twice (λ (p : LogicalPort). p.name) named_port (filter (λ (p : PortInView). is_blocked net o tree (named_port p)) v.ports))
        ∙ ap (map (λ (p : LogicalPort). p.name)) (sym (filter_mapped (is_blocked net o tree) named_port v.ports) ∙ ap (filter (is_blocked net o tree)) of.view.ports)

  pub tree_rows_named : flat_map (seen_tree_rows s) (seen_trees v) ≡ all_trees_rows net o
  tree_rows_named = λ i. flat_map (λ tree. roots_named tree i ++ blocked_row tree (blocked_named tree i) ∷ []) (trees_named i)

  -- ---- what ports carry
  pub carries_named : (vid : ℕ) (p : PortInView) → SeenPort net numbers p → seen_carries v f vid p ≡ carries net o vid (named_port p)
  carries_named vid p seen = λ i. each_forwards net numbers v f of (forest_of s is) vid p seen i && member vid p i
    where
      member : (vid : ℕ) (p : PortInView) → seen_member v vid p ≡ is_member net vid (named_port p)
      member vid p = λ i. has (vlans_in (of.view.settings i).vlans p.name) vid

  ports_named : (lan : List ℕ) → map named_port (seen_on v lan) ≡ ports_on net lan
  ports_named lan = sym (filter_mapped (λ (p : LogicalPort). same_name p.lan lan) named_port v.ports) ∙ ap (filter (λ (p : LogicalPort). same_name p.lan lan)) of.view.ports

  carriers_named : (lan : List ℕ) (vid : ℕ) → map named_port (filter (seen_carries v f vid) (seen_on v lan)) ≡ carriers net o lan vid
  carriers_named lan vid =
      ap (map named_port)
      (filter_alike (seen_carries v f vid) (λ (p : PortInView). carries net o vid (named_port p)) (seen_on v lan)
      (all_passing (SeenPort net numbers) _ (λ (p : PortInView). same_name p.lan lan) (λ p seen _. carries_named vid p seen) v.ports (ports_seen net numbers v of.view)))
      ∙ sym (filter_mapped (carries net o vid) named_port (seen_on v lan))
      ∙ ap (filter (carries net o vid)) (ports_named lan)

  pub over_named : (lan : List ℕ) (vid : ℕ) → seen_over v f (seen_on v lan) vid ≡ goes_over net o lan vid
  over_named lan vid = ap are_of_two (carriers_named lan vid)

  -- ---- the logical LANs that are up and join bridges
  joins_named : (lan : List ℕ) → seen_joins (seen_on v lan) ≡ joins net lan
  joins_named lan =
      ap are_of_two (sym (filter_mapped (λ (p : LogicalPort). p.is_enabled) named_port (seen_on v lan)) ∙ ap (filter (λ (p : LogicalPort). p.is_enabled)) (ports_named lan))

  up_named : seen_lans_up v ≡ lans_up net
  up_named =
      sym (mapped_twice (λ (l : LogicalLan). l.name) named_lan (filter (λ (l : LanInView). l.is_up) v.lans))
      ∙ ap (map (λ (l : LogicalLan). l.name)) (sym (filter_mapped (λ (l : LogicalLan). l.is_up) named_lan v.lans) ∙ ap (filter (λ (l : LogicalLan). l.is_up)) of.view.lans)

  pub joining_named : seen_joining_lans v ≡ joining_lans net
  joining_named = λ i. filter (λ lan. joins_named lan i) (up_named i)
