-- What changes of the kept tables make of the network.
use Rattle.std.proofs.Common.{◌≡◌, ◌+◌, ◌-◌, ℕ, ◌<◌, ◌≤◌, ◌^◌, Bool, true, false, cond, ◌||◌, List, Option, Some, None, is_some, nat_eq, IsSome, refl, sym, ap, subst, ◌∙◌, arith, true≢false}
use Rattle.std.specs.Option.{option_map_or}
use Rattle.std.specs.List.{list_any}
use Rattle.std.specs.FinMap as fin
use Rattle.std.specs.FinMap.{FinMap}
use Rattle.std.specs.HashSet as set
use Rattle.std.specs.Cmp.{unsigned_Decides, both_ways}
use Rattle.std.specs.Map.{lookup}
use Rattle.mst_ids.specs.Names.{name_cmp}
use Rattle.mst_ids.specs.declared.name.PortName.{PortName}
use Rattle.mst_lang.specs.declared.line.Edit.{Edit}
use Rattle.mst_lang.specs.declared.line.Edit.TheVariants.{AddBridge, DelBridge, SetBridge, AddPort, DelPort, SetPort, AddLan, DelLan, SetLan, Plug, Unplug, SetByTree}
use Rattle.mst_lang.specs.declared.line.BridgeChange.{BridgeChange}
use Rattle.mst_lang.specs.declared.line.PortChange.{PortChange}
use Rattle.mst_lang.specs.declared.line.LanChange.{LanChange}
use Rattle.mst_lang.specs.declared.line.TreeChange.{TreeChange}
use Rattle.mst_tables.specs.Tables.{Net, IsNetwork, BridgeRow, PortRow, LanRow, port_eq}
use Rattle.mst_tables.specs.After.{has_bridge, has_port, has_lan, mac_taken, is_of_bridge, is_in_lan, effect, new_bridge, new_port, new_lan, bridge_with, port_with, lan_with, in_lan, change}
use Rattle.mst_tables.specs.Contents.{CanCommit, Makes}
use Rattle.mst_tables.specs.Counting.{count_where}
use Rattle.mst_records.specs.Rows.{IsNumberedBy}
use Rattle.mst_tables.specs.ByTree.{with_by_tree}
use Rattle.mst_tables.specs.SettingsAfter.{set_after}
use Rattle.mst_records.specs.Tally.{count_in}
use Rattle.mst_net.specs.NetworkKept.{contents_of, IsSound}
use Rattle.mst_net.specs.declared.network.Network.TheInside.{Inside}
use Rattle.mst_tables.proofs.Somes.{some_is}
use Rattle.mst_tables.proofs.Keyed.{same_keys, flipped, contains_keyed, set_keyed, removed_keyed, any_added, any_set, any_value}
use Rattle.mst_tables.proofs.Keys.{name_eq, names, ports}
use Rattle.mst_tables.proofs.Changed.{itself, changed_is, any_changed, left_of, other_left, value_found}
use Rattle.mst_tables.proofs.Counting.{count_added, count_removed, count_set, count_le}
use Rattle.mst_tables.proofs.AfterLemmas.{effect_is_network, bridge_kept, bridge_there, port_there, lan_there, bridge_addable, bridge_deletable, port_addable, port_deletable, port_pluggable, lan_addable, lan_deletable}

pub absent : {X : Type 0} (o : Option X) → is_some o ≡ false → o ≡ None
absent None e = refl
absent (Some x) e = absurd (true≢false e)

pub value_of : {X : Type 0} (o : Option X) → IsSome o → (x : X) × (o ≡ Some x)
value_of None h = absurd (true≢false (sym h))
value_of (Some x) h = (x, refl)

-- ---- what is kept beside the records
abbrev pub HasMacs : Inside → Type 0
HasMacs x = (mac : ℕ) → set.contains nat_eq x.macs mac ≡ mac_taken mac (contents_of x).net

abbrev pub CountsPorts : Inside → Type 0
CountsPorts x = (bridge : List ℕ) → count_in name_eq x.port_counts bridge ≡ count_where (is_of_bridge bridge) (contents_of x).net.ports

abbrev pub CountsPlugs : Inside → Type 0
CountsPlugs x = (lan : List ℕ) → count_in name_eq x.plug_counts lan ≡ count_where (is_in_lan lan) (contents_of x).net.ports

-- the records keep numbers of their own
pub record AreNumbered (x : Inside) : Type 0 where
  pub bridges : IsNumberedBy name_eq x.bridges
  pub ports : IsNumberedBy port_eq x.ports
  pub lans : IsNumberedBy name_eq x.lans

abbrev pub numbered : (x : Inside) → IsSound x → AreNumbered x
numbered x s = record { bridges = s.bridges; ports = s.ports; lans = s.lans }

-- a network that an edit made
module _ (a b : Inside) (s : IsSound a) (network : IsNetwork (contents_of b).net) where
  pub sound_by : AreNumbered b → HasMacs b → CountsPorts b → CountsPlugs b → IsSound b
  sound_by rows macs of_bridges of_lans = record {
    network = network;
    bridges = rows.bridges;
    ports = rows.ports;
    lans = rows.lans;
    macs = macs;
    port_counts = of_bridges;
    plug_counts = of_lans;
  }

  -- where the bridges and their MACs alone were written
  pub sound_with_bridges : record b { bridges = a.bridges; macs = a.macs; settings = a.settings } ≡ a → IsNumberedBy name_eq b.bridges → HasMacs b → IsSound b
  sound_with_bridges others rows macs = sound_by
      (record { bridges = rows; ports = subst (λ (x : Inside). IsNumberedBy port_eq x.ports) (sym others) s.ports; lans = subst (λ (x : Inside). IsNumberedBy name_eq x.lans) (sym others) s.lans })
      macs (subst CountsPorts (sym others) s.port_counts) (subst CountsPlugs (sym others) s.plug_counts)

  -- the LANs alone
  pub sound_with_lans : record b { lans = a.lans } ≡ a → IsNumberedBy name_eq b.lans → IsSound b
  sound_with_lans others rows = sound_by
      (record { bridges = subst (λ (x : Inside). IsNumberedBy name_eq x.bridges) (sym others) s.bridges; ports = subst (λ (x : Inside). IsNumberedBy port_eq x.ports) (sym others) s.ports; lans = rows })
      (subst HasMacs (sym others) s.macs) (subst CountsPorts (sym others) s.port_counts) (subst CountsPlugs (sym others) s.plug_counts)

  -- the ports and their counts alone
  pub sound_with_ports : record b { ports = a.ports; port_counts = a.port_counts; plug_counts = a.plug_counts; settings = a.settings } ≡ a → IsNumberedBy port_eq b.ports
      → CountsPorts b → CountsPlugs b → IsSound b
  sound_with_ports others rows of_bridges of_lans = sound_by
      (record { bridges = subst (λ (x : Inside). IsNumberedBy name_eq x.bridges) (sym others) s.bridges; ports = rows; lans = subst (λ (x : Inside). IsNumberedBy name_eq x.lans) (sym others) s.lans })
      (subst HasMacs (sym others) s.macs) of_bridges of_lans

  -- settings by tree or VID alone
  pub sound_with_settings : record b { settings = a.settings } ≡ a → IsSound b
  sound_with_settings others = sound_by
      (record {
        bridges = subst (λ (x : Inside). IsNumberedBy name_eq x.bridges) (sym others) s.bridges;
        ports = subst (λ (x : Inside). IsNumberedBy port_eq x.ports) (sym others) s.ports;
        lans = subst (λ (x : Inside). IsNumberedBy name_eq x.lans) (sym others) s.lans;
      })
      (subst HasMacs (sym others) s.macs) (subst CountsPorts (sym others) s.port_counts) (subst CountsPlugs (sym others) s.plug_counts)

-- an edit that can be made makes a network
pub made_network : (a b : Inside) → IsSound a → (edit : Edit) → CanCommit edit (contents_of a) → (contents_of b).net ≡ effect edit (contents_of a).net → IsNetwork (contents_of b).net
made_network a b s edit can net = subst IsNetwork (sym net) (effect_is_network (contents_of a).net s.network edit can.in_range can.accepted)

-- ---- the MACs
module _ (a : Inside) (s : IsSound a) where
  abbrev was : Net
  was = (contents_of a).net

  pub mac_added : (bridge : List ℕ) (mac : ℕ) → fin.contains_key was.bridges bridge ≡ false → (q : ℕ)
      → cond (nat_eq mac q) true (set.contains nat_eq a.macs q) ≡ mac_taken q (record was { bridges = fin.insert was.bridges bridge (new_bridge mac) })
  mac_added bridge mac none q =
      ap (cond (nat_eq mac q) true) (s.macs q) ∙ by (nat_eq mac q) (mac_taken q was) ∙ sym (any_added names (λ b. nat_eq b.mac q) was.bridges bridge (new_bridge mac) none)
    where
      by : (a b : Bool) → cond a true b ≡ (a || b)
      by true b = refl
      by false b = refl

  pub mac_kept : (bridge : List ℕ) (f : BridgeRow → BridgeRow) → ((row : BridgeRow) → (f row).mac ≡ row.mac) → (q : ℕ) → set.contains nat_eq a.macs q ≡ mac_taken q (record was { bridges = change was.bridges bridge f })
  mac_kept bridge f same q = s.macs q ∙ sym (any_changed names (λ b. nat_eq b.mac q) was.bridges bridge f (λ row. ap (λ n. nat_eq n q) (same row)))

  -- no other bridge has the MAC of one that is taken away
  pub mac_removed : (bridge : List ℕ) (row : BridgeRow) → fin.get was.bridges bridge ≡ Some row → (q : ℕ)
      → cond (nat_eq row.mac q) false (set.contains nat_eq a.macs q) ≡ mac_taken q (record was { bridges = fin.remove was.bridges bridge })
  mac_removed bridge row there q = by (nat_eq row.mac q) refl
    where
      left : FinMap name_cmp BridgeRow
      left = fin.remove was.bridges bridge

      none : nat_eq row.mac q ≡ true → list_any (λ b. nat_eq b.mac q) (fin.values left) ≡ true → ⊥
      none same some =
          let x = value_found names (λ b. nat_eq b.mac q) left some in
          let kept = left_of names was.bridges bridge x.0 x.1 x.2 in
          let macs : x.1.mac ≡ row.mac = (unsigned_Decides x.1.mac q).0 x.3 ∙ sym ((unsigned_Decides row.mac q).0 same) in
          true≢false (sym (itself names bridge) ∙ ap (name_eq bridge) (sym (s.network.bridges.macs_differ x.0 bridge x.1 row kept.1 there macs)) ∙ kept.0)

      is_false : (t : Bool) → (t ≡ true → ⊥) → false ≡ t
      is_false true h = absurd (h refl)
      is_false false h = refl

      still : nat_eq row.mac q ≡ false → mac_taken q was ≡ list_any (λ b. nat_eq b.mac q) (fin.values left)
      still other = both_ways _ _
          (λ some.
          let x = value_found names (λ b. nat_eq b.mac q) was.bridges some in
          any_value names (λ b. nat_eq b.mac q) left x.0 x.1 (other_left names was.bridges bridge x.0 (apart x.0 x.1 x.2 x.3 (name_eq bridge x.0) refl) ∙ x.2) x.3)
          (λ some. let x = value_found names (λ b. nat_eq b.mac q) left some in any_value names (λ b. nat_eq b.mac q) was.bridges x.0 x.1 (left_of names was.bridges bridge x.0 x.1 x.2).1 x.3)
        where
          apart : (k : List ℕ) (x : BridgeRow) → fin.get was.bridges k ≡ Some x → nat_eq x.mac q ≡ true → (t : Bool) → name_eq bridge k ≡ t → name_eq bridge k ≡ false
          apart k x at passes true e =
              let same : row ≡ x = some_is row x (sym there ∙ ap (fin.get was.bridges) (same_keys names bridge k e) ∙ at) in
              absurd (true≢false (sym passes ∙ ap (λ (r : BridgeRow). nat_eq r.mac q) (sym same) ∙ other))
          apart k x at passes false e = e

      by : (t : Bool) → nat_eq row.mac q ≡ t → cond t false (set.contains nat_eq a.macs q) ≡ list_any (λ b. nat_eq b.mac q) (fin.values left)
      by true e = is_false _ (none e)
      by false e = s.macs q ∙ still e

  -- ---- the counts
  pub few_ports : (test : PortName → PortRow → Bool) → count_where test was.ports < 2 ^ 32
  few_ports test = omega (arith, count_le ports test was.ports, s.network.ports.few)

  pub few_of_bridge : (bridge : List ℕ) → count_in name_eq a.port_counts bridge < 2 ^ 32
  few_of_bridge bridge = subst (λ n. n < 2 ^ 32) (sym (s.port_counts bridge)) (few_ports (is_of_bridge bridge))

  pub few_in_lan : (lan : List ℕ) → count_in name_eq a.plug_counts lan < 2 ^ 32
  few_in_lan lan = subst (λ n. n < 2 ^ 32) (sym (s.plug_counts lan)) (few_ports (is_in_lan lan))

  turned : (x y : List ℕ) → name_eq x y ≡ name_eq y x
  turned x y = names.ties x y ∙ flipped names x y

  one_if : (t : Bool) (n m : ℕ) → m ≡ n + cond t 1 0 → cond t (n + 1) n ≡ m
  one_if true n m e = sym e
  one_if false n m e = omega arith

  less_if : (t : Bool) (n m : ℕ) → m + cond t 1 0 ≡ n → cond t (n - 1) n ≡ m
  less_if true n m e = omega arith
  less_if false n m e = omega arith

  not_in : (o : Option (List ℕ)) (lan : List ℕ) → is_some o ≡ false → option_map_or (name_eq lan) o false ≡ false
  not_in None lan h = refl
  not_in (Some l) lan h = absurd (true≢false h)

  no_more : (b : Bool) (n m : ℕ) → b ≡ false → m + cond b 1 0 ≡ n → m ≡ n
  no_more true n m h e = absurd (true≢false h)
  no_more false n m h e = omega arith

  -- a new port is one more of its bridge, and in no LAN
  pub port_counted : (port : PortName) → fin.contains_key was.ports port ≡ false → (q : List ℕ)
      → cond (name_eq port.bridge q) (count_in name_eq a.port_counts q + 1) (count_in name_eq a.port_counts q) ≡ count_where (is_of_bridge q) (fin.insert was.ports port new_port)
  port_counted port none q =
      one_if (name_eq port.bridge q) (count_in name_eq a.port_counts q) _
      (count_added ports (is_of_bridge q) was.ports port new_port none ∙ ap (λ b. count_where (is_of_bridge q) was.ports + cond b 1 0) (turned q port.bridge) ∙ ap (λ n. n + cond (name_eq port.bridge q) 1 0) (sym (s.port_counts q)))

  pub new_port_in_none : (port : PortName) → fin.contains_key was.ports port ≡ false → (q : List ℕ) → count_in name_eq a.plug_counts q ≡ count_where (is_in_lan q) (fin.insert was.ports port new_port)
  new_port_in_none port none q = s.plug_counts q ∙ sym (count_added ports (is_in_lan q) was.ports port new_port none ∙ zero_more (count_where (is_in_lan q) was.ports))
    where
      zero_more : (n : ℕ) → n + 0 ≡ n
      zero_more n = omega arith

  -- a port that is taken away is one less
  pub port_uncounted : (port : PortName) (row : PortRow) → fin.get was.ports port ≡ Some row → (q : List ℕ)
      → cond (name_eq port.bridge q) (count_in name_eq a.port_counts q - 1) (count_in name_eq a.port_counts q) ≡ count_where (is_of_bridge q) (fin.remove was.ports port)
  port_uncounted port row there q =
      less_if (name_eq port.bridge q) (count_in name_eq a.port_counts q) _
      (ap (λ b. count_where (is_of_bridge q) (fin.remove was.ports port) + cond b 1 0) (turned port.bridge q) ∙ count_removed ports (is_of_bridge q) was.ports port row there ∙ sym (s.port_counts q))

  pub one_of_bridge : (port : PortName) (row : PortRow) → fin.get was.ports port ≡ Some row → 1 ≤ count_in name_eq a.port_counts port.bridge
  one_of_bridge port row there =
      at_least (name_eq port.bridge port.bridge) (count_where (is_of_bridge port.bridge) (fin.remove was.ports port)) (count_in name_eq a.port_counts port.bridge) (itself names port.bridge)
      (count_removed ports (is_of_bridge port.bridge) was.ports port row there ∙ sym (s.port_counts port.bridge))
    where
      at_least : (t : Bool) (m n : ℕ) → t ≡ true → m + cond t 1 0 ≡ n → 1 ≤ n
      at_least true m n h e = omega arith
      at_least false m n h e = absurd (true≢false (sym h))

  pub removed_in_none : (port : PortName) (row : PortRow) → fin.get was.ports port ≡ Some row → is_some row.lan ≡ false → (q : List ℕ) → count_in name_eq a.plug_counts q ≡ count_where (is_in_lan q) (fin.remove was.ports port)
  removed_in_none port row there free q =
      s.plug_counts q ∙ sym (no_more (is_in_lan q port row) _ _ (not_in row.lan q free) (count_removed ports (is_in_lan q) was.ports port row there))

  -- other settings of a port leave both counts
  pub of_bridge_kept : (port : PortName) (new old : PortRow) → fin.get was.ports port ≡ Some old → (q : List ℕ) → count_in name_eq a.port_counts q ≡ count_where (is_of_bridge q) (fin.insert was.ports port new)
  of_bridge_kept port new old there q =
      s.port_counts q ∙ sym (same_more (cond (name_eq q port.bridge) 1 0) _ _ (count_set ports (is_of_bridge q) was.ports port new old there))
    where
      same_more : (k m n : ℕ) → m + k ≡ n + k → m ≡ n
      same_more k m n e = omega arith

  pub in_lan_kept : (port : PortName) (new old : PortRow) → fin.get was.ports port ≡ Some old → new.lan ≡ old.lan → (q : List ℕ) → count_in name_eq a.plug_counts q ≡ count_where (is_in_lan q) (fin.insert was.ports port new)
  in_lan_kept port new old there same q =
      s.plug_counts q ∙ sym (same_more (cond (is_in_lan q port old) 1 0) _ _ (count_set ports (is_in_lan q) was.ports port new old there ∙ ap (λ l. count_where (is_in_lan q) was.ports + cond (option_map_or (name_eq q) l false) 1 0) same))
    where
      same_more : (k m n : ℕ) → m + k ≡ n + k → m ≡ n
      same_more k m n e = omega arith

  -- a port that is plugged is one more in its LAN, and one that is unplugged is one less
  pub plug_counted : (port : PortName) (lan : List ℕ) (row : PortRow) → fin.get was.ports port ≡ Some row → is_some row.lan ≡ false → (q : List ℕ)
      → cond (name_eq lan q) (count_in name_eq a.plug_counts q + 1) (count_in name_eq a.plug_counts q) ≡ count_where (is_in_lan q) (fin.insert was.ports port (in_lan (Some lan) row))
  plug_counted port lan row there free q =
      let new : ℕ = count_where (is_in_lan q) (fin.insert was.ports port (in_lan (Some lan) row)) in
      let counted : new + cond (is_in_lan q port row) 1 0 ≡ count_in name_eq a.plug_counts q + cond (name_eq lan q) 1 0 =
      count_set ports (is_in_lan q) was.ports port (in_lan (Some lan) row) row there
      ∙ ap (λ b. count_where (is_in_lan q) was.ports + cond b 1 0) (turned q lan) ∙ ap (λ n. n + cond (name_eq lan q) 1 0) (sym (s.plug_counts q)) in
      one_if (name_eq lan q) (count_in name_eq a.plug_counts q) new (no_more (is_in_lan q port row) _ new (not_in row.lan q free) counted)

  pub plug_uncounted : (port : PortName) (lan : List ℕ) (row : PortRow) → fin.get was.ports port ≡ Some row → row.lan ≡ Some lan → (q : List ℕ)
      → cond (name_eq lan q) (count_in name_eq a.plug_counts q - 1) (count_in name_eq a.plug_counts q) ≡ count_where (is_in_lan q) (fin.insert was.ports port (in_lan None row))
  plug_uncounted port lan row there plugged q =
      less_if (name_eq lan q) (count_in name_eq a.plug_counts q) _
      (ap (λ b. count_where (is_in_lan q) (fin.insert was.ports port (in_lan None row)) + cond b 1 0) (turned lan q ∙ ap (λ l. option_map_or (name_eq q) l false) (sym plugged))
      ∙ count_set ports (is_in_lan q) was.ports port (in_lan None row) row there ∙ zero_more (count_where (is_in_lan q) was.ports) ∙ sym (s.plug_counts q))
    where
      zero_more : (n : ℕ) → n + 0 ≡ n
      zero_more n = omega arith

  pub one_in_lan : (port : PortName) (lan : List ℕ) (row : PortRow) → fin.get was.ports port ≡ Some row → row.lan ≡ Some lan → 1 ≤ count_in name_eq a.plug_counts lan
  one_in_lan port lan row there plugged =
      at_least (is_in_lan lan port row) (count_where (is_in_lan lan) (fin.remove was.ports port)) (count_in name_eq a.plug_counts lan) (ap (λ l. option_map_or (name_eq lan) l false) plugged ∙ itself names lan)
      (count_removed ports (is_in_lan lan) was.ports port row there ∙ sym (s.plug_counts lan))
    where
      at_least : (t : Bool) (m n : ℕ) → t ≡ true → m + cond t 1 0 ≡ n → 1 ≤ n
      at_least true m n h e = omega arith
      at_least false m n h e = absurd (true≢false (sym h))

-- ---- written records
module _ (a b : Inside) where
  abbrev old_net : Net
  old_net = (contents_of a).net

  module _ (others : record b { bridges = a.bridges } ≡ a) (bridge : List ℕ) (row : BridgeRow) (rows : (q : List ℕ) → lookup (name_eq q) b.bridges.rows ≡ cond (name_eq bridge q) (Some row) (lookup (name_eq q) a.bridges.rows)) where
    pub net_with_bridges : (contents_of b).net ≡ record old_net { bridges = fin.insert old_net.bridges bridge row }
    net_with_bridges i = record (contents_of (others i)).net { bridges = set_keyed names a.bridges.rows b.bridges.rows bridge row rows i }

  module _ (others : record b { lans = a.lans } ≡ a) (lan : List ℕ) (row : LanRow) (rows : (q : List ℕ) → lookup (name_eq q) b.lans.rows ≡ cond (name_eq lan q) (Some row) (lookup (name_eq q) a.lans.rows)) where
    pub net_with_lans : (contents_of b).net ≡ record old_net { lans = fin.insert old_net.lans lan row }
    net_with_lans i = record (contents_of (others i)).net { lans = set_keyed names a.lans.rows b.lans.rows lan row rows i }

  module _ (others : record b { ports = a.ports } ≡ a) (port : PortName) (row : PortRow) (rows : (q : PortName) → lookup (port_eq q) b.ports.rows ≡ cond (port_eq port q) (Some row) (lookup (port_eq q) a.ports.rows)) where
    pub net_with_ports : (contents_of b).net ≡ record old_net { ports = fin.insert old_net.ports port row }
    net_with_ports i = record (contents_of (others i)).net { ports = set_keyed ports a.ports.rows b.ports.rows port row rows i }

  -- a change of a bridge
  module _ (bridge : List ℕ) (change : BridgeChange) (can : CanCommit (SetBridge bridge change) (contents_of a)) where
    pub bridge_to_set : has_bridge bridge old_net ≡ true
    bridge_to_set = (bridge_there old_net bridge None can.accepted).0

    module _ (others : record b { bridges = a.bridges } ≡ a) (old : BridgeRow) (there : fin.get old_net.bridges bridge ≡ Some old)
        (rows : (q : List ℕ) → lookup (name_eq q) b.bridges.rows ≡ cond (name_eq bridge q) (Some (bridge_with change old)) (lookup (name_eq q) a.bridges.rows)) where
      new_bridges : (contents_of b).net ≡ record old_net { bridges = fin.insert old_net.bridges bridge (bridge_with change old) }
      new_bridges = net_with_bridges others bridge (bridge_with change old) rows

      net_with_bridge_set : (contents_of b).net ≡ effect (SetBridge bridge change) old_net
      net_with_bridge_set = new_bridges ∙ ap (λ m. record old_net { bridges = m }) (sym (changed_is names old_net.bridges bridge (bridge_with change) old there))

      pub bridge_set_made : b.bridges.numbers ≡ a.bridges.numbers → Makes (SetBridge bridge change) (contents_of a) (contents_of b)
      bridge_set_made numbers = record { net = net_with_bridge_set; numbers = λ i. record (contents_of (others i)).numbers { bridges = fin.from_entries (numbers i) } }

      pub bridge_set_sound : IsSound a → IsNumberedBy name_eq b.bridges → IsSound b
      bridge_set_sound s numbers =
          sound_with_bridges a b s (made_network a b s (SetBridge bridge change) can net_with_bridge_set) (λ i. record (others i) { bridges = a.bridges; macs = a.macs; settings = a.settings }) numbers
          (λ q. ap (λ (x : Inside). set.contains nat_eq x.macs q) others ∙ s.macs q
          ∙ sym (any_set names (λ b. nat_eq b.mac q) old_net.bridges bridge (bridge_with change old) old there (ap (λ n. nat_eq n q) (bridge_kept change can.in_range.values old).mac)) ∙ ap (λ (n : Net). mac_taken q n) (sym new_bridges))

  -- of a port
  module _ (port : PortName) (change : PortChange) (can : CanCommit (SetPort port change) (contents_of a)) where
    pub port_to_set : has_port port old_net ≡ true
    port_to_set = (port_there old_net port None can.accepted).0

    module _ (others : record b { ports = a.ports } ≡ a) (old : PortRow) (there : fin.get old_net.ports port ≡ Some old)
        (rows : (q : PortName) → lookup (port_eq q) b.ports.rows ≡ cond (port_eq port q) (Some (port_with change old)) (lookup (port_eq q) a.ports.rows)) where
      net_with_port_set : (contents_of b).net ≡ effect (SetPort port change) old_net
      net_with_port_set =
          net_with_ports others port (port_with change old) rows ∙ ap (λ m. record old_net { ports = m }) (sym (changed_is ports old_net.ports port (port_with change) old there))

      pub port_set_made : b.ports.numbers ≡ a.ports.numbers → Makes (SetPort port change) (contents_of a) (contents_of b)
      port_set_made numbers = record { net = net_with_port_set; numbers = λ i. record (contents_of (others i)).numbers { ports = fin.from_entries (numbers i) } }

      pub port_set_sound : IsSound a → IsNumberedBy port_eq b.ports → IsSound b
      port_set_sound s numbers =
          let table : fin.from_entries b.ports.rows ≡ fin.insert old_net.ports port (port_with change old) = set_keyed ports a.ports.rows b.ports.rows port (port_with change old) rows in
          sound_with_ports a b s (made_network a b s (SetPort port change) can net_with_port_set) (λ i. record (others i) { ports = a.ports; port_counts = a.port_counts; plug_counts = a.plug_counts; settings = a.settings }) numbers
          (λ q. ap (λ (x : Inside). count_in name_eq x.port_counts q) others ∙ of_bridge_kept a s port (port_with change old) old there q ∙ ap (count_where (is_of_bridge q)) (sym table))
          (λ q. ap (λ (x : Inside). count_in name_eq x.plug_counts q) others ∙ in_lan_kept a s port (port_with change old) old there refl q ∙ ap (count_where (is_in_lan q)) (sym table))

  -- of a LAN
  module _ (lan : List ℕ) (change : LanChange) (can : CanCommit (SetLan lan change) (contents_of a)) where
    pub lan_to_set : has_lan lan old_net ≡ true
    lan_to_set = (lan_there old_net lan None can.accepted).0

    module _ (others : record b { lans = a.lans } ≡ a) (old : LanRow) (there : fin.get old_net.lans lan ≡ Some old)
        (rows : (q : List ℕ) → lookup (name_eq q) b.lans.rows ≡ cond (name_eq lan q) (Some (lan_with change old)) (lookup (name_eq q) a.lans.rows)) where
      net_with_lan_set : (contents_of b).net ≡ effect (SetLan lan change) old_net
      net_with_lan_set =
          net_with_lans others lan (lan_with change old) rows ∙ ap (λ m. record old_net { lans = m }) (sym (changed_is names old_net.lans lan (lan_with change) old there))

      pub lan_set_made : b.lans.numbers ≡ a.lans.numbers → Makes (SetLan lan change) (contents_of a) (contents_of b)
      lan_set_made numbers = record { net = net_with_lan_set; numbers = λ i. record (contents_of (others i)).numbers { lans = fin.from_entries (numbers i) } }

      pub lan_set_sound : IsSound a → IsNumberedBy name_eq b.lans → IsSound b
      lan_set_sound s numbers = sound_with_lans a b s (made_network a b s (SetLan lan change) can net_with_lan_set) others numbers

-- ---- each edit that writes more than settings
module _ (a b : Inside) where
  abbrev before : Net
  before = (contents_of a).net

  -- a new bridge
  module _ (bridge : List ℕ) (mac : ℕ) (can : CanCommit (AddBridge bridge mac) (contents_of a)) where
    pub absent_bridge : lookup (name_eq bridge) a.bridges.rows ≡ None
    absent_bridge = absent _ (sym (contains_keyed names a.bridges.rows bridge) ∙ (bridge_addable before bridge mac can.accepted).0)

    module _ (others : record b { bridges = a.bridges; macs = a.macs } ≡ a)
        (rows : (q : List ℕ) → lookup (name_eq q) b.bridges.rows ≡ cond (name_eq bridge q) (Some (new_bridge mac)) (lookup (name_eq q) a.bridges.rows)) where
      table_added : fin.from_entries b.bridges.rows ≡ fin.insert before.bridges bridge (new_bridge mac)
      table_added = set_keyed names a.bridges.rows b.bridges.rows bridge (new_bridge mac) rows

      net_added : (contents_of b).net ≡ effect (AddBridge bridge mac) before
      net_added i = record (contents_of (others i)).net { bridges = table_added i }

      pub bridge_made : ((q : List ℕ) → lookup (name_eq q) b.bridges.numbers ≡ cond (name_eq bridge q) (Some a.bridges.next) (lookup (name_eq q) a.bridges.numbers)) → Makes (AddBridge bridge mac) (contents_of a) (contents_of b)
      bridge_made numbers = record {
        net = net_added;
        numbers = λ i. record (contents_of (others i)).numbers { bridges = set_keyed names a.bridges.numbers b.bridges.numbers bridge a.bridges.next numbers i };
      }

      pub bridge_sound : IsSound a → IsNumberedBy name_eq b.bridges → ((q : ℕ) → set.contains nat_eq b.macs q ≡ cond (nat_eq mac q) true (set.contains nat_eq a.macs q)) → IsSound b
      bridge_sound s numbers macs =
          sound_with_bridges a b s (made_network a b s (AddBridge bridge mac) can net_added) (λ i. record (others i) { settings = a.settings }) numbers
          (λ q. macs q ∙ mac_added a s bridge mac (bridge_addable before bridge mac can.accepted).0 q ∙ ap (λ (n : Net). mac_taken q n) (sym net_added))

  -- a bridge that is taken away
  module _ (bridge : List ℕ) (can : CanCommit (DelBridge bridge) (contents_of a)) where
    pub present_bridge : IsSome (lookup (name_eq bridge) a.bridges.rows)
    present_bridge = sym (contains_keyed names a.bridges.rows bridge) ∙ (bridge_deletable before bridge can.accepted).0

    module _ (s : IsSound a) (others : record b { bridges = a.bridges; macs = a.macs; settings = a.settings } ≡ a)
        (rows : (q : List ℕ) → lookup (name_eq q) b.bridges.rows ≡ cond (name_eq bridge q) None (lookup (name_eq q) a.bridges.rows))
        (forgets : b.settings.set ≡ set_after (DelBridge bridge) a.settings.set) where
      net_left : (contents_of b).net ≡ effect (DelBridge bridge) before
      net_left i = record (with_by_tree (contents_of (others i)).net (forgets i)) { bridges = removed_keyed names a.bridges.rows b.bridges.rows bridge rows i }

      pub bridge_unmade : ((q : List ℕ) → lookup (name_eq q) b.bridges.numbers ≡ cond (name_eq bridge q) None (lookup (name_eq q) a.bridges.numbers)) → Makes (DelBridge bridge) (contents_of a) (contents_of b)
      bridge_unmade numbers = record {
        net = net_left;
        numbers = λ i. record (contents_of (others i)).numbers { bridges = removed_keyed names a.bridges.numbers b.bridges.numbers bridge numbers i };
      }

      pub bridge_left_sound : IsNumberedBy name_eq b.bridges → (row : BridgeRow) → fin.get before.bridges bridge ≡ Some row → ((q : ℕ) → set.contains nat_eq b.macs q ≡ cond (nat_eq row.mac q) false (set.contains nat_eq a.macs q)) → IsSound b
      bridge_left_sound numbers row there macs =
          sound_with_bridges a b s (made_network a b s (DelBridge bridge) can net_left) others numbers
          (λ q. macs q ∙ mac_removed a s bridge row there q ∙ ap (λ (n : Net). mac_taken q n) (sym net_left))

  -- a new port
  module _ (port : PortName) (can : CanCommit (AddPort port) (contents_of a)) where
    pub absent_port : lookup (port_eq port) a.ports.rows ≡ None
    absent_port = absent _ (sym (contains_keyed ports a.ports.rows port) ∙ (port_addable before port can.accepted).1)

    module _ (others : record b { ports = a.ports; port_counts = a.port_counts } ≡ a)
        (rows : (q : PortName) → lookup (port_eq q) b.ports.rows ≡ cond (port_eq port q) (Some new_port) (lookup (port_eq q) a.ports.rows)) where
      port_table_added : fin.from_entries b.ports.rows ≡ fin.insert before.ports port new_port
      port_table_added = set_keyed ports a.ports.rows b.ports.rows port new_port rows

      port_net_added : (contents_of b).net ≡ effect (AddPort port) before
      port_net_added i = record (contents_of (others i)).net { ports = port_table_added i }

      pub port_made : ((q : PortName) → lookup (port_eq q) b.ports.numbers ≡ cond (port_eq port q) (Some a.ports.next) (lookup (port_eq q) a.ports.numbers)) → Makes (AddPort port) (contents_of a) (contents_of b)
      port_made numbers = record {
        net = port_net_added;
        numbers = λ i. record (contents_of (others i)).numbers { ports = set_keyed ports a.ports.numbers b.ports.numbers port a.ports.next numbers i };
      }

      pub port_sound : IsSound a → IsNumberedBy port_eq b.ports → ((q : List ℕ) → count_in name_eq b.port_counts q ≡ cond (name_eq port.bridge q) (count_in name_eq a.port_counts q + 1) (count_in name_eq a.port_counts q)) → IsSound b
      port_sound s numbers counts =
          let free = (port_addable before port can.accepted).1 in
          sound_with_ports a b s (made_network a b s (AddPort port) can port_net_added)
          (λ i. record (others i) { plug_counts = a.plug_counts; settings = a.settings }) numbers
          (λ q. counts q ∙ port_counted a s port free q ∙ ap (count_where (is_of_bridge q)) (sym port_table_added))
          (λ q. ap (λ (x : Inside). count_in name_eq x.plug_counts q) others ∙ new_port_in_none a s port free q ∙ ap (count_where (is_in_lan q)) (sym port_table_added))

  -- a port that is taken away
  module _ (port : PortName) (can : CanCommit (DelPort port) (contents_of a)) where
    pub present_port : IsSome (lookup (port_eq port) a.ports.rows)
    present_port = sym (contains_keyed ports a.ports.rows port) ∙ (port_deletable before port can.accepted).0

    gone_row : (row : PortRow) × (fin.get before.ports port ≡ Some row) × (is_some row.lan ≡ false)
    gone_row =
        let ok = port_deletable before port can.accepted in
        let row = value_of (fin.get before.ports port) ok.0 in
        (row.0, row.1, ap (λ o. option_map_or (λ (r : PortRow). is_some r.lan) o false) (sym row.1) ∙ ok.1)

    pub port_counted_once : IsSound a → 1 ≤ count_in name_eq a.port_counts port.bridge
    port_counted_once s = one_of_bridge a s port gone_row.0 gone_row.1

    module _ (s : IsSound a) (others : record b { ports = a.ports; port_counts = a.port_counts; settings = a.settings } ≡ a)
        (rows : (q : PortName) → lookup (port_eq q) b.ports.rows ≡ cond (port_eq port q) None (lookup (port_eq q) a.ports.rows))
        (forgets : b.settings.set ≡ set_after (DelPort port) a.settings.set) where
      port_table_left : fin.from_entries b.ports.rows ≡ fin.remove before.ports port
      port_table_left = removed_keyed ports a.ports.rows b.ports.rows port rows

      port_net_left : (contents_of b).net ≡ effect (DelPort port) before
      port_net_left i = record (with_by_tree (contents_of (others i)).net (forgets i)) { ports = port_table_left i }

      pub port_unmade : ((q : PortName) → lookup (port_eq q) b.ports.numbers ≡ cond (port_eq port q) None (lookup (port_eq q) a.ports.numbers)) → Makes (DelPort port) (contents_of a) (contents_of b)
      port_unmade numbers = record {
        net = port_net_left;
        numbers = λ i. record (contents_of (others i)).numbers { ports = removed_keyed ports a.ports.numbers b.ports.numbers port numbers i };
      }

      pub port_left_sound : IsNumberedBy port_eq b.ports → ((q : List ℕ) → count_in name_eq b.port_counts q ≡ cond (name_eq port.bridge q) (count_in name_eq a.port_counts q - 1) (count_in name_eq a.port_counts q)) → IsSound b
      port_left_sound numbers counts =
          sound_with_ports a b s (made_network a b s (DelPort port) can port_net_left) (λ i. record (others i) { plug_counts = a.plug_counts }) numbers
          (λ q. counts q ∙ port_uncounted a s port gone_row.0 gone_row.1 q ∙ ap (count_where (is_of_bridge q)) (sym port_table_left))
          (λ q. ap (λ (x : Inside). count_in name_eq x.plug_counts q) others ∙ removed_in_none a s port gone_row.0 gone_row.1 gone_row.2 q ∙ ap (count_where (is_in_lan q)) (sym port_table_left))

  -- a port that is put into a LAN, or taken out of it
  module _ (others : record b { ports = a.ports; plug_counts = a.plug_counts } ≡ a) (port : PortName) (old new : PortRow) (there : fin.get before.ports port ≡ Some old)
      (rows : (q : PortName) → lookup (port_eq q) b.ports.rows ≡ cond (port_eq port q) (Some new) (lookup (port_eq q) a.ports.rows)) where
    plug_table : fin.from_entries b.ports.rows ≡ fin.insert before.ports port new
    plug_table = set_keyed ports a.ports.rows b.ports.rows port new rows

    plug_sound : IsSound a → IsNetwork (contents_of b).net → IsNumberedBy port_eq b.ports → ((q : List ℕ) → count_in name_eq b.plug_counts q ≡ count_where (is_in_lan q) (fin.insert before.ports port new)) → IsSound b
    plug_sound s network numbers counts =
        sound_with_ports a b s network (λ i. record (others i) { port_counts = a.port_counts; settings = a.settings }) numbers
        (λ q. ap (λ (x : Inside). count_in name_eq x.port_counts q) others ∙ of_bridge_kept a s port new old there q ∙ ap (count_where (is_of_bridge q)) (sym plug_table))
        (λ q. counts q ∙ ap (count_where (is_in_lan q)) (sym plug_table))

    plug_net : (f : PortRow → PortRow) → f old ≡ new → (contents_of b).net ≡ record before { ports = change before.ports port f }
    plug_net f is =
        let same : fin.insert before.ports port new ≡ change before.ports port f = ap (fin.insert before.ports port) (sym is) ∙ sym (changed_is ports before.ports port f old there) in
        λ i. record (contents_of (others i)).net { ports = (plug_table ∙ same) i }

    pub plugged_made : (lan : List ℕ) → in_lan (Some lan) old ≡ new → b.ports.numbers ≡ a.ports.numbers → Makes (Plug port lan) (contents_of a) (contents_of b)
    plugged_made lan is numbers = record { net = plug_net (in_lan (Some lan)) is; numbers = λ i. record (contents_of (others i)).numbers { ports = fin.from_entries (numbers i) } }

    pub unplugged_made : in_lan None old ≡ new → b.ports.numbers ≡ a.ports.numbers → Makes (Unplug port) (contents_of a) (contents_of b)
    unplugged_made is numbers = record { net = plug_net (in_lan None) is; numbers = λ i. record (contents_of (others i)).numbers { ports = fin.from_entries (numbers i) } }

    pub plugged_sound : (lan : List ℕ) → CanCommit (Plug port lan) (contents_of a) → IsSound a → in_lan (Some lan) old ≡ new → IsNumberedBy port_eq b.ports
        → ((q : List ℕ) → count_in name_eq b.plug_counts q ≡ cond (name_eq lan q) (count_in name_eq a.plug_counts q + 1) (count_in name_eq a.plug_counts q)) → IsSound b
    plugged_sound lan can s is numbers counts =
        plug_sound s (made_network a b s (Plug port lan) can (plug_net (in_lan (Some lan)) is)) numbers
        (λ q. counts q ∙ plug_counted a s port lan old there (ap (λ o. option_map_or (λ (r : PortRow). is_some r.lan) o false) (sym there) ∙ (port_pluggable before port lan can.accepted).2) q
        ∙ ap (λ r. count_where (is_in_lan q) (fin.insert before.ports port r)) is)

    pub unplugged_sound : (lan : List ℕ) → CanCommit (Unplug port) (contents_of a) → IsSound a → old.lan ≡ Some lan → in_lan None old ≡ new → IsNumberedBy port_eq b.ports
        → ((q : List ℕ) → count_in name_eq b.plug_counts q ≡ cond (name_eq lan q) (count_in name_eq a.plug_counts q - 1) (count_in name_eq a.plug_counts q)) → IsSound b
    unplugged_sound lan can s plugged is numbers counts =
        plug_sound s (made_network a b s (Unplug port) can (plug_net (in_lan None) is)) numbers
        (λ q. counts q ∙ plug_uncounted a s port lan old there plugged q ∙ ap (λ r. count_where (is_in_lan q) (fin.insert before.ports port r)) is)

  -- a new LAN
  module _ (lan : List ℕ) (can : CanCommit (AddLan lan) (contents_of a)) where
    pub absent_lan : lookup (name_eq lan) a.lans.rows ≡ None
    absent_lan = absent _ (sym (contains_keyed names a.lans.rows lan) ∙ (lan_addable before lan can.accepted).0)

    module _ (others : record b { lans = a.lans } ≡ a) (rows : (q : List ℕ) → lookup (name_eq q) b.lans.rows ≡ cond (name_eq lan q) (Some new_lan) (lookup (name_eq q) a.lans.rows)) where
      pub lan_made : ((q : List ℕ) → lookup (name_eq q) b.lans.numbers ≡ cond (name_eq lan q) (Some a.lans.next) (lookup (name_eq q) a.lans.numbers)) → Makes (AddLan lan) (contents_of a) (contents_of b)
      lan_made numbers = record {
        net = net_with_lans a b others lan new_lan rows;
        numbers = λ i. record (contents_of (others i)).numbers { lans = set_keyed names a.lans.numbers b.lans.numbers lan a.lans.next numbers i };
      }

      pub lan_sound : IsSound a → IsNumberedBy name_eq b.lans → IsSound b
      lan_sound s numbers = sound_with_lans a b s (made_network a b s (AddLan lan) can (net_with_lans a b others lan new_lan rows)) others numbers

  -- a LAN that is taken away
  module _ (lan : List ℕ) (can : CanCommit (DelLan lan) (contents_of a)) where
    pub present_lan : IsSome (lookup (name_eq lan) a.lans.rows)
    present_lan = sym (contains_keyed names a.lans.rows lan) ∙ (lan_deletable before lan can.accepted).0

    module _ (others : record b { lans = a.lans } ≡ a) (rows : (q : List ℕ) → lookup (name_eq q) b.lans.rows ≡ cond (name_eq lan q) None (lookup (name_eq q) a.lans.rows)) where
      lan_net_left : (contents_of b).net ≡ effect (DelLan lan) before
      lan_net_left i = record (contents_of (others i)).net { lans = removed_keyed names a.lans.rows b.lans.rows lan rows i }

      pub lan_unmade : ((q : List ℕ) → lookup (name_eq q) b.lans.numbers ≡ cond (name_eq lan q) None (lookup (name_eq q) a.lans.numbers)) → Makes (DelLan lan) (contents_of a) (contents_of b)
      lan_unmade numbers = record {
        net = lan_net_left;
        numbers = λ i. record (contents_of (others i)).numbers { lans = removed_keyed names a.lans.numbers b.lans.numbers lan numbers i };
      }

      pub lan_left_sound : IsSound a → IsNumberedBy name_eq b.lans → IsSound b
      lan_left_sound s numbers = sound_with_lans a b s (made_network a b s (DelLan lan) can lan_net_left) others numbers

  -- what is set by tree or VID
  module _ (change : TreeChange) (can : CanCommit (SetByTree change) (contents_of a)) (others : record b { settings = a.settings } ≡ a) (sets : b.settings.set ≡ set_after (SetByTree change) a.settings.set) where
    net_set : (contents_of b).net ≡ effect (SetByTree change) before
    net_set i = with_by_tree (contents_of (others i)).net (sets i)

    pub setting_made : Makes (SetByTree change) (contents_of a) (contents_of b)
    setting_made = record { net = net_set; numbers = λ i. (contents_of (others i)).numbers }

    pub setting_sound : IsSound a → IsSound b
    setting_sound s = sound_with_settings a b s (made_network a b s (SetByTree change) can net_set) others
