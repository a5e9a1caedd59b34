-- Each edit between two networks is in its ranges, and a line says it.
use Rattle.std.proofs.Common.{◌≡◌, ℕ, zero, suc, ◌+◌, ◌≤◌, Bool, true, false, not, ◌&&◌, List, [], ◌∷◌, length, Option, Some, None, refl, sym, ◌∙◌, arith}
use Rattle.std.specs.Prelude.{◌==◌, if◌then◌else◌}
use Rattle.std.specs.List.{flat_map, range_with_len, AllByRecursion}
use Rattle.std.specs.Option.{option_map_or, unwrap_or, ForSome}
use Rattle.std.specs.FinMap as fin
use Rattle.std.proofs.lemmas.Bool.{leb-true}
use Rattle.mst_ids.specs.Vids.{is_vid, runs_from, IsVidSet}
use Rattle.mst_ids.specs.declared.name.PortName.{PortName}
use Rattle.mst_ids.proofs.VidRangeLemmas.{is_vid_set}
use Rattle.mst_lang.specs.Ranges.{InRange, IsName, IsPort, BridgeFits, PortFits, LanFits}
use Rattle.mst_lang.specs.declared.line.Edit.{Edit}
use Rattle.mst_lang.specs.declared.line.Edit.TheVariants.{AddBridge, DelBridge, SetBridge, AddPort, DelPort, SetPort, AddLan, DelLan, SetLan, Plug, Unplug, SetByTree}
use Rattle.mst_lang.specs.declared.line.BridgeChange.{BridgeChange}
use Rattle.mst_lang.specs.declared.line.BridgeChange.TheVariants.{Power as PowerOf, Kind as KindOf, SystemPriority, Configuration, MaxHops, MaxAge}
use Rattle.mst_lang.specs.declared.line.PortChange.{PortChange}
use Rattle.mst_lang.specs.declared.line.PortChange.TheVariants.{Key, PathCost, RestrictedRole}
use Rattle.mst_lang.specs.declared.line.LanChange.{LanChange}
use Rattle.mst_lang.specs.declared.line.LanChange.TheVariants.{State, Speed}
use Rattle.mst_lang.specs.declared.line.TreeChange.TheVariants.{Priority, PortPriority, PortCost, Vlans}
use Rattle.mst_net.specs.tables.After.{all_vids, has_lan, table_of, vlans_of}
use Rattle.mst_net.specs.tables.Contents.{priority_of, port_priority_of, port_cost_of}
use Rattle.mst_net.specs.tables.Settings.{kind_of, power_of, state_of}
use Rattle.mst_net.specs.tables.Table.{has_tree, mapped, mstis_in, tree_in}
use Rattle.mst_net.specs.tables.Tables.{Net, IsNetwork, BridgeRow, PortRow, LanRow}
use Rattle.mst_net.specs.tables.declared.settings.PortSettings.{PortSettings}
use Rattle.mst_net.proofs.tables_lemmas.Keys.{names, ports}
use Rattle.mst_edits.specs.EditLine.{line_of, IsSayable}
use Rattle.mst_edits.specs.Runs.{vids_of}
use Rattle.mst_edits.specs.Edits.{when, joined, ports_of, unplug_edits, del_port_edits, del_lan_edits, del_bridge_edits, in_trees, priority_edits, port_cost_edits, port_priority_edits, bridge_set, port_set, lan_set, bridge_settings, port_settings, lan_settings, bridge_edits, port_edits, lan_edits, bridge_part, plug_edits, power_settings, power_edits, state_settings, state_edits, going, coming, edits_with}
use Rattle.mst_edits.specs.TableLines.{mapping, fits, cut, move, edit_of, moves_to, moved_to, direct_moves, crowds, unwanted, gathered_first, ways, with_way, with_ways, table_after}
use Rattle.mst_edits.specs.SaveText.{IsShort}
use Rattle.mst_edit_laws.proofs.Seen.{table_is}
use Rattle.mst_edits.proofs.TreesMapped.{mstis_fit}
use Rattle.mst_edits.proofs.Cuts.{IsLine, lines_are, line_set, line_some, one_fits}
use Rattle.mst_edits.proofs.Lists.{all_append, all_when, all_map_of, all_flat, all_flat_of, all_as, all_of, keys_hold, all_joined}
use Rattle.mst_edits.proofs.RunLemmas.{runs_of_set}
use Rattle.mst_edits.proofs.Short.{HasNoList, edit_short}
use Rattle.mst_edits.specs.Staying.{bridge_stays, port_stays, plug_stays, bridge_before, settings_before, lan_before, table_before}
use Rattle.mst_edit_laws.proofs.Plain.{found}
use Rattle.mst_edit_laws.proofs.Room.{first_is}

pub record IsGood (e : Edit) : Type 0 where
  pub in_range : InRange e
  pub sayable : IsSayable e
  pub short : IsShort e → length (line_of e) ≤ 4096

-- one with no list of VIDs
plain : (e : Edit) → InRange e → HasNoList e → IsSayable e → IsGood e
plain e in_range none sayable = record { in_range = in_range; sayable = sayable; short = λ _. edit_short e in_range none }

bridge_good : (k : List ℕ) (change : BridgeChange) → IsName k → BridgeFits change → IsGood (SetBridge k change)
bridge_good k change named fits = plain (SetBridge k change) (record { names = named; values = fits }) tt tt

port_good : (p : PortName) (change : PortChange) → IsPort p → PortFits change → IsGood (SetPort p change)
port_good p change named fits = plain (SetPort p change) (record { names = named; values = fits }) tt tt

lan_good : (l : List ℕ) (change : LanChange) → IsName l → LanFits change → IsGood (SetLan l change)
lan_good l change named fits = plain (SetLan l change) (record { names = named; values = fits }) tt tt

-- ---- settings by tree
trees_small : (a n : ℕ) → a + n ≤ 4095 → AllByRecursion (λ tree. tree ≤ 4094) (range_with_len a n)
trees_small a zero h = tt
trees_small a (suc n) h = (omega arith, trees_small (a + 1) n (omega arith))

all_in_trees : (f : ℕ → List Edit) → ((t : ℕ) → t ≤ 4094 → AllByRecursion IsGood (f t)) → AllByRecursion IsGood (in_trees f)
unfolding in_trees
all_in_trees f each = all_flat_of IsGood (λ tree. tree ≤ 4094) f (range_with_len 0 4095) (trees_small 0 4095 (omega arith)) each

-- ---- lines of a table
-- what a function makes: the type of a line is named by it
abbrev Made : {M : Type 0} → (ℕ → List Bool → M) → Type 0
Made {M = M} make = M

abbrev Move : Type 0
Move = Made move

module _ (k : List ℕ) (named : IsName k) where
  abbrev Fits : Move → Type 0
  Fits line = IsGood (edit_of k line)

  moves_good : (tree : ℕ) → tree ≤ 4094 → (vids : List Bool) → IsVidSet vids → AllByRecursion Fits (moves_to k tree vids)
  moves_good tree most vids is =
      let runs = runs_from 0 vids in
      all_map_of Fits (IsLine (fits k tree) runs) (λ line. move tree (vids_of line)) (cut (fits k tree) runs)
      (lines_are (fits k tree) runs (λ run low order high. one_fits k tree run named most low order high) runs (runs_of_set vids is) (λ v h. h))
      (λ line of. record {
        in_range = record { names = named; values = (most, line_set line of.runs) };
        sayable = line_some line of.some of.runs;
        short = λ _. leb-true (length (line_of (mapping k tree line))) 4096 of.fits;
      })

  gathered_set : (table : List ℕ) (trees : List ℕ) → IsVidSet (gathered_first k table trees)
  gathered_set table [] = is_vid_set (λ _. false) refl refl
  gathered_set table (tree ∷ trees) = first_is k table tree trees

  module _ (after : List ℕ) where
    way_good : (now : List ℕ) (line : Move) → Fits line → AllByRecursion Fits (with_way k after now line)
    way_good now line own = all_append Fits (if crowds now line then ways k after now line else []) (line ∷ []) (by (crowds now line)) (own, tt)
      where
        by : (b : Bool) → AllByRecursion Fits (if b then ways k after now line else [])
        by true = moves_good 0 (omega arith) (gathered_first k (mapped line.vids 0 now) (unwanted after (mapped line.vids 0 now))) (gathered_set (mapped line.vids 0 now) (unwanted after (mapped line.vids 0 now)))
        by false = tt

    ways_good : (lines : List Move) (now : List ℕ) → AllByRecursion Fits lines → AllByRecursion Fits (with_ways k after now lines)
    ways_good [] now h = tt
    ways_good (line ∷ lines) now h =
        let next = table_after now (with_way k after now line) in
        all_append Fits (with_way k after now line) (with_ways k after next lines) (way_good now line h.0) (ways_good lines next h.1)

    moved_set : (before : List ℕ) (tree : ℕ) → IsVidSet (moved_to before after tree)
    moved_set before tree = is_vid_set (λ vid. is_vid vid && (tree_in after vid == tree && not (tree_in before vid == tree))) refl refl

    lines_good : length after ≡ 4094 → (before : List ℕ) → AllByRecursion Fits (with_ways k after before (direct_moves k before after))
    lines_good long before =
        ways_good (direct_moves k before after) before
        (all_flat_of Fits (λ tree. tree ≤ 4094) (λ tree. moves_to k tree (moved_to before after tree)) (0 ∷ mstis_in after)
        (omega arith, all_as (λ tree. ((1 ≤ tree) × (tree ≤ 4094)) × (has_tree after tree ≡ true)) (λ tree. tree ≤ 4094) (λ tree fit. fit.0.1) (mstis_in after) (mstis_fit after))
        (λ tree most. moves_good tree most (moved_to before after tree) (moved_set before tree)))

-- ---- what is in a network
module _ (net : Net) (is : IsNetwork net) where
  bridge_names : AllByRecursion IsName (fin.keys net.bridges)
  bridge_names = all_of names IsName (fin.keys net.bridges) (λ q h. let row = found (fin.get net.bridges q) (sym (keys_hold names net.bridges q) ∙ h) in is.bridges.named q row.0 row.1)

  lan_names : AllByRecursion IsName (fin.keys net.lans)
  lan_names = all_of names IsName (fin.keys net.lans) (λ q h. let row = found (fin.get net.lans q) (sym (keys_hold names net.lans q) ∙ h) in is.lans.named q row.0 row.1)

  port_named : (p : PortName) (row : PortRow) → fin.get net.ports p ≡ Some row → IsPort p
  port_named p row there =
      let home = found (fin.get net.bridges p.bridge) (is.ports.has_bridge p row there) in
      let number = is.ports.number_fits p row there in
      (is.bridges.named p.bridge home.0 home.1, number.0, number.1)

  port_names : AllByRecursion IsPort (fin.keys net.ports)
  port_names = all_of ports IsPort (fin.keys net.ports) (λ q h. let row = found (fin.get net.ports q) (sym (keys_hold ports net.ports q) ∙ h) in port_named q row.0 row.1)

  priority_small : (q : List ℕ) (t : ℕ) → priority_of net q t ≤ 15
  priority_small q t = by (fin.get net.priorities (record { bridge = q; tree = t })) refl
    where
      by : (o : Option ℕ) → fin.get net.priorities (record { bridge = q; tree = t }) ≡ o → unwrap_or o 8 ≤ 15
      by None e = omega arith
      by (Some n) e = (is.priorities (record { bridge = q; tree = t }) n e).2.0

  port_priority_small : (p : PortName) (t : ℕ) → port_priority_of net p t ≤ 15
  port_priority_small p t = by (fin.get net.port_priorities (record { port = p; tree = t })) refl
    where
      by : (o : Option ℕ) → fin.get net.port_priorities (record { port = p; tree = t }) ≡ o → unwrap_or o 8 ≤ 15
      by None e = omega arith
      by (Some n) e = (is.port_priorities (record { port = p; tree = t }) n e).2.0

  port_cost_fits : (p : PortName) (t : ℕ) → ForSome (port_cost_of net p t) (λ c. (1 ≤ c) × (c ≤ 200_000_000))
  port_cost_fits p t c e = (is.port_costs (record { port = p; tree = t }) c e).2

  vlans_are : (p : PortName) → IsVidSet (vlans_of net p)
  vlans_are p = by (fin.get net.vlans p) refl
    where
      by : (o : Option (List Bool)) → fin.get net.vlans p ≡ o → IsVidSet (unwrap_or o all_vids)
      by None e = is_vid_set is_vid refl refl
      by (Some v) e = (is.vlans p v e).1

-- ---- the edits of each name
module _ (in_place : Bool) (a b : Net) (is_a : IsNetwork a) (is_b : IsNetwork b) where
  bridge_set_good : (k : List ℕ) (stays : Bool) (before row : BridgeRow) → fin.get b.bridges k ≡ Some row → AllByRecursion IsGood (joined (bridge_set in_place a b stays k before row))
  bridge_set_good k stays before row there =
      let named : IsName k = is_b.bridges.named k row there in
      let sixteen = is_b.bridges.sixteen_bits k row there in
      let limits = is_b.bridges.limits_fit k row there in
      let old = table_before a stays k in
      let new = table_of b k in
      all_joined IsGood (bridge_set in_place a b stays k before row) (
        all_when IsGood _ (AddBridge k row.mac) (λ _. plain (AddBridge k row.mac) (record { names = named; values = is_b.bridges.mac_fits k row there }) tt tt),
        (
          all_when IsGood _ (SetBridge k (PowerOf (power_of row.is_on))) (λ _. bridge_good k (PowerOf (power_of row.is_on)) named tt),
          (
            all_when IsGood _ (SetBridge k (KindOf (kind_of row.is_rstp))) (λ _. bridge_good k (KindOf (kind_of row.is_rstp)) named tt),
            (
              all_when IsGood _ (SetBridge k (SystemPriority row.system_priority)) (λ _. bridge_good k (SystemPriority row.system_priority) named sixteen.0),
              (
                all_when IsGood _ (SetBridge k (Configuration row.revision row.conf_name)) (λ _. bridge_good k (Configuration row.revision row.conf_name) named (sixteen.1, is_b.bridges.names_fit k row there)),
                (
                  all_map_of IsGood (Fits k named) (edit_of k) (with_ways k new old (direct_moves k old new)) (lines_good k named new (table_is b is_b k).0 old) (λ line good. good),
                  (
                    all_when IsGood _ (SetBridge k (MaxHops row.max_hops)) (λ _. bridge_good k (MaxHops row.max_hops) named limits.0),
                    (
                      all_when IsGood _ (SetBridge k (MaxAge row.max_age)) (λ _. bridge_good k (MaxAge row.max_age) named limits.1),
                      (
                        all_in_trees (priority_edits a b stays k) (λ t most. all_when IsGood _ (SetByTree (Priority k t (priority_of b k t))) (λ _.
                            plain (SetByTree (Priority k t (priority_of b k t))) (record { names = named; values = (most, priority_small b is_b k t) }) tt tt)),
                        tt,
                      ),
                    ),
                  ),
                ),
              ),
            ),
          ),
        ),
      )

  port_set_good : (p : PortName) (row : PortRow) (stays : Bool) (before : PortSettings) → fin.get b.ports p ≡ Some row → AllByRecursion IsGood (joined (port_set a b stays p before row.settings))
  port_set_good p row stays before there =
      let named : IsPort p = port_named b is_b p row there in
      let new = row.settings in
      let external : ForSome new.external (λ c. (1 ≤ c) × (c ≤ 200_000_000)) = λ c e. is_b.ports.cost_fits p row c there e in
      all_joined IsGood (port_set a b stays p before new) (
        all_when IsGood _ (AddPort p) (λ _. plain (AddPort p) (record { names = named; values = tt }) tt tt),
        (
          all_when IsGood _ (SetPort p (Key new.key)) (λ _. port_good p (Key new.key) named (is_b.ports.key_fits p row there)),
          (
            all_when IsGood _ (SetPort p (PathCost new.external)) (λ _. port_good p (PathCost new.external) named external),
            (
              all_in_trees (port_cost_edits a b stays p) (λ t most. all_when IsGood _ (SetByTree (PortCost p t (port_cost_of b p t))) (λ _.
                  plain (SetByTree (PortCost p t (port_cost_of b p t))) (record { names = named; values = (most, port_cost_fits b is_b p t) }) tt tt)),
              (
                all_in_trees (port_priority_edits a b stays p) (λ t most. all_when IsGood _ (SetByTree (PortPriority p t (port_priority_of b p t))) (λ _.
                    plain (SetByTree (PortPriority p t (port_priority_of b p t))) (record { names = named; values = (most, port_priority_small b is_b p t) }) tt tt)),
                (
                  all_when IsGood _ (SetByTree (Vlans p (vlans_of b p))) (λ _. record { in_range = record { names = named; values = vlans_are b is_b p }; sayable = tt; short = λ h. h }),
                  (all_when IsGood _ (SetPort p (RestrictedRole new.is_restricted)) (λ _. port_good p (RestrictedRole new.is_restricted) named tt), tt),
                ),
              ),
            ),
          ),
        ),
      )

  bridges_good : (k : List ℕ) → AllByRecursion IsGood (bridge_edits in_place a b k)
  bridges_good k = by (fin.get b.bridges k) refl
    where
      by : (o : Option BridgeRow) → fin.get b.bridges k ≡ o → AllByRecursion IsGood (option_map_or (bridge_settings in_place a b k) o [])
      by None e = tt
      by (Some row) e = bridge_set_good k (bridge_stays a b k) (bridge_before a k row) row e

  ports_good : (p : PortName) → AllByRecursion IsGood (port_edits a b p)
  ports_good p = by (fin.get b.ports p) refl
    where
      by : (o : Option PortRow) → fin.get b.ports p ≡ o → AllByRecursion IsGood (option_map_or (port_settings a b p) o [])
      by None e = tt
      by (Some row) e = port_set_good p row (port_stays a b p) (settings_before a (port_stays a b p) p) e

  lans_good : (l : List ℕ) → AllByRecursion IsGood (lan_edits in_place a b l)
  lans_good l = by (fin.get b.lans l) refl
    where
      by : (o : Option LanRow) → fin.get b.lans l ≡ o → AllByRecursion IsGood (option_map_or (lan_settings in_place a l) o [])
      by None e = tt
      by (Some row) e =
          let named : IsName l = is_b.lans.named l row e in
          all_joined IsGood (lan_set in_place (has_lan l a) l (lan_before a l) row) (
            all_when IsGood _ (AddLan l) (λ _. plain (AddLan l) (record { names = named; values = tt }) tt tt),
            (
              all_when IsGood _ (SetLan l (State (state_of row.is_up))) (λ _. lan_good l (State (state_of row.is_up)) named tt),
              (all_when IsGood _ (SetLan l (Speed row.speed)) (λ _. lan_good l (Speed row.speed) named (is_b.lans.speed_fits l row e)), tt),
            ),
          )

  plugs_good : (p : PortName) → AllByRecursion IsGood (plug_edits a b p)
  plugs_good p = by (fin.get b.ports p) refl
    where
      by : (o : Option PortRow) → fin.get b.ports p ≡ o → AllByRecursion IsGood (option_map_or (λ lan. when (not (plug_stays a b p)) (Plug p lan)) (option_map_or (λ row. row.lan) o None) [])
      by None e = tt
      by (Some row) e = at row.lan refl
        where
          at : (lan : Option (List ℕ)) → row.lan ≡ lan → AllByRecursion IsGood (option_map_or (λ lan. when (not (plug_stays a b p)) (Plug p lan)) lan [])
          at None f = tt
          at (Some lan) f =
              let home = found (fin.get b.lans lan) (is_b.ports.has_lan p row lan e f) in
              all_when IsGood (not (plug_stays a b p)) (Plug p lan) (λ _. plain (Plug p lan) (record { names = (port_named b is_b p row e, is_b.lans.named lan home.0 home.1); values = tt }) tt tt)

  powers_good : (k : List ℕ) → AllByRecursion IsGood (power_edits in_place a b k)
  powers_good k = by (fin.get b.bridges k) refl
    where
      by : (o : Option BridgeRow) → fin.get b.bridges k ≡ o → AllByRecursion IsGood (option_map_or (power_settings in_place a k) o [])
      by None e = tt
      by (Some row) e = all_when IsGood _ (SetBridge k (PowerOf (power_of row.is_on))) (λ _. bridge_good k (PowerOf (power_of row.is_on)) (is_b.bridges.named k row e) tt)

  states_good : (l : List ℕ) → AllByRecursion IsGood (state_edits in_place a b l)
  states_good l = by (fin.get b.lans l) refl
    where
      by : (o : Option LanRow) → fin.get b.lans l ≡ o → AllByRecursion IsGood (option_map_or (state_settings in_place a l) o [])
      by None e = tt
      by (Some row) e = all_when IsGood _ (SetLan l (State (state_of row.is_up))) (λ _. lan_good l (State (state_of row.is_up)) (is_b.lans.named l row e) tt)

  -- ---- all of them
  going_good : AllByRecursion IsGood (joined (going a b))
  going_good = all_joined IsGood (going a b) (
    all_flat_of IsGood IsPort (unplug_edits a b) (fin.keys a.ports) (port_names a is_a) (λ p named. all_when IsGood _ (Unplug p) (λ _. plain (Unplug p) (record { names = named; values = tt }) tt tt)),
    (
      all_flat_of IsGood IsPort (del_port_edits a b) (fin.keys a.ports) (port_names a is_a) (λ p named. all_when IsGood _ (DelPort p) (λ _. plain (DelPort p) (record { names = named; values = tt }) tt tt)),
      (
        all_flat_of IsGood IsName (del_lan_edits b) (fin.keys a.lans) (lan_names a is_a) (λ l named. all_when IsGood _ (DelLan l) (λ _. plain (DelLan l) (record { names = named; values = tt }) tt tt)),
        (
          all_flat_of IsGood IsName (del_bridge_edits a b) (fin.keys a.bridges) (bridge_names a is_a) (λ k named. all_when IsGood _ (DelBridge k) (λ _. plain (DelBridge k) (record { names = named; values = tt }) tt tt)),
          tt,
        ),
      ),
    ),
  )

  coming_good : AllByRecursion IsGood (joined (coming in_place a b))
  coming_good = all_joined IsGood (coming in_place a b) (
    all_flat IsGood (bridge_part in_place a b) (fin.keys b.bridges) (λ k. all_append IsGood (bridge_edits in_place a b k) (flat_map (port_edits a b) (ports_of b k)) (bridges_good k) (all_flat IsGood (port_edits a b) (ports_of b k) ports_good)),
    (
      all_flat IsGood (lan_edits in_place a b) (fin.keys b.lans) lans_good,
      (
        all_flat IsGood (plug_edits a b) (fin.keys b.ports) plugs_good,
        (all_flat IsGood (power_edits in_place a b) (fin.keys b.bridges) powers_good, (all_flat IsGood (state_edits in_place a b) (fin.keys b.lans) states_good, tt)),
      ),
    ),
  )

  pub edits_good : AllByRecursion IsGood (edits_with in_place a b)
  edits_good = all_append IsGood (joined (going a b)) (joined (coming in_place a b)) going_good coming_good
