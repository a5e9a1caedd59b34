-- What a plan has for a sender, under the numbers of records, is what it has by name.
use Rattle.std.proofs.Common.{◌≡◌, ℕ, Bool, true, nat_eq, List, [], Some, None, is_some, IsSome, unwrap_or, refl, sym, ap, subst, ◌∙◌, eq-eqb}
use Rattle.std.specs.Prelude.{if◌then◌else◌}
use Rattle.std.specs.List.{Contains, filter_map}
use Rattle.std.specs.Option.{option_map, option_and_then}
use Rattle.std.specs.Map.{lookup}
use Rattle.std.specs.FinMap as fin
use Rattle.std.proofs.lemmas.Bool.{eqb-true}
use Rattle.mst_ids.specs.declared.name.PortName.{PortName}
use Rattle.mst_vector.specs.declared.cist.CistBridge.{CistBridge}
use Rattle.mst_tables.specs.Tables.{Net, Numbers, BridgeRow, port_eq}
use Rattle.mst_tables.specs.After.{table_of}
use Rattle.mst_tables.specs.ByTree.{by_tree, table_in}
use Rattle.mst_tables.specs.Seen.{bridge_row}
use Rattle.mst_view.specs.Trees.{mstis_of}
use Rattle.mst_view.specs.View.{LogicalPort, view_ports}
use Rattle.mst_view.specs.Viewed.{Viewed, named_port}
use Rattle.mst_view.specs.declared.in_view.BridgeInView.{BridgeInView}
use Rattle.mst_view.proofs.Placing.{pair_found}
use Rattle.mst_roles.specs.forest.config.Regions.{region_of}
use Rattle.mst_roles.specs.forest.Sight.{named_bridge as bridge_in_sight}
use Rattle.mst_roles.specs.forest.Cist.{cist_bridge, cist_sight}
use Rattle.mst_roles.specs.forest.Outcome.{Outcome, IsOutcome}
use Rattle.mst_roles.specs.forest.Agrees.{AreOf}
use Rattle.mst_roles.specs.forest.Seen.{trees_at}
use Rattle.mst_roles.specs.forest.Forest.{IsForest, Forest}
use Rattle.mst_roles.specs.forest.Settled.{SettledNet, IsSettledNet, outcome_of}
use Rattle.mst_roles.proofs.forest_lemmas.Lists.{some_is, kept_in, all_contained}
use Rattle.mst_roles.proofs.forest_lemmas.Views.{IsPort, IsOn, ports_are, row_on, entry_there}
use Rattle.mst_roles.proofs.forest_lemmas.Seen.{SeenBridge, SeenPort, bridge_seen, port_seen, port_of_net}
use Rattle.mst_roles.proofs.forest_lemmas.Looking.{IsFirst, first_found}
use Rattle.mst_roles.specs.Roles.{cist_role, role_in, role_of}
use Rattle.mst_roles.specs.SeenRoles.{seen_role}
use Rattle.mst_roles.proofs.Named.{own_role, port_same}
use Rattle.mst_bpdu.specs.Differences.{differences_of}
use Rattle.mst_bpdu.specs.declared.bpdu.Bpdu.{Bpdu}
use Rattle.mst_bpdu.specs.declared.difference.Difference.{Difference}
use Rattle.mst_bpdu.specs.declared.planned.Planned.{Planned}
use Rattle.mst_bpdu.specs.declared.planned.PlannedCist.{PlannedCist}
use Rattle.mst_compare.specs.Sender.{sender_of}
use Rattle.mst_compare.specs.Plan.{planned_cist, planned_msti, with_both, cist_of, msti_of, plan_with, plan_at, planned_of}
use Rattle.mst_compare.specs.Comparison.{AreDifferences}
use Rattle.mst_compare.specs.Seen.{seen_cist, seen_msti, seen_planned}
use Rattle.mst_compare.specs.declared.senders.Origin.{Origin}
use Rattle.mst_compare.proofs.Sending.{IsSender}

-- ---- by name
-- what a port has in the CIST
pub record HasCist (net : Net) (o : Outcome) (port : PortName) : Type 0 where
  pub row : BridgeRow
  pub is_row : fin.get net.bridges port.bridge ≡ Some row
  pub cist : PlannedCist
  pub is_cist : cist_of net o port row ≡ Some cist

-- the bridge of an enabled port is on, and so it has a root priority vector
pub has_cist : (net : Net) (o : Outcome) → IsOutcome net o → (p : LogicalPort) → Contains (view_ports net) p → p.is_enabled ≡ true → HasCist net o p.name
has_cist net o is p there enabled =
    let own = all_contained (IsPort net) (view_ports net) p (ports_are net) there in
    let on : IsOn net p.name.bridge = row_on net p.name.bridge (own.bridge_on enabled) in
    let bridge : CistBridge = cist_bridge (by_tree net) (region_of net p.name.bridge) p.name.bridge on.row in
    let has_bridge =
    kept_in (bridge_in_sight (cist_sight net)) (fin.entries net.bridges) (p.name.bridge, on.row) (p.name.bridge, bridge) (entry_there net p.name.bridge on.row on.is_row)
    (ap (λ (t : Bool). option_map (λ (b : CistBridge). (p.name.bridge, b)) (if t then Some bridge else None)) on.is_power) in
    let x = is.cist.settled.has_vector p.name.bridge bridge has_bridge in
    let first : IsFirst (λ (q : LogicalPort). port_eq q.name p.name) (view_ports net) = first_found (λ (q : LogicalPort). port_eq q.name p.name) (view_ports net) p there (port_same p.name p.name refl) in
    record {
      row = on.row;
      is_row = on.is_row;
      cist = planned_cist (by_tree net) p.name on.row x.0 (cist_role net o first.it);
      is_cist = λ i. with_both (planned_cist (by_tree net) p.name on.row) (x.1 i) (ap (option_and_then (role_in net o 0)) first.found i);
    }

pub has_plan : (net : Net) (o : Outcome) (port : PortName) → HasCist net o port → (plan : Planned) × (planned_of net o port ≡ Some plan)
has_plan net o port h =
    let mstis = filter_map (msti_of net o port) (mstis_of net port.bridge h.row) in (
      plan_with h.row (table_of net port.bridge) mstis h.cist,
      ap (option_and_then (plan_at net o port)) h.is_row ∙ ap (option_map (plan_with h.row (table_of net port.bridge) mstis)) h.is_cist,
    )

-- by one outcome there is one list of differences
pub one_list_of : (net : Net) (bpdu : Bpdu) (found others : List Difference) (x : AreDifferences net bpdu found) (y : AreDifferences net bpdu others) → x.outcome ≡ y.outcome → found ≡ others
one_list_of net bpdu found others x y same =
    let port : x.port ≡ y.port = some_is x.port y.port (sym x.is_sender ∙ y.is_sender) in
    let plan : x.plan ≡ y.plan = some_is x.plan y.plan (sym x.is_plan ∙ (λ i. planned_of net (same i) (port i)) ∙ y.is_plan) in
    x.are ∙ ap (λ (p : Planned). differences_of p bpdu) plan ∙ sym y.are

-- ---- under the numbers of records
-- what a settled network shows belongs together
pub settled_by : (s : SettledNet) → IsSettledNet s → (v : Viewed) (f : Forest) → v ≡ s.view → f ≡ s.forest → IsSettledNet (record { net = s.net; numbers = s.numbers; view = v; forest = f })
settled_by s is v f seen grown = subst IsSettledNet (λ i. record { net = s.net; numbers = s.numbers; view = sym seen i; forest = sym grown i }) is

pub forest_of : (s : SettledNet) → IsSettledNet s → IsForest s.net s.numbers s.forest
forest_of s is = record { outcome = outcome_of s; is_outcome = is.is_outcome; cist = is.cist; mstis = is.mstis; regions = is.of.regions }

module _ (net : Net) (numbers : Numbers) (v : Viewed) (f : Forest) (of : AreOf net numbers v f.regions) where
  -- the trees of a bridge
  trees_of_bridge : (b : BridgeInView) → Contains v.bridges b → trees_at v b.bridge.number ≡ mstis_of net b.name (bridge_row b.bridge)
  trees_of_bridge b there =
      ap (λ es. unwrap_or (lookup (nat_eq b.bridge.number) es) []) of.view.trees
      ∙ ap (λ o. unwrap_or o [])
      (pair_found (λ (x : BridgeInView). x.bridge.number) (λ (x : BridgeInView). mstis_of net x.name (bridge_row x.bridge)) b.bridge.number v.bridges
      ∙ ap (option_map (λ (x : BridgeInView). mstis_of net x.name (bridge_row x.bridge))) first.found)
      ∙ (λ i. mstis_of net (names i) (rows i))
    where
      first : IsFirst (λ (x : BridgeInView). nat_eq b.bridge.number x.bridge.number) v.bridges
      first = first_found (λ (x : BridgeInView). nat_eq b.bridge.number x.bridge.number) v.bridges b there (eq-eqb b.bridge.number b.bridge.number refl)

      own : SeenBridge net numbers b
      own = bridge_seen net numbers v of.view b there

      other : SeenBridge net numbers first.it
      other = bridge_seen net numbers v of.view first.it first.there

      names : first.it.name ≡ b.name
      names = of.numbered.bridges_differ first.it.name b.name b.bridge.number (other.has_number ∙ ap Some (sym (eqb-true b.bridge.number first.it.bridge.number first.passes))) own.has_number

      rows : bridge_row first.it.bridge ≡ bridge_row b.bridge
      rows = some_is (bridge_row first.it.bridge) (bridge_row b.bridge) (sym other.has_row ∙ ap (fin.get net.bridges) names ∙ own.has_row)

  module _ (is : IsForest net numbers f) (s : Origin) (sent : IsSender v s) where
    abbrev o : Outcome
    o = is.outcome

    abbrev port : PortName
    port = s.port.name

    abbrev row : BridgeRow
    row = bridge_row s.bridge.bridge

    seen_port : SeenPort net numbers s.port
    seen_port = port_seen net numbers v of.view s.port sent.port_there

    seen_bridge : SeenBridge net numbers s.bridge
    seen_bridge = bridge_seen net numbers v of.view s.bridge sent.bridge_there

    has_row : fin.get net.bridges port.bridge ≡ Some row
    has_row = ap (fin.get net.bridges) sent.owned ∙ seen_bridge.has_row

    trees_same : trees_at v s.port.bridge ≡ mstis_of net port.bridge row
    trees_same =
        ap (trees_at v) (some_is s.port.bridge s.bridge.bridge.number (sym seen_port.has_numbers.bridge ∙ ap (fin.get numbers.bridges) sent.owned ∙ seen_bridge.has_number))
        ∙ trees_of_bridge s.bridge sent.bridge_there
        ∙ ap (λ n. mstis_of net n row) (sym sent.owned)

    role_same : (tree : ℕ) → seen_role v f tree s.port ≡ role_of net o tree port
    role_same tree = own_role net numbers v f of is tree s.port sent.port_there

    cist_same : seen_cist v f row s.port ≡ cist_of net o port row
    cist_same = λ i. with_both (planned_cist (of.view.settings i) port row) (is.cist.vectors port.bridge s.port.bridge seen_port.has_numbers.bridge i) (role_same 0 i)

    msti_same : (tree : ℕ) → seen_msti v f s.port tree ≡ msti_of net o port tree
    msti_same tree = λ i. with_both (planned_msti (of.view.settings i) port tree) ((is.mstis tree).vectors port.bridge s.port.bridge seen_port.has_numbers.bridge i) (role_same tree i)

    pub plan_same : seen_planned v f s ≡ planned_of net o port
    plan_same =
        (λ i. option_map (plan_with row (table_in (of.view.settings i).tables port.bridge) (filter_map (λ tree. msti_same tree i) (trees_same i))) (cist_same i))
        ∙ sym (ap (option_and_then (plan_at net o port)) has_row)

    -- the plan has something for it in the CIST
    pub has_cist_seen : (cist : PlannedCist) × (seen_cist v f row s.port ≡ Some cist)
    has_cist_seen =
        let h = has_cist net o is.is_outcome (named_port s.port) (port_of_net net numbers v of.view s.port sent.port_there) sent.enabled in
        (h.cist, cist_same ∙ ap (cist_of net o port) (some_is row h.row (sym has_row ∙ h.is_row)) ∙ h.is_cist)

    pub has_seen : IsSome (seen_cist v f row s.port)
    has_seen = ap is_some has_cist_seen.1

    -- what differs from its plan differs from the plan of the network
    pub are_differences : (bpdu : Bpdu) (found : List Difference) (plan : Planned) → sender_of net bpdu ≡ Some port → seen_planned v f s ≡ Some plan → found ≡ differences_of plan bpdu → AreDifferences net bpdu found
    are_differences bpdu found plan sender is_plan are = record {
      port = port;
      is_sender = sender;
      outcome = o;
      is_outcome = is.is_outcome;
      plan = plan;
      is_plan = sym plan_same ∙ is_plan;
      are = are;
    }
