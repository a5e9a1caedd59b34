-- The two ends of an enabled port are a bridge that is on and a logical LAN that is up.
use Rattle.std.proofs.Common.{◌≡◌, ℕ, true, List, Option, Some, None, refl, sym, ap, subst, ◌∙◌}
use Rattle.std.specs.List.{Contains, filter}
use Rattle.std.specs.Option.{option_map}
use Rattle.std.specs.Ordering.{eq_by_cmp}
use Rattle.std.specs.FinMap as fin
use Rattle.std.specs.FinMap.{contains_key-keys}
use Rattle.std.proofs.lemmas.Bool.{and_parts}
use Rattle.mst_ids.specs.Names.{name_cmp}
use Rattle.mst_ids.specs.declared.name.PortName.{PortName}
use Rattle.mst_graph.proofs.Members.{in_map, from_map, in_filter, from_filter, passing}
use Rattle.mst_tables.specs.Tables.{Net, BridgeRow, PortRow, IsNetwork, port_eq}
use Rattle.mst_view.specs.Aggregation.{Plug, plug_of, plugs}
use Rattle.mst_view.specs.View.{LogicalPort, logical_lan, logical_port, as_port, is_on, is_up, view_ports}
use Rattle.mst_view.proofs.Names.{name_is, tied}
use Rattle.mst_roles.proofs.forest_lemmas.Entries.{entries_found}
use Rattle.mst_roles.proofs.forest_lemmas.Lists.{some_is, no_some, all_contained, kept_from}
use Rattle.mst_roles.proofs.forest_lemmas.Views.{ports_total, entry_there, row_on}
use Rattle.mst_vlan.specs.Reach.{bridges_on, lans_up}
use Rattle.mst_vlan.proofs.LogicalLans.{is_logical, up_there}

-- a plug has the LAN of its port's row
plug_lan : (e : PortName × PortRow) (p : Plug) → plug_of e ≡ Some p → e.1.lan ≡ Some p.lan
plug_lan e p h = go e.1.lan refl h
  where
    go : (o : Option (List ℕ)) → e.1.lan ≡ o → option_map (λ lan. record { port = e.0; lan = lan; settings = e.1.settings }) o ≡ Some p → e.1.lan ≡ Some p.lan
    go None f k = absurd (no_some p k)
    go (Some lan) f k = f ∙ ap Some (ap (λ (x : Plug). x.lan) (some_is (record { port = e.0; lan = lan; settings = e.1.settings }) p k))

module _ (net : Net) (ok : IsNetwork net) where
  lan_there : (lan : List ℕ) → fin.contains_key net.lans lan ≡ true → Contains (fin.keys net.lans) lan
  lan_there lan here =
      let found = passing (eq_by_cmp name_cmp lan) (fin.keys net.lans) (sym (contains_key-keys net.lans lan) ∙ here) in
      subst (Contains (fin.keys net.lans)) (sym (name_is lan found.0 (tied (name_cmp lan found.0) found.2))) found.1

  plug_lan_there : (q : Plug) → Contains (plugs net) q → Contains (fin.keys net.lans) q.lan
  plug_lan_there q h =
      let e = kept_from plug_of (fin.entries net.ports) q h in
      let found = all_contained (λ (e : PortName × PortRow). fin.get net.ports e.0 ≡ Some e.1) (fin.entries net.ports) e.0 (entries_found ports_total net.ports) e.1 in
      lan_there q.lan (ok.ports.has_lan e.0.0 e.0.1 q.lan found (plug_lan e.0 q e.2))

  bridge_on : (name : List ℕ) → is_on net name ≡ true → Contains (bridges_on net) name
  bridge_on name on =
      let x = row_on net name on in
      in_map (λ (e : List ℕ × BridgeRow). e.0) (filter (λ (e : List ℕ × BridgeRow). e.1.is_on) (fin.entries net.bridges)) (name, x.row)
      (in_filter (λ (e : List ℕ × BridgeRow). e.1.is_on) (fin.entries net.bridges) (name, x.row) (entry_there net name x.row x.is_row) x.is_power)

  pub enabled_ends : (p : LogicalPort) → Contains (view_ports net) p → p.is_enabled ≡ true → Contains (bridges_on net) p.name.bridge × Contains (lans_up net) p.lan
  enabled_ends p there enabled =
      let q = from_map (as_port net) (filter (λ p. port_eq (logical_port net p).port p.port) (plugs net)) p there in
      let plugged = from_filter (λ p. port_eq (logical_port net p).port p.port) (plugs net) q.0 q.1 in
      let both = and_parts (is_on net (q.0).port.bridge) (is_up net (logical_lan net (q.0).lan)) (ap (λ (x : LogicalPort). x.is_enabled) q.2 ∙ enabled) in (
        subst (λ (x : LogicalPort). Contains (bridges_on net) x.name.bridge) q.2 (bridge_on (q.0).port.bridge both.0),
        subst (λ (x : LogicalPort). Contains (lans_up net) x.lan) q.2
            (up_there net (logical_lan net (q.0).lan) (is_logical net (q.0).lan (plug_lan_there q.0 plugged.0)) both.1),
      )
