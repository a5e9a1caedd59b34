-- The bridges that a list has, as they are seen in a view.
use Rattle.std.proofs.Common.{◌≡◌, ◌&&◌, not, Bool, List, map, sym, ap, subst, ◌∙◌}
use Rattle.std.specs.List.{Contains, filter, list_any}
use Rattle.std.specs.FinMap as fin
use Rattle.mst_graph.proofs.Members.{from_filter, in_map}
use Rattle.mst_ids.specs.declared.name.PortName.{PortName}
use Rattle.mst_view.specs.View.{LogicalPort}
use Rattle.mst_view.specs.Viewed.{Viewed, IsView, named_port}
use Rattle.mst_view.specs.declared.in_view.BridgeInView.{BridgeInView}
use Rattle.mst_view.specs.declared.in_view.PortInView.{PortInView}
use Rattle.mst_view.proofs.Lists.{any_mapped}
use Rattle.mst_policy.specs.Items as policy
use Rattle.mst_policy.specs.declared.item.NameItem.{NameItem}
use Rattle.mst_policy.specs.declared.item.PortItem.{PortItem}
use Rattle.mst_tables.specs.Tables.{Net, Numbers, port_eq}
use Rattle.mst_roles.proofs.forest_lemmas.Lists.{all_there, filter_mapped}
use Rattle.mst_roles.proofs.forest_lemmas.Entries.{all_weaker}
use Rattle.mst_roles.proofs.forest_lemmas.Looking.{filter_alike}
use Rattle.mst_roles.proofs.forest_lemmas.Seen.{bridge_seen}
use Rattle.mst_reasons.specs.Seen.{names_in}
use Rattle.mst_judged.specs.Islands.{HaveNumbers}
use Rattle.mst_reasons.specs.sweep.declared.failure.Failure.{Failure}
use Rattle.mst_reasons.specs.Named.{is_enabled, is_named, is_port_named, named, ports_named, stopped}
use Rattle.mst_judged.specs.Seen.{IsBefore, seen_named, seen_ports_named, seen_stopped}
use Rattle.mst_judged.specs.declared.before.Before.{Before}
use Rattle.mst_reasons.proofs.NamedIn.{names_are}

module _ (net : Net) (numbers : Numbers) (v : Viewed) (view : IsView net numbers v) where
  pub name_there : (b : BridgeInView) → Contains v.bridges b → Contains (fin.keys net.bridges) b.name
  name_there b h = subst (λ names. Contains names b.name) (names_are net numbers v view) (in_map (λ (b : BridgeInView). b.name) v.bridges b h)

  pub named_seen : (lost : List Failure) (names : List NameItem) → names_in (seen_named v lost names) ≡ named net lost names
  named_seen lost names = sym (filter_mapped (is_named lost names) (λ (b : BridgeInView). b.name) v.bridges) ∙ ap (filter (is_named lost names)) (names_are net numbers v view)

  -- those that pass a test have their numbers
  pub have_numbers : (test : BridgeInView → Bool) → HaveNumbers numbers (filter test v.bridges)
  have_numbers test b h = (bridge_seen net numbers v view b (from_filter test v.bridges b h).0).has_number

  -- the enabled ports
  pub enabled_named : (port : PortName) → list_any (λ (p : PortInView). p.is_enabled && port_eq p.name port) v.ports ≡ is_enabled net port
  enabled_named port = sym (any_mapped (λ (p : LogicalPort). p.is_enabled && port_eq p.name port) named_port v.ports) ∙ ap (list_any (λ (p : LogicalPort). p.is_enabled && port_eq p.name port)) view.ports

  -- the enabled ports of the network before
  module _ (old : Net) (before : Before) (kept : IsBefore old before) where
    same_stopped : (p : PortInView) → seen_stopped before p ≡ stopped old (named_port p)
    same_stopped p = ap (λ b. not p.is_enabled && b) (kept p.name)

    pub ports_seen : (ports : List PortItem) → map named_port (seen_ports_named v before ports) ≡ ports_named net old ports
    ports_seen ports =
        ap (map named_port)
        (filter_alike (λ (p : PortInView). policy.has_port ports p.name && not (seen_stopped before p)) (λ (p : PortInView). is_port_named old ports (named_port p)) v.ports
        (all_weaker (Contains v.ports) _ (λ p h. ap (λ b. policy.has_port ports p.name && not b) (same_stopped p)) v.ports (all_there v.ports)))
        ∙ sym (filter_mapped (is_port_named old ports) named_port v.ports)
        ∙ ap (filter (is_port_named old ports)) view.ports
