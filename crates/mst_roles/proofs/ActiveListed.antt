-- The active ports of a VID under numbers are those under names.
use Rattle.std.proofs.Common.{◌≡◌, ℕ, map, filter, Some, sym, ap, ◌∙◌}
use Rattle.std.specs.List.{Contains}
use Rattle.std.specs.FinMap as fin
use Rattle.mst_graph.proofs.Members.{from_filter}
use Rattle.mst_graph.proofs.Splits.{kept_each, map_of_map}
use Rattle.mst_tables.specs.Tables.{Net, Numbers}
use Rattle.mst_view.specs.View.{LogicalPort}
use Rattle.mst_view.specs.Viewed.{Viewed, named_port}
use Rattle.mst_view.specs.declared.in_view.PortInView.{PortInView}
use Rattle.mst_forest.specs.Agrees.{AreOf}
use Rattle.mst_forest.specs.Forest.{IsForest, Forest}
use Rattle.mst_forest.proofs.Entries.{all_weaker}
use Rattle.mst_forest.proofs.Lists.{filter_mapped}
use Rattle.mst_forest.proofs.Looking.{filter_alike}
use Rattle.mst_forest.proofs.Seen.{SeenPort, ports_seen, port_seen}
use Rattle.mst_roles.specs.Roles.{forwards_for}
use Rattle.mst_roles.specs.SeenRoles.{seen_forwards}
use Rattle.mst_roles.proofs.Forwarded.{each_forwards}
use Rattle.mst_roles.specs.Active.{active_ports}
use Rattle.mst_roles.specs.SeenActive.{seen_active}

module _ (net : Net) (numbers : Numbers) (v : Viewed) (f : Forest) (of : AreOf net numbers v f.regions) where
  module _ (is : IsForest net numbers f) (vid : ℕ) where
    pub active_listed : active_ports net is.outcome vid ≡ map named_port (seen_active v f vid)
    active_listed =
        ap (filter (forwards_for net is.outcome vid)) (sym of.view.ports) ∙ filter_mapped (forwards_for net is.outcome vid) named_port v.ports
        ∙ ap (map named_port) (filter_alike (λ p. forwards_for net is.outcome vid (named_port p)) (seen_forwards v f vid) v.ports
        (all_weaker (SeenPort net numbers) _ (λ p seen. sym (each_forwards net numbers v f of is vid p seen)) v.ports (ports_seen net numbers v of.view)))

    pub active_seen : (p : PortInView) → Contains (seen_active v f vid) p → SeenPort net numbers p
    active_seen p h = port_seen net numbers v of.view p (from_filter (seen_forwards v f vid) v.ports p h).0

    pub active_numbers : map Some (map (λ (p : PortInView). p.number) (seen_active v f vid)) ≡ map (λ p. fin.get numbers.ports p.name) (active_ports net is.outcome vid)
    active_numbers =
        map_of_map Some (λ (p : PortInView). p.number) (seen_active v f vid)
        ∙ kept_each (λ (p : PortInView). Some p.number) (λ p. fin.get numbers.ports p.name) (seen_active v f vid) (λ p h. sym (active_seen p h).has_numbers.port)
        ∙ sym (map_of_map (λ (p : LogicalPort). fin.get numbers.ports p.name) named_port (seen_active v f vid))
        ∙ ap (map (λ (p : LogicalPort). fin.get numbers.ports p.name)) (sym active_listed)
