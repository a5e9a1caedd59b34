-- VIDs of one class have the same active ports, members or not.
use Rattle.std.proofs.Common.{◌≡◌, ℕ, List, map, ap, ◌∙◌}
use Rattle.std.specs.List.{AllByRecursion}
use Rattle.mst_ids.specs.Vids.{has}
use Rattle.mst_graph.proofs.Splits.{kept_each}
use Rattle.mst_tables.specs.ByTree.{table_in, vlans_in}
use Rattle.mst_tables.specs.Table.{tree_in}
use Rattle.mst_tables.specs.Tables.{Net, Numbers}
use Rattle.mst_view.specs.Viewed.{Viewed}
use Rattle.mst_vlan.specs.forest.Agrees.{AreOf}
use Rattle.mst_vlan.specs.forest.Outcome.{Outcome}
use Rattle.mst_vlan.specs.forest.Forest.{Forest}
use Rattle.mst_vlan.specs.roles.Active.{active_ports}
use Rattle.mst_text.specs.VlanText.{active_port, ports_of_vid}
use Rattle.mst_text.proofs.vlan_lemmas.LinksAlike.{active_alike, member_alike}

module _ (net : Net) (numbers : Numbers) (v : Viewed) (f : Forest) (of : AreOf net numbers v f.regions) (o : Outcome) (x y : ℕ)
    (tables : AllByRecursion (λ b. tree_in (table_in v.settings.tables b.name) x ≡ tree_in (table_in v.settings.tables b.name) y) v.bridges)
    (vlans : AllByRecursion (λ p. has (vlans_in v.settings.vlans p.name) x ≡ has (vlans_in v.settings.vlans p.name) y) v.ports) where
  pub ports_alike : ports_of_vid net o x ≡ ports_of_vid net o y
  ports_alike =
      kept_each (active_port net x) (active_port net y) (active_ports net o x) (λ p h. ap (λ m. record { port = p.name; is_member = m }) (member_alike net numbers v f of o x y tables vlans p h))
      ∙ ap (map (active_port net y)) (active_alike net numbers v f of o x y tables vlans)
