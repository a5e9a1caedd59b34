use Rattle.std.proofs.Common.{◌≡◌, List, map, sym, ap, ◌∙◌}
use Rattle.mst_tables.specs.ByTree.{vlans_in}
use Rattle.mst_view.specs.declared.in_view.PortInView.{PortInView}
use Rattle.mst_roles.specs.SeenRoles.{seen_forwards}
use Rattle.mst_vlan.specs.Seen.{seen_link}
use Rattle.mst_vlan.proofs.Links.{one_more, no_more}
use Rattle.mst_vlan.proofs.carriage.Carriage.links.Goals as goal
use Rattle.mst_vlan.proofs.carriage.Carriage.links.Goals.{then-is_link+in_ok-push, else-is_link}

pub loop-place-preserved : goal.loop-place-preserved
loop-place-preserved c =
    let s = c.args.self.now in
    let ports : List PortInView = c.ports-ports.result.now in
    let ports_are : ports ≡ s.view.ports = c.ports-ports.ensures ∙ ap (λ v. v.ports) c.view.ensures in
    let rows : c.row-row.result.now ≡ map (seen_forwards s.view s.forest c.args.vid) ports = c.row-row.ensures ∙ ap (map (seen_forwards s.view s.forest c.args.vid)) (sym ports_are) in
    let vlans : c.vlans-vlans.result.now ≡ map (λ p. vlans_in s.view.settings.vlans p.name) ports = c.vlans-vlans.ensures ∙ ap (map (λ p. vlans_in s.view.settings.vlans p.name)) (sym ports_are) in
    elim c.if-is_link.branch [
      | then-is_link+in_ok-push w ↦
          one_more s.view s.forest c.args.vid seen_link ports c.row-row.result.now c.vlans-vlans.result.now rows vlans c.loop-place.place c.index-ports-place.result c.loop-place-test.true c.index-ports-place.is
          c.loop-place.links.items c.loop-place.invariant c.if-is_link.links.items (ap (λ r. r.items) w.links-is ∙ w.in_ok-push.ensures.items) (sym c.is_link.ensures ∙ w.if-is_link.true)
      | else-is_link w ↦
          ap (λ r. r.items) w.links-is
          ∙ no_more s.view s.forest c.args.vid seen_link ports c.row-row.result.now c.vlans-vlans.result.now rows vlans c.loop-place.place c.index-ports-place.result c.loop-place-test.true c.index-ports-place.is
          c.loop-place.links.items c.loop-place.invariant (sym c.is_link.ensures ∙ w.if-is_link.false)
    ]
