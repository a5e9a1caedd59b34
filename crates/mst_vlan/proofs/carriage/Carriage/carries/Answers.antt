use Rattle.std.proofs.Common.{◌∙◌}
use Rattle.mst_vlan.specs.Kept.{link_at}
use Rattle.mst_vlan.proofs.Links.{is_link_at}
use Rattle.mst_vlan.proofs.carriage.Carriage.carries.Goals as goal

pub returns : goal.returns
returns c = c.is_link.ensures ∙ (λ i. link_at (c.row.ensures i) (c.vlans.ensures i) c.args.vid c.args.place) ∙ is_link_at c.args.self.now.view c.args.self.now.forest c.args.vid c.args.place
