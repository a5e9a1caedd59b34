use Rattle.std.proofs.Common.{◌∙◌}
use Rattle.mst_forest.proofs.Seen.{port_seen}
use Rattle.mst_forest.proofs.SettledNet.{forest_of}
use Rattle.mst_roles.specs.SeenRoles.{seen_role}
use Rattle.mst_roles.proofs.Named.{each_same}
use Rattle.mst_roles.proofs.settled_role.role_of.Goals as goal

pub returns : goal.returns
returns c =
    let s = c.args.plan.now in
    let p = c.args.port.now in
    let of = c.known.ensures.of in
    c.port_role.ensures ∙ (λ i. seen_role (c.view.ensures i) (c.forest.ensures i) c.args.tree p)
    ∙ each_same s.net s.numbers s.view s.forest of (forest_of s c.known.ensures) c.args.tree p (port_seen s.net s.numbers s.view of.view p c.requires)
