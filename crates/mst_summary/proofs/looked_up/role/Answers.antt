use Rattle.std.proofs.Common.{◌∙◌}
use Rattle.mst_vlan.proofs.forest_lemmas.SettledNet.{forest_of}
use Rattle.mst_vlan.specs.roles.SeenRoles.{seen_role}
use Rattle.mst_vlan.proofs.roles_lemmas.Named.{own_role}
use Rattle.mst_summary.proofs.looked_up.role.Goals as goal

pub returns : goal.returns
returns c =
    let s = c.args.plan.now in
    let is = c.known.ensures in
    c.port_role.ensures ∙ (λ i. seen_role (c.view.ensures i) (c.forest.ensures i) c.args.tree c.args.port.now)
    ∙ own_role s.net s.numbers s.view s.forest is.of (forest_of s is) c.args.tree c.args.port.now c.requires
