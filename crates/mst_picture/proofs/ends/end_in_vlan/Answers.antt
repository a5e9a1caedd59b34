use Rattle.std.proofs.Common.{◌≡◌, false, ap, ◌∙◌}
use Rattle.std.specs.Prelude.{◌&&◌}
use Rattle.std.specs.Option.{option_map_or}
use Rattle.mst_ids.specs.Vids.{has}
use Rattle.mst_view.specs.Viewed.{named_port}
use Rattle.mst_tables.specs.ByTree.{vlans_in}
use Rattle.mst_roles.specs.Roles.{forwards, role_in, tree_of_vid}
use Rattle.mst_roles.specs.SeenRoles.{seen_tree}
use Rattle.mst_roles.specs.forest.Settled.{outcome_of}
use Rattle.mst_picture.proofs.IslandsNamed.{port_tree_named}
use Rattle.mst_picture.proofs.ends.end_in_vlan.Goals as goal

pub returns : goal.returns
returns c =
    let s = c.args.plan.now in
    let p = c.args.port.now in
    let vid = c.args.vid in
    let tree : c.vid_tree.result ≡ tree_of_vid s.net p.name.bridge vid = c.vid_tree.ensures ∙ ap (λ v. seen_tree v p.bridge vid) c.view.ensures ∙ port_tree_named s c.known.ensures vid p c.requires in
    let role = c.role_of-role.ensures ∙ ap (λ tree. role_in s.net (outcome_of s) tree (named_port p)) tree in
    let is_open = c.carries.ensures ∙ (λ i. option_map_or forwards (role i) false && has (vlans_in (c.known.ensures.of.view.settings i).vlans p.name) vid) in
    λ i. record { port = p.name; role = role i; is_open = is_open i }
