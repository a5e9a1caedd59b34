use Rattle.std.proofs.Common.{false, ap, ◌∙◌}
use Rattle.std.specs.Option.{option_map_or}
use Rattle.mst_roles.specs.Roles.{forwards}
use Rattle.mst_picture.proofs.ends.end_in_tree.Goals as goal

pub returns : goal.returns
returns c = λ i. record { port = c.args.port.now.name; role = c.role-role.ensures i; is_open = (c.forwards.ensures ∙ ap (λ role. option_map_or forwards role false) c.role-role.ensures) i }
