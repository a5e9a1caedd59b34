use Rattle.std.proofs.Common.{◌≡◌, ◌∙◌, Some, cond, ap, sym, subst, refl}
use Rattle.std.specs.Map.{lookup}
use Rattle.mst_ids.specs.declared.name.PortName.{PortName}
use Rattle.mst_lang.specs.declared.line.Edit.TheVariants.{AddPort}
use Rattle.mst_tables.specs.After.{new_port}
use Rattle.mst_tables.specs.Contents.{Contents, CanCommit, Makes}
use Rattle.mst_net.specs.NetworkKept.{contents_of}
use Rattle.mst_net.specs.declared.network.Network.TheInside.{Inside}
use Rattle.mst_tables.specs.Tables.{PortRow, port_eq}
use Rattle.mst_net.proofs.EditLemmas.{absent_port, port_made, port_sound, few_of_bridge}
use Rattle.mst_net.proofs.network.Network.add_port.Goals as goal

pub add-requires-clause-absent : goal.add-requires-clause-absent
add-requires-clause-absent c =
    let a = c.self.inside in
    absent_port a a c.args.port (subst (CanCommit (AddPort c.args.port)) (sym c.self.view_is) c.requires)

pub raise-requires-clause-few : goal.raise-requires-clause-few
raise-requires-clause-few c = few_of_bridge c.self.inside c.self.invariant c.args.port.bridge

pub invariant_of-self : goal.invariant_of-self
invariant_of-self c =
    let a = c.self.inside in
    let b : Inside = record a { ports = c.add.new.self; port_counts = c.raise.new.self } in
    let rows : (q : PortName) → lookup (port_eq q) b.ports.rows ≡ cond (port_eq c.args.port q) (Some new_port) (lookup (port_eq q) a.ports.rows) =
    λ q. c.add.ensures.rows q ∙ ap (λ (r : PortRow). cond (port_eq c.args.port q) (Some r) (lookup (port_eq q) a.ports.rows)) c.new.ensures in
    port_sound a b c.args.port (subst (CanCommit (AddPort c.args.port)) (sym c.self.view_is) c.requires) refl rows c.self.invariant c.add.ensures.numbered c.raise.ensures

pub returns : goal.returns
returns c =
    let a = c.self.inside in
    let b : Inside = record a { ports = c.add.new.self; port_counts = c.raise.new.self } in
    let rows : (q : PortName) → lookup (port_eq q) b.ports.rows ≡ cond (port_eq c.args.port q) (Some new_port) (lookup (port_eq q) a.ports.rows) =
    λ q. c.add.ensures.rows q ∙ ap (λ (r : PortRow). cond (port_eq c.args.port q) (Some r) (lookup (port_eq q) a.ports.rows)) c.new.ensures in
    subst (λ (old : Contents). CanCommit (AddPort c.args.port) old → Makes (AddPort c.args.port) old (contents_of b)) c.self.view_is
    (λ can. port_made a b c.args.port can refl rows c.add.ensures.numbers) c.requires
