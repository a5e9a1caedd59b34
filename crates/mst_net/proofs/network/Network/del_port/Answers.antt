use Rattle.std.proofs.Common.{sym, subst, refl}
use Rattle.mst_lang.specs.declared.line.Edit.TheVariants.{DelPort}
use Rattle.mst_tables.specs.Contents.{Contents, CanCommit, Makes}
use Rattle.mst_net.specs.NetworkKept.{contents_of}
use Rattle.mst_net.specs.declared.network.Network.TheInside.{Inside}
use Rattle.mst_net.proofs.EditLemmas.{present_port, port_counted_once, port_unmade, port_left_sound}
use Rattle.mst_tables.proofs.SettingsLemmas.{network_in_trees}
use Rattle.mst_net.proofs.network.Network.del_port.Goals as goal

pub remove-requires : goal.remove-requires
remove-requires c =
    let a = c.self.inside in
    present_port a a c.args.port.now (subst (CanCommit (DelPort c.args.port.now)) (sym c.self.view_is) c.requires)

pub lower-requires : goal.lower-requires
lower-requires c =
    let a = c.self.inside in
    port_counted_once a a c.args.port.now (subst (CanCommit (DelPort c.args.port.now)) (sym c.self.view_is) c.requires) c.self.invariant

pub forget_port-requires : goal.forget_port-requires
forget_port-requires c = network_in_trees (contents_of c.self.inside).net c.self.invariant.network

pub invariant_of-self : goal.invariant_of-self
invariant_of-self c =
    let a = c.self.inside in
    let b : Inside = record a { ports = c.remove.new.self; port_counts = c.lower.new.self; settings = c.forget_port.new.self } in
    port_left_sound a b c.args.port.now (subst (CanCommit (DelPort c.args.port.now)) (sym c.self.view_is) c.requires) c.self.invariant refl c.remove.ensures.rows c.forget_port.ensures
    c.remove.ensures.numbered c.lower.ensures

pub returns : goal.returns
returns c =
    let a = c.self.inside in
    let b : Inside = record a { ports = c.remove.new.self; port_counts = c.lower.new.self; settings = c.forget_port.new.self } in
    subst (λ (old : Contents). CanCommit (DelPort c.args.port.now) old → Makes (DelPort c.args.port.now) old (contents_of b)) c.self.view_is
    (λ can. port_unmade a b c.args.port.now can c.self.invariant refl c.remove.ensures.rows c.forget_port.ensures c.remove.ensures.numbers) c.requires
