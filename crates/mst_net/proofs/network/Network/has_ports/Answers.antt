use Rattle.std.proofs.Common.{ap, ◌∙◌}
use Rattle.std.specs.Prelude.{nat_lt}
use Rattle.mst_tables.specs.After.{some_port, is_of_bridge}
use Rattle.mst_net.specs.NetworkKept.{contents_of}
use Rattle.mst_tables.proofs.Counting.{any_counted}
use Rattle.mst_tables.proofs.Keys.{ports}
use Rattle.mst_net.proofs.network.Network.has_ports.Goals as goal

pub returns : goal.returns
returns c =
    let bridge = c.args.bridge.now in
    c.has.ensures ∙ ap (nat_lt 0) (c.self.invariant.port_counts bridge) ∙ any_counted ports (is_of_bridge bridge) (contents_of c.self.inside).net.ports ∙ ap (λ n. some_port (is_of_bridge bridge) n.net) c.self.view_is
