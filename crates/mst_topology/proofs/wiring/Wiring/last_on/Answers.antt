use Rattle.std.proofs.Common.{rules, ◌≡◌}
use Rattle.mst_topology.specs.Places.{option_at}
use Rattle.mst_topology.proofs.wiring.Wiring.last_on.Goals as goal

pub returns : goal.returns
returns g c =
    let value : c.flatten.result ≡ option_at c.self.inside.last_on c.args.lan = search rules in
    rw value (rw (← c.self.view_is) (c.self.invariant.chains.on c.args.lan))
