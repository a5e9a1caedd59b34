use Rattle.std.proofs.Common.{rules, ◌≡◌, ◌∙◌, is_some}
use Rattle.mst_topology.specs.Places.{in_map}
use Rattle.mst_topology.proofs.Places.{index_has}
use Rattle.mst_topology.proofs.bridges.Bridges.has.Goals as goal

pub returns : goal.returns
returns g c =
    let value : c.has.result ≡ is_some (in_map c.self.inside.places c.args.number) = search rules in
    value ∙ rw (← c.self.view_is) (index_has (in_map c.self.inside.places) c.self.inside.bridges.items c.self.invariant c.args.number)
