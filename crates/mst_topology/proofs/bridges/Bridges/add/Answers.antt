use Rattle.std.proofs.Common.{◌≡◌, length, rules}
use Rattle.mst_topology.specs.Places.{in_map}
use Rattle.mst_topology.proofs.Places.{index_more}
use Rattle.mst_topology.proofs.bridges.Bridges.add.Goals as goal

pub invariant_of-self-2 : goal.invariant_of-self-2
invariant_of-self-2 g c =
    let place : c.len-place.result ≡ length c.self.inside.bridges.items = search rules in
    rw c.push_reserved.ensures.items (rw c.reserve.ensures.items (
    index_more (in_map c.self.inside.places) (in_map c.insert.new.self) c.self.inside.bridges.items c.self.invariant c.args.number c.args.bridge
    (rw (place, c.number.view_is) at c.in_ok-insert.ensures.ok)))
