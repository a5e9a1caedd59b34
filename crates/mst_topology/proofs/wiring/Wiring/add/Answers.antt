use Rattle.std.proofs.Common.{◌≡◌, ◌∙◌, [], ◌∷◌, ◌++◌, ap, length, None, Some, rules}
use Rattle.mst_topology.specs.Places.{in_map, option_at, MakesRoom}
use Rattle.mst_topology.specs.Settling.{IsPut}
use Rattle.mst_topology.proofs.Places.{room_leaves, write_puts}
use Rattle.mst_topology.proofs.Chains.{chained_same, chained_more, port_index_more}
use Rattle.mst_topology.proofs.wiring.Wiring.add.Goals as goal

pub invariant_of-self-2 : goal.invariant_of-self-2
invariant_of-self-2 g c =
    let old = c.self.invariant in
    let ports = c.self.inside.ports.items in
    let number : c.number.inside.0 ≡ c.args.port.number = c.number.view_is ∙ ap (λ q. q.number) c.port.view_is in
    let bridge : c.bridge.inside.0 ≡ c.args.port.bridge = c.bridge.view_is ∙ ap (λ q. q.bridge) c.port.view_is in
    let lan : c.lan.inside.0 ≡ c.args.port.lan = c.lan.view_is ∙ ap (λ q. q.lan) c.port.view_is in
    let place : c.len-place.result ≡ length c.self.inside.ports.items = search rules in
    let room_on : MakesRoom c.self.inside.last_on c.make_room.new.self c.args.port.lan None = rw lan at c.in_ok-make_room.ensures.ok in
    let room_of : MakesRoom c.self.inside.last_of c.make_room-2.new.self c.args.port.bridge None = rw bridge at c.in_ok-make_room-2.ensures.ok in
    let puts : IsPut (in_map c.self.inside.places) c.args.port.number (length ports) (in_map c.insert.new.self) = rw (place, number) at c.in_ok-insert.ensures.ok in
    let on_lan : c.flatten.result ≡ option_at c.make_room.new.self c.args.port.lan = search rules in
    let of_bridge : c.flatten-2.result ≡ option_at c.make_room-2.new.self c.args.port.bridge = search rules in
    let put_on : IsPut (in_map c.make_room.new.self) c.args.port.lan (Some (length ports)) (in_map c.write_at.new.self) = rw (place, lan) at c.write_at.ensures.put in
    let put_of : IsPut (in_map c.make_room-2.new.self) c.args.port.bridge (Some (length ports)) (in_map c.write_at-2.new.self) = rw (place, bridge) at c.write_at-2.ensures.put in
    let more_ports : c.push_reserved-2.new.self.items ≡ ports ++ c.args.port ∷ [] = search rules in
    let more_links : c.push_reserved.new.self.items ≡ c.self.inside.links.items ++ (record { on_lan = option_at c.make_room.new.self c.args.port.lan; of_bridge = option_at c.make_room-2.new.self c.args.port.bridge }) ∷ [] = search rules in
    let before = chained_same ports (option_at c.self.inside.last_on) (option_at c.make_room.new.self) (option_at c.self.inside.last_of) (option_at c.make_room-2.new.self) c.self.inside.links.items
    (room_leaves c.self.inside.last_on c.make_room.new.self c.args.port.lan room_on) (room_leaves c.self.inside.last_of c.make_room-2.new.self c.args.port.bridge room_of) old.chains in
    rw (more_ports, more_links) (record {
      by_number = port_index_more ports c.args.port (in_map c.self.inside.places) (in_map c.insert.new.self) old.by_number (rw (← c.self.view_is) at c.requires) puts;
      chains = chained_more ports c.args.port (option_at c.make_room.new.self) (option_at c.write_at.new.self) (option_at c.make_room-2.new.self) (option_at c.write_at-2.new.self) c.self.inside.links.items before
          (write_puts c.make_room.new.self c.write_at.new.self c.args.port.lan (length ports) put_on) (write_puts c.make_room-2.new.self c.write_at-2.new.self c.args.port.bridge (length ports) put_of);
    })
