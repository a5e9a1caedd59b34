use Rattle.std.proofs.Common.{◌++◌, sym, ap, ◌∙◌}
use Rattle.std.proofs.lemmas.List.{nil_from_length}
use Rattle.mst_trees.proofs.Adding.{moved, none_left, new_port}
use Rattle.mst_trees.proofs.building.wiring_of.Goals as goal

pub add-requires : goal.add-requires
add-requires g c =
    new_port c.loop-port.wiring c.next.new.self.rest.items c.args.ports.items c.in-Some.port c.requires
    (ap (λ r. c.loop-port.wiring ++ r) (sym c.in-Some.ensures.steps.0) ∙ c.loop-port.invariant)

pub loop-port-preserved : goal.loop-port-preserved
loop-port-preserved g c =
    ap (λ w. w ++ c.next.new.self.rest.items) c.in_ok-add.ensures.ok
    ∙ moved c.loop-port.wiring c.next.new.self.rest.items c.args.ports.items c.in-Some.port
    (ap (λ r. c.loop-port.wiring ++ r) (sym c.in-Some.ensures.steps.0) ∙ c.loop-port.invariant)

pub returns : goal.returns
returns g c =
    none_left c.loop-port.wiring c.loop-port.port-iterator.rest.items c.args.ports.items
    (nil_from_length c.loop-port.port-iterator.rest.items (sym c.loop-port.port-iterator.rest.ok.0 ∙ c.in-None.ensures.steps.0)) c.loop-port.invariant
