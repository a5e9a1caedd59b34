use Rattle.std.proofs.Common.{◌++◌, sym, ap, ◌∙◌}
use Rattle.std.proofs.lemmas.List.{nil_from_length}
use Rattle.mst_trees.proofs.Adding.{moved, none_left, new_bridge}
use Rattle.mst_trees.proofs.building.bridges_of.Goals as goal

pub add-requires : goal.add-requires
add-requires g c =
    new_bridge c.loop-number.bridges c.next.new.self.rest.items c.args.list.items c.in-Some.number c.in-Some.bridge c.requires
    (ap (λ r. c.loop-number.bridges ++ r) (sym c.in-Some.ensures.steps.0) ∙ c.loop-number.invariant)

pub loop-number-preserved : goal.loop-number-preserved
loop-number-preserved g c =
    ap (λ w. w ++ c.next.new.self.rest.items) c.in_ok-add.ensures.ok
    ∙ moved c.loop-number.bridges c.next.new.self.rest.items c.args.list.items (c.in-Some.number, c.in-Some.bridge)
    (ap (λ r. c.loop-number.bridges ++ r) (sym c.in-Some.ensures.steps.0) ∙ c.loop-number.invariant)

pub returns : goal.returns
returns g c =
    none_left c.loop-number.bridges c.loop-number.number-iterator.rest.items c.args.list.items
    (nil_from_length c.loop-number.number-iterator.rest.items (sym c.loop-number.number-iterator.rest.ok.0 ∙ c.in-None.ensures.steps.0)) c.loop-number.invariant
