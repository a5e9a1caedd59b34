use Rattle.std.proofs.Common.{List, map, ap, ◌∙◌}
use Rattle.std.proofs.lemmas.List.{take_all}
use Rattle.std.specs.List.{flat_map}
use Rattle.mst_diff.specs.Seen.{apart_group}
use Rattle.mst_diff.proofs.NamedSides.{apart_are}
use Rattle.mst_diff.proofs.sides.apart.Goals as goal

pub returns : goal.returns
returns c =
    let l = c.loop-group in
    let others = map (λ group. group.items) c.args.others.now in
    l.invariant ∙ ap (λ (groups : List _). flat_map (apart_group others) (map (λ group. group.items) groups)) (take_all l.group-index c.args.groups.now c.loop-group-test.false)
    ∙ apart_are others (map (λ group. group.items) c.args.groups.now)
