use Rattle.std.proofs.Common.{◌≡◌, ◌<◌, ◌≤◌, length, sym, ◌∙◌, arith}
use Rattle.mst_view.specs.View.{port_names}
use Rattle.mst_vlan.proofs.forest_lemmas.NotInUse.{unused, unused_by}
use Rattle.mst_sweep.proofs.Moved.{few_ports, none_counted}
use Rattle.mst_sweep.proofs.Untouched.{had_listed}
use Rattle.mst_sweep.proofs.ports.moved_in_tree.Goals as goal

pub returns-then-not-is_had-clause-moved : goal.returns-then-not-is_had-clause-moved
returns-then-not-is_had-clause-moved c a b n k is are of so e =
    let tree = c.args.tree in
    let v = c.args.old.now.view.now in
    let x = unused_by v tree (sym (c.is_had.ensures v c.requires.used) ∙ c.if-not-is_had.true) in
    sym (none_counted a b is.outcome are.outcome tree x.other (unused a n v c.args.old.now.forest.now.regions of tree x.none) (port_names a))

pub returns-clause-few : goal.returns-clause-few
returns-clause-few c =
    let known = c.requires.known in
    let v = c.args.old.now.view.now in
    let few : c.moved_in.result ≤ length v.ports = c.moved_in.ensures.few in
    let all : length v.ports ≤ 16384 = few_ports known.net known.numbers v c.args.old.now.forest.now.regions known.of in
    omega arith

pub moved_in-requires-clause-tree : goal.moved_in-requires-clause-tree
moved_in-requires-clause-tree c =
    let v = c.args.old.now.view.now in
    let same : c.value-number.result ≡ c.args.tree = c.value-number.ensures.value in
    let within : c.value-number.result ≤ 4094 = c.value-number.ensures.small in
    let small : c.args.tree < 4095 = omega arith in
    had_listed v c.args.tree small (sym (c.is_had.ensures v c.requires.used) ∙ c.if-not-is_had.false)
