use Rattle.std.proofs.Common.{◌≡◌, ◌≤◌, length, sym, ap, ◌∙◌, arith}
use Rattle.std.specs.List.{count_by}
use Rattle.mst_view.specs.View.{port_names}
use Rattle.mst_plan.proofs.forest_lemmas.NotInUse.{unused, unused_by}
use Rattle.mst_sweep.proofs.Moved.{none_counted}
use Rattle.mst_sweeping.specs.Seen.{seen_both_ports, seen_moved}
use Rattle.mst_sweeping.proofs.PortsOfBoth.{few_of_both, moved_counted}
use Rattle.mst_sweeping.proofs.ports.moved_in_tree.Goals as goal

pub returns-then-not-is_had-clause-moved : goal.returns-then-not-is_had-clause-moved
returns-then-not-is_had-clause-moved c a b n k is are of so =
    let tree = c.args.tree in
    let v = c.args.old.now.view.now in
    let x = unused_by v tree (sym (c.is_had.ensures v c.requires.used) ∙ c.if-not-is_had.true) in
    sym (none_counted a b is.outcome are.outcome tree x.other (unused a n v c.args.old.now.forest.now.regions of tree x.none) (port_names a))

pub returns-clause-few : goal.returns-clause-few
returns-clause-few c =
    let known = c.requires.known in
    let v = c.args.old.now.view.now in
    let w = c.args.new.now.view.now in
    let few : c.moved_in.result ≤ length c.args.both.now = c.moved_in.ensures.few in
    let same : length c.args.both.now ≡ length (seen_both_ports v w) = ap length c.requires.both in
    let all : length (seen_both_ports v w) ≤ 16384 = few_of_both known.net known.numbers v c.args.old.now.forest.now known.of w in
    omega arith

pub returns-clause-moved : goal.returns-clause-moved
returns-clause-moved c a b n k is are of so =
    let v = c.args.old.now.view.now in
    let w = c.args.new.now.view.now in
    let f = c.args.old.now.forest.now in
    let g = c.args.new.now.forest.now in
    c.moved_in.ensures.moved ∙ ap (count_by (seen_moved v f w g c.args.tree)) c.requires.both ∙ moved_counted a b n k v w f g of so is are c.args.tree
