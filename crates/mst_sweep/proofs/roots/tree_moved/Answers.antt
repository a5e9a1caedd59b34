use Rattle.std.proofs.Common.{sym, ap, ◌∙◌}
use Rattle.std.specs.List.{list_any}
use Rattle.mst_vlan.proofs.forest_lemmas.NotInUse.{unused, unused_by}
use Rattle.mst_sweep.specs.Seen.{seen_root_moved}
use Rattle.mst_sweep.proofs.Moved.{any_moved, none_moved}
use Rattle.mst_sweep.proofs.roots.tree_moved.Goals as goal

pub returns-then-not-is_had : goal.returns-then-not-is_had
returns-then-not-is_had c a b n k is are of so =
    let tree = c.args.tree in
    let v = c.args.old.now.view.now in
    let x = unused_by v tree (sym (c.is_had.ensures v c.requires.used) ∙ c.if-not-is_had.true) in
    sym (none_moved a b is.outcome are.outcome tree x.other (unused a n v c.args.old.now.forest.now.regions of tree x.none))

pub returns : goal.returns
returns c a b n k is are of so =
    let tree = c.args.tree in
    let v = c.args.old.now.view.now in
    let f = c.args.old.now.forest.now in
    let w = c.args.new.now.view.now in
    let g = c.args.new.now.forest.now in
    c.any_moved.ensures ∙ ap (list_any (seen_root_moved v f w g tree)) c.requires.both ∙ any_moved a b n k v w f g of so is are tree
