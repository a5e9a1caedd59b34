use Rattle.std.proofs.Common.{ℕ, Bool, ◌||◌, not, ap, ◌∙◌, ◌++◌}
use Rattle.std.specs.Prelude.{◌==◌}
use Rattle.mst_lang.specs.declared.line.Edit.TheVariants.{SetByTree}
use Rattle.mst_lang.specs.declared.line.TreeChange.TheVariants.{PortPriority}
use Rattle.mst_net.specs.tables.Contents.{port_priority_of}
use Rattle.mst_edits.specs.Edits.{port_priority_edits}
use Rattle.mst_edits.proofs.Listing.{one_given, all_given}
use Rattle.mst_edits.proofs.Quiet.{listed_are, same_priority}
use Rattle.mst_edits.proofs.ports.add_priorities.Goals as goal

pub loop-tree-preserved : goal.loop-tree-preserved
loop-tree-preserved g c =
    one_given (port_priority_edits (g.C.Contents.tables c.args.old.now).net (g.D.Contents.tables c.args.new.now).net c.args.stays c.args.name.now) c.as_slice-tree-items.result.now c.loop-tree.tree-index c.tree-item.result c.args.edits.now.items c.loop-tree.edits.items c.add_priority.new.edits.items c.loop-tree-test.true c.tree-item.is c.loop-tree.invariant c.in_ok-add_priority.ensures

pub returns : goal.returns
returns g c =
    let a = (g.C.Contents.tables c.args.old.now).net in
    let b = (g.D.Contents.tables c.args.new.now).net in
    let name = c.args.name.now in
    let p : ℕ → Bool = λ t. not (port_priority_of a name t == 8) in
    let q : ℕ → Bool = λ t. not (port_priority_of b name t == 8) in
    all_given (port_priority_edits (g.C.Contents.tables c.args.old.now).net (g.D.Contents.tables c.args.new.now).net c.args.stays c.args.name.now) c.as_slice-tree-items.result.now _ c.loop-tree.tree-index c.args.edits.now.items c.loop-tree.edits.items c.loop-tree-test.false c.loop-tree.invariant
    (c.as_slice-tree-items.ensures.value ∙ c.in_ok-trees.ensures p q (c.deref.ensures.value ∙ c.in_ok-own.ensures) (c.deref-2.ensures.value ∙ c.in_ok-others.ensures))
    ∙ ap (λ l. c.args.edits.now.items ++ l) (listed_are (λ t. p t || q t) (port_priority_edits (g.C.Contents.tables c.args.old.now).net (g.D.Contents.tables c.args.new.now).net c.args.stays c.args.name.now) (λ t. same_priority (port_priority_of a name t) (port_priority_of b name t) c.args.stays (SetByTree (PortPriority name t (port_priority_of b name t)))))
