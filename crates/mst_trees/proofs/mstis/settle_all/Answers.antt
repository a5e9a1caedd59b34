use Rattle.std.proofs.Common.{sym, subst, ap, ◌∙◌}
use Rattle.mst_forest.specs.InUse.{seen_mstis}
use Rattle.mst_trees.specs.Ground.{Ground, rewiring_of}
use Rattle.mst_trees.specs.Internal.{KnownInternal}
use Rattle.mst_trees.specs.Wirings.{msti_wires}
use Rattle.mst_trees.specs.Mstis.{AreSettled, MoreSettled}
use Rattle.mst_trees.proofs.Gathering.{none_settled, all_in_use}
use Rattle.mst_trees.proofs.Spaced.{same_both}
use Rattle.mst_trees.proofs.mstis.settle_all.Goals as goal

pub settle_trees-requires : goal.settle_trees-requires
settle_trees-requires c = record {
  held = c.requires;
  space = same_both (rewiring_of c.args.ground.now) c.ground.inside.rewiring.now c.in_ok-settler.settler (sym (c.ground.invariant.to ∙ ap (λ (g : Ground). msti_wires g.internal) c.ground.view_is)) c.in_ok-settler.ensures (sym (ap (λ (g : Ground). g.from) c.ground.view_is));
  settled = subst (AreSettled c.args.ground.now c.args.former.now.entries) (sym c.new-mstis.ensures.empty) (none_settled c.args.ground.now c.args.former.now.entries);
}

pub returns : goal.returns
returns c =
    let g = c.args.ground.now in
    let former = c.args.former.now.entries in
    all_in_use g former (subst (λ (x : Ground). KnownInternal x.view x.internal) c.ground.view_is c.ground.invariant.known) c.new-mstis.result.entries c.settle_trees.new.mstis.entries c.new-mstis.ensures.empty
    (subst (λ trees. MoreSettled g former trees c.new-mstis.result.entries c.settle_trees.new.mstis.entries) (c.as_slice.ensures.value ∙ c.in_ok-trees.ensures ∙ ap (λ (x : Ground). seen_mstis x.view) c.ground.view_is) c.in_ok-settle_trees.ensures.settled)
