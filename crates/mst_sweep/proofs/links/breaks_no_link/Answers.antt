use Rattle.std.proofs.Common.{get_or, arith, below_more}
use Rattle.mst_sweep.specs.Touched.{BreaksNoLink}
use Rattle.mst_sweep.proofs.Untouched.{of_listed}
use Rattle.mst_sweep.proofs.links.breaks_no_link.Goals as goal

pub returns : goal.returns
returns c e place listed =
    of_listed (BreaksNoLink c.args.old.now.view.now c.args.old.now.forest.now c.args.new.now.view.now c.args.new.now.forest.now c.args.vid) c.args.places.now c.loop-place.place-index (omega arith)
    c.loop-place.invariant place listed

pub loop-place-preserved : goal.loop-place-preserved
loop-place-preserved c =
    below_more (λ k. BreaksNoLink c.args.old.now.view.now c.args.old.now.forest.now c.args.new.now.view.now c.args.new.now.forest.now c.args.vid (get_or c.args.places.now k 0))
    c.loop-place.place-index c.loop-place.invariant (c.breaks_at.ensures c.if-breaks_at.false)
