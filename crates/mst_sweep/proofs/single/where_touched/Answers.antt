use Rattle.std.proofs.Common.{sym, subst, ◌∙◌}
use Rattle.std.proofs.lemmas.Result.{IfOk-weaker}
use Rattle.mst_sweep.specs.Touched.{ArePlaces}
use Rattle.mst_sweep.proofs.Unlinked.{where_touched}
use Rattle.mst_sweep.proofs.single.where_touched.Goals as goal

pub returns : goal.returns
returns c = IfOk-weaker c.places_of.result _ _
    (λ places are.
    let flags = c.in_ok-flags.flags in
    where_touched c.args.old.now.view.now c.args.new.now.view.now c.args.old.now.forest.now c.args.new.now.forest.now flags.items places.items (sym flags.ok.0 ∙ c.in_ok-flags.ensures.as_long)
    c.in_ok-flags.ensures.touched (subst (λ flags. ArePlaces flags places.items) c.as_slice.ensures.value are)) c.places_of.ensures
