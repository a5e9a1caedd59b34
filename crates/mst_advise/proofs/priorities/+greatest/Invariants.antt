use Rattle.mst_advise.proofs.priorities.+greatest.Given as goal

abbrev pub decreases-greatest : goal.decreases-greatest
decreases-greatest l = l.step
