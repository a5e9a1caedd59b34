use Rattle.mst_advise.proofs.port_priorities.+greatest_before.Given as goal

abbrev pub decreases-greatest_before : goal.decreases-greatest_before
decreases-greatest_before l = l.step
