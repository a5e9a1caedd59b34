use Rattle.mst_trees.proofs.settling.next_mstis.Goals as goal

pub repaired_mstis-requires : goal.repaired_mstis-requires
repaired_mstis-requires c = record { known = c.requires.known; own = c.requires.own; held = c.mstis_wired.ensures.held; nothing = c.new-nothing.ensures; to = c.requires.wiring }

pub returns-clause-settled : goal.returns-clause-settled
returns-clause-settled c = rw (← c.mstis_wired.ensures.outcomes) c.repaired_mstis.ensures.settled
