use Rattle.mst_settle.proofs.known.KnownKeys.least.Goals as goal

pub returns-clause-none : goal.returns-clause-none
returns-clause-none g c = rw (← c.self.view_is) c.least.ensures.none
