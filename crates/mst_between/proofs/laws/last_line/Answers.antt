use Rattle.mst_between.proofs.laws.last_line.Goals as goal

pub returns-clause-counted : goal.returns-clause-counted
returns-clause-counted g a b c rows x = g.last_line.ensures.counted a b x.old x.new c rows x.told

pub returns-clause-same : goal.returns-clause-same
returns-clause-same g a b c rows x = g.last_line.ensures.same a b x.old x.new c rows x.told
