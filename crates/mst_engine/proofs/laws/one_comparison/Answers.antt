use Rattle.mst_engine.specs.Captures.{ServesCapture}
use Rattle.mst_engine.proofs.OneComparison.{one_comparison}
use Rattle.mst_engine.proofs.Steps.{none_alike}
use Rattle.mst_engine.proofs.laws.one_comparison.Goals as goal

pub returns-clause-same : goal.returns-clause-same
returns-clause-same c form = one_comparison c.one_list.ensures form

pub returns-clause-full : goal.returns-clause-full
returns-clause-full c form number now lines a b is runs others given too =
    one_comparison c.one_list.ensures form number now lines a b is runs others (none_alike (ServesCapture form) (ServesCapture form) number number now now lines a b runs others given too)
