use Rattle.std.proofs.Common.{sym}
use Rattle.std.proofs.lemmas.Result.{IfOk-weaker}
use Rattle.mst_verify.specs.tree_judges.judged.reasons.Named.{nothing_before}
use Rattle.mst_advise.proofs.holding.reasons_alone.Goals as goal

pub returns : goal.returns
returns c = IfOk-weaker c.reasons.result _ _ (λ reasons told first kept. told first nothing_before kept (tt, sym c.requires.leaving)) c.reasons.ensures
