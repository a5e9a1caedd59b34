use Rattle.std.proofs.Common.{subst}
use Rattle.std.specs.Prelude.{IfOk}
use Rattle.mst_net.specs.tables.Contents.{Contents}
use Rattle.mst_questions.specs.Picturing.{Depicts}
use Rattle.mst_questions.proofs.asks.depicted.Goals as goal

pub returns-clause-picture : goal.returns-clause-picture
returns-clause-picture c = subst (λ (k : Contents). IfOk c.picture_of.result (λ text. Depicts k.net c.args.tree text.items)) c.settle.ensures.same c.picture_of.ensures
