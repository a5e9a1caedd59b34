use Rattle.std.proofs.Common.{subst}
use Rattle.std.specs.Prelude.{IfOk}
use Rattle.mst_net.specs.tables.Contents.{Contents}
use Rattle.mst_questions.specs.Picturing.{DepictsVlan}
use Rattle.mst_questions.proofs.asks.depicted_vlan.Goals as goal

pub returns-clause-picture : goal.returns-clause-picture
returns-clause-picture c = subst (λ (k : Contents). IfOk c.vlan_picture_of.result (λ text. DepictsVlan k.net c.args.vid text.items)) c.settle.ensures.same c.vlan_picture_of.ensures
