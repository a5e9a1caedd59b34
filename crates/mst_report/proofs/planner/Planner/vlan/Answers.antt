use Rattle.std.proofs.lemmas.Result.{on_ok_weaker}
use Rattle.mst_plan_text.specs.text.VlanText.{AreVlanRows}
use Rattle.mst_report.proofs.Told.{tells}
use Rattle.mst_report.proofs.planner.Planner.vlan.Goals as goal

pub returns : goal.returns
returns g c first before grew =
    on_ok_weaker c.put_vlan.result
    (λ said. (said.0, tells c.args.self.now.contents.net c.settled-plan.result c.settled-plan.ensures c.known.ensures (λ net o. AreVlanRows net o c.args.vid) said.0 said.1, said.2))
    (c.put_vlan.ensures first before grew)
