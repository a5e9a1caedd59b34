use Rattle.std.proofs.Common.{ap, subst}
use Rattle.std.specs.HashSet.{contains}
use Rattle.std.proofs.lemmas.Result.{IfOk-weaker}
use Rattle.mst_net.specs.tables.Tables.{port_eq}
use Rattle.mst_sweeping.specs.StepText.{restart_rows, AreRepluggedIn}
use Rattle.mst_sweeping.specs.declared.step.Deed.{Deed}
use Rattle.mst_sweeping.proofs.step.restarting_in.Goals as goal

pub returns-in-Step : goal.returns-in-Step
returns-in-Step c = IfOk-weaker c.restarting.result _ _
    (λ names told a b n k is are of so over.
    ap (restart_rows c.args.deed.now) (told a b n k is are of so (subst (λ (deed : Deed). AreRepluggedIn deed a b (contains port_eq c.args.replugged.now)) c.in-Step.is over))) c.restarting.ensures
