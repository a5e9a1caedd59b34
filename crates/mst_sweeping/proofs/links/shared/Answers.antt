use Rattle.std.proofs.Common.{◌∙◌}
use Rattle.std.specs.HashSet.{contains}
use Rattle.std.proofs.lemmas.Result.{IfOk-weaker}
use Rattle.mst_view.specs.Aggregation.{same_name}
use Rattle.mst_sweeping.proofs.Users.{shared_by}
use Rattle.mst_sweeping.proofs.links.shared.Goals as goal

pub returns : goal.returns
returns c = IfOk-weaker c.on_lans.result _ _
    (λ kept told. told ∙ shared_by c.args.links.now c.in_ok-users.users.entries c.in_ok-users.ensures (contains same_name c.in_ok-lans.lans) c.in_ok-lans.ensures) c.on_lans.ensures
