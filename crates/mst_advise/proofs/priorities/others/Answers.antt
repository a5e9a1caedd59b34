use Rattle.std.proofs.Common.{not, ap, ◌∙◌}
use Rattle.std.specs.List.{filter}
use Rattle.std.proofs.lemmas.Result.{IfOk-weaker}
use Rattle.mst_view.specs.Aggregation.{same_name}
use Rattle.mst_verify.specs.summary.declared.roots.Follower.{Follower}
use Rattle.mst_advise.proofs.priorities.others.Goals as goal

pub returns : goal.returns
returns c =
    IfOk-weaker c.all_but.result _ _ (λ those told. told ∙ ap (filter (λ (f : Follower). not (same_name f.name c.args.name.now))) (c.as_slice.ensures.value ∙ c.in_ok-followers.ensures)) c.all_but.ensures
