use Rattle.std.proofs.lemmas.Result.{IfOk-weaker}
use Rattle.mst_path.specs.Places.{named_path}
use Rattle.mst_tracing.proofs.always.put_failed.Goals as goal

pub returns-clause-told : goal.returns-clause-told
returns-clause-told g c = IfOk-weaker c.put_fate.result _ _
    (λ fate said. (said.0, record { path = named_path c.in_ok-after.after; has_path = c.in_ok-after.ensures.path; told = said.1 }, said.2))
    c.put_fate.ensures
