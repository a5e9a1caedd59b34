use Rattle.std.proofs.Common.{subst}
use Rattle.std.proofs.lemmas.Result.{IfOk-weaker}
use Rattle.mst_tables.specs.Tables.{Net}
use Rattle.mst_forest.specs.Settled.{outcome_of}
use Rattle.mst_between.specs.Differing.{Differs}
use Rattle.mst_between.proofs.differing.put_difference.Goals as goal

pub returns : goal.returns
returns g c first before grew =
    let s = c.settled-before.result in
    let t = c.settled-after.result in
    IfOk-weaker c.put_diff.result _ _
    (λ counts said. (
      said.0,
      subst (λ (b : Net). Differs c.args.planner.now.contents.net b counts said.0) c.settled-after.ensures
          (subst (λ (a : Net). Differs a t.net counts said.0) c.settled-before.ensures
          (record { old = outcome_of s; is_old = c.known.ensures.is_outcome; new = outcome_of t; is_new = c.known-2.ensures.is_outcome; told = said.1 })),
      said.2,
    ))
    (c.put_diff.ensures first before grew)
