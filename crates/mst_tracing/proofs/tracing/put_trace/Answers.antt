use Rattle.std.proofs.Common.{subst, refl, ◌++◌, append_assoc}
use Rattle.std.proofs.lemmas.Result.{IfOk-weaker}
use Rattle.mst_net.specs.tables.Tables.{Net}
use Rattle.mst_path.specs.PathRows.{path_rows}
use Rattle.mst_path.specs.Places.{named_path}
use Rattle.mst_roles.specs.forest.Settled.{outcome_of}
use Rattle.mst_tracing.specs.Fates.{HasPathIn}
use Rattle.mst_tracing.proofs.tracing.put_trace.Goals as goal

pub returns : goal.returns
returns g c first before grew =
    let s = c.settled-plan.result in
    let t = c.args.asked.now.trace in
    let path = named_path c.in_ok-found.found in
    let own = path_rows t path in
    IfOk-weaker c.put_after_failures.result _ _
    (λ is_broken said. (
      own ++ said.0,
      record {
        path = path;
        has_path = subst (λ (net : Net). HasPathIn net t path) c.settled-plan.ensures (record { outcome = outcome_of s; is_outcome = c.known.ensures.is_outcome; is_path = c.in_ok-found.ensures });
        behind = said.0;
        told = said.1;
        are = refl;
      },
      subst (g.R.Rows.grew first c.put_after_failures.new.out) (append_assoc before own said.0) (said.2 first (before ++ own) (c.in_ok-put_path.ensures first before grew)),
    ))
    c.put_after_failures.ensures
