use Rattle.std.proofs.Common.{refl, subst}
use Rattle.mst_bpdu.specs.Differences.{differences_of}
use Rattle.mst_compare.proofs.Sending.{is_enabled_port}
use Rattle.mst_compare.proofs.Planning.{HasCist, has_cist, has_plan}
use Rattle.mst_compare.proofs.laws.has_list.Goals as goal

pub returns : goal.returns
returns c net bpdu port ok sent =
    let o = c.has_outcome.ensures net ok in
    let p = is_enabled_port net bpdu port sent in
    let plan = has_plan net o.0 port (subst (HasCist net o.0) p.is_name (has_cist net o.0 o.1 p.logical p.there p.enabled)) in
    (differences_of plan.0 bpdu, record { port = port; is_sender = sent; outcome = o.0; is_outcome = o.1; plan = plan.0; is_plan = plan.1; are = refl })
