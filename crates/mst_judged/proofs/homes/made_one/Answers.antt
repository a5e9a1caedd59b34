use Rattle.std.proofs.Common.{◌≡◌, ◌+◌, ap, subst, arith, rules}
use Rattle.std.proofs.lemmas.Grind.{common_steps}
use Rattle.std.proofs.lemmas.Result.{IfOk-weaker}
use Rattle.mst_reasons.specs.sweep.vlan.Carried.{ViewWithTrees}
use Rattle.mst_roles.specs.forest.Settled.{outcome_of}
use Rattle.mst_reasons.specs.sweep.Baseline.{AreHomes}
use Rattle.mst_judged.proofs.HomesMade.{homes_told}
use Rattle.mst_judged.proofs.homes.made_one.Goals as goal

pub returns : goal.returns
returns c =
    let from : ViewWithTrees = c.args.carriage.now in
    let vid : c.unwrap-vid.result ≡ c.args.place + 1 = first_of (grind (arith, common_steps), search (rules, common_steps)) in
    IfOk-weaker c.homes_by.result _ _
    (λ homes told s is of. subst (λ vid. AreHomes s.net s.numbers (outcome_of s) vid homes.entries) vid
    (homes_told s is from.view from.forest (ap (λ (t : ViewWithTrees). t.view) of) (ap (λ (t : ViewWithTrees). t.forest) of) c.unwrap-vid.result homes.entries told))
    c.homes_by.ensures
