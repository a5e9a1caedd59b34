use Rattle.std.proofs.Common.{◌≡◌, rules, sym, ap, subst, ◌∙◌}
use Rattle.mst_plan.specs.Kept.{standing_in}
use Rattle.mst_plan.specs.Standing.{KeepsBounds, Standing, msti_settlings, standing_of}
use Rattle.mst_plan.specs.declared.kept.KeptPlan.{KeptPlan}
use Rattle.mst_plan.specs.declared.kept.KeptPlan.TheVariants.{Earlier}
use Rattle.mst_plan.proofs.Keeping.{settled_trees}
use Rattle.mst_plan.proofs.kept.KeptPlan.settle.Goals as goal

pub returns-in_ok-regions-in-Earlier-default-default-true-clause-unused : goal.returns-in_ok-regions-in-Earlier-default-default-true-clause-unused
returns-in_ok-regions-in-Earlier-default-default-true-clause-unused c was tree none =
    let earlier = c.in-Earlier-default-default-true in
    let trees = c.in_ok-regions-in-Earlier-default-default-true in
    let is : c.replace-kept.result ≡ Earlier earlier.plan earlier.regions_stand earlier.view_stands = cc in
    subst (λ (s : Standing). msti_settlings s tree ≡ 0) (settled_trees c.replace-kept.result trees.regions trees.forest earlier.plan earlier.regions_stand earlier.view_stands is ∙ ap standing_in (sym c.settled_by.ensures))
    (trees.ensures.unused tree none)

pub returns-in_ok-plan-in_default-clause-bounds : goal.returns-in_ok-plan-in_default-clause-bounds
returns-in_ok-plan-in_default-clause-bounds c was =
    let same : c.in_default.self ≡ c.args.self.now = search rules in
    subst (λ (k : KeptPlan). KeepsBounds (standing_in k) (standing_of c.in_ok-plan-in_default.plan.forest)) same c.in_ok-plan-in_default.ensures.bounds
