use Rattle.std.proofs.Common.{true≢false, sym, subst}
use Rattle.mst_config.specs.Shared.{AreRegions}
use Rattle.mst_plan.specs.Kept.{HasRegions, IsKept}
use Rattle.mst_plan.proofs.Keeping.{regions_last}
use Rattle.mst_plan.proofs.kept.KeptPlan.after.Goals as goal

pub after-plan-requires : goal.after-plan-requires
after-plan-requires c =
    let was = c.requires in
    record {
      old = was.old;
      network = was.network;
      numbered = was.numbered;
      made = was.made;
      view = (subst (IsKept was.old.net was.old.numbers) c.in-Settled.is was.stood).of.view;
    }

pub returns-in-Settled-clause-kept : goal.returns-in-Settled-clause-kept
returns-in-Settled-clause-kept c =
    let was = c.requires in
    let now = c.args.network.now in
    let outlast = c.regions_outlast-regions_stand.ensures in (
      λ stands. subst (AreRegions now.net now.numbers) (sym c.after-plan.ensures.regions)
          (subst (HasRegions now.net now.numbers) c.in-Settled.is
          (regions_last was.old.net now.net was.old.numbers now.numbers c.args.self was.stood (outlast.stood stands)
          (λ regions are. c.regions_stay.ensures.made c.args.edit.now was.old now regions (outlast.untouched stands) was.made are))),
      c.after-plan.ensures.stands,
    )

pub returns-in-Earlier-clause-kept : goal.returns-in-Earlier-clause-kept
returns-in-Earlier-clause-kept c =
    let was = c.requires in
    let now = c.args.network.now in
    let outlast = c.regions_outlast-regions_stand.ensures in (
      λ stands. subst (HasRegions now.net now.numbers) c.in-Earlier.is
          (regions_last was.old.net now.net was.old.numbers now.numbers c.args.self was.stood (outlast.stood stands)
          (λ regions are. c.regions_stay.ensures.made c.args.edit.now was.old now regions (outlast.untouched stands) was.made are)),
      λ stands. absurd (true≢false (sym stands)),
    )
