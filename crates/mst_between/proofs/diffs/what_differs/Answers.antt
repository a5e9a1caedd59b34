use Rattle.std.proofs.Common.{◌≡◌, sym, subst}
use Rattle.std.specs.Prelude.{IfOk}
use Rattle.mst_between.specs.Diff.{CountsOf, TellsDifference, differs_by}
use Rattle.mst_between.specs.declared.diffs.Between.{Between}
use Rattle.mst_between.proofs.diffs.what_differs.Goals as goal

pub returns-in-Plans : goal.returns-in-Plans
returns-in-Plans c =
    subst (λ (between : Between). IfOk c.planned_apart.result (λ found. (counts : CountsOf between) × (found.differs ≡ differs_by between counts) × TellsDifference between c.args.form c.args.old.now.contents.net c.args.new.now.contents.net counts found.text.items))
    (sym c.in-Plans.is) c.planned_apart.ensures

pub returns-in-Settings : goal.returns-in-Settings
returns-in-Settings c =
    subst (λ (between : Between). IfOk c.set_apart.result (λ found. (counts : CountsOf between) × (found.differs ≡ differs_by between counts) × TellsDifference between c.args.form c.args.old.now.contents.net c.args.new.now.contents.net counts found.text.items))
    (sym c.in-Settings.is) c.set_apart.ensures
