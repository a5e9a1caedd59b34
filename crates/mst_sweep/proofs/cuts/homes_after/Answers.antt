use Rattle.std.proofs.Common.{ap}
use Rattle.std.specs.Option.{option_copied}
use Rattle.std.proofs.lemmas.Result.{IfOk-weaker}
use Rattle.mst_sweep.proofs.HomesOf.{homes_of_plan}
use Rattle.mst_sweep.proofs.cuts.homes_after.Goals as goal

pub returns-in-Some : goal.returns-in-Some
returns-in-Some c = IfOk-weaker c.homes_by.result _ _
    (λ homes told. homes_of_plan c.args.vid homes.entries c.args.new.now c.in-Some.carriage.now
    (c.requires.carriage c.in-Some.carriage.now (ap option_copied c.in-Some.is)) told)
    c.homes_by.ensures
