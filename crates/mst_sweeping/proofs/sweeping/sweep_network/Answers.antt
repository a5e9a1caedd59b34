use Rattle.std.proofs.Common.{◌∷◌, [], ◌++◌, List, ap, ◌∙◌}
use Rattle.mst_sweep.specs.declared.failure.Failure.{Failure}
use Rattle.mst_sweep.specs.Failures.{alone, failures}
use Rattle.mst_sweep.specs.SweepParts.{part_of}
use Rattle.mst_sweep.specs.SweepText.{IsTold, Told, sweep_row}
use Rattle.mst_sweeping.proofs.Swept.{put_then, swept, told_made}
use Rattle.mst_sweeping.proofs.sweeping.sweep_network.Goals as goal

pub returns : goal.returns
returns g c =
    let net = c.args.network.now.net in
    let is = c.requires.forest in
    let cuts = c.in_ok-cuts.cuts in
    let part = c.args.part in
    let fs = c.of-failures.result.now in
    let told = c.in_ok-cuts.ensures is in
    let alone_told = λ (failure : Failure) (told : Told). IsTold net is.outcome (alone failure) told in
    let all_are = c.as_slice.ensures.value ∙ c.in_ok-all.ensures net c.args.network.now.numbers c.requires.of.view in
    let fs_are = c.of-failures.ensures ∙ ap (λ (fs : List Failure). part_of part fs) all_are in (
      told.0 ++ sweep_row fs cuts ∷ [],
      record { outcome = is.outcome; is_outcome = is.is_outcome; told = swept alone_told sweep_row fs (part_of part (failures net)) fs_are cuts told.0 (told_made (IsTold net is.outcome) alone fs cuts told.0 told.1) },
      put_then g.R.Rows.grew c.args.out.now c.sweep_failures.new.out c.put_last.new.out told.0 (sweep_row fs cuts ∷ []) told.2 (λ first before h. c.in_ok-put_last.ensures first before h),
    )
