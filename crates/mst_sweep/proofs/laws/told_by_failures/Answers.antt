use Rattle.std.proofs.Common.{◌∷◌, refl, ap, ◌∙◌, List}
use Rattle.std.specs.List.{flat_map}
use Rattle.mst_rows.specs.Rows.{Row}
use Rattle.mst_sweep.specs.Cuts.{group_rows, runs_of}
use Rattle.mst_sweep.specs.Failures.{failed}
use Rattle.mst_sweep.specs.Moved.{moved_roots, moved_ports}
use Rattle.mst_sweep.specs.SweepText.{Told, event_row}
use Rattle.mst_sweep.specs.declared.cuts.CutBy.TheVariants as by
use Rattle.mst_sweep.proofs.laws.told_by_failures.Goals as goal

pub returns : goal.returns
returns c net o event other told x =
    let b = failed event.failures net in
    let roots = moved_roots net o b x.outcome in
    let ports = moved_ports net o b x.outcome in
    let cuts = x.is.are_cuts in
    let cut : List Row = flat_map (group_rows (by.One other) cuts.parts) cuts.groups in
    let also : Told = record { rows = event_row other roots ports (runs_of x.is.vids) ∷ cut; cuts = told.cuts } in (
      also,
      record {
        outcome = x.outcome;
        is_outcome = x.is_outcome;
        is = record {
          vids = x.is.vids;
          cut = cut;
          are_cuts = record { parts = cuts.parts; are_parts = cuts.are_parts; groups = cuts.groups; are_groups = cuts.are_groups; cut = cuts.cut; are = refl };
          some = x.is.some;
          are = refl;
        };
      },
      record {
        roots = roots;
        ports = ports;
        cut = runs_of x.is.vids;
        parts = cuts.parts;
        groups = cuts.groups;
        is = x.is.are ∙ ap (λ rows. event_row event.cause roots ports (runs_of x.is.vids) ∷ rows) cuts.are;
        is_also = refl;
        both_cut = refl;
      },
    )
