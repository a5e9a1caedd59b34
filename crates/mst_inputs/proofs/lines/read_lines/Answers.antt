use Rattle.std.proofs.Common.{refl, sym, subst}
use Rattle.mst_io.specs.Devices.{seen_by}
use Rattle.mst_inputs.specs.Lines.{AreTaken}
use Rattle.mst_inputs.proofs.LinesTaken.{all_taken, begun, none_told, unwritten, unwritten_front}
use Rattle.mst_inputs.proofs.lines.read_lines.Goals as goal

pub returns-in-Err-clause-unwritten : goal.returns-in-Err-clause-unwritten
returns-in-Err-clause-unwritten g c =
    let old = begun c.args.alloc c.args.lines in
    unwritten_front g.L.TakesLines.with_lines old c.drive.new.job (g.S.Source.remaining c.args.source.now) _ _ c.in-Err.ensures.fault

pub returns-in-Ok-clause-unwritten : goal.returns-in-Ok-clause-unwritten
returns-in-Ok-clause-unwritten g c =
    let old = begun c.args.alloc c.args.lines in
    unwritten g.L.TakesLines.with_lines old c.drive.new.job (g.S.Source.remaining c.args.source.now) _ _ c.in-Ok.ensures.ok

pub returns-in-Ok-clause-ok : goal.returns-in-Ok-clause-ok
returns-in-Ok-clause-ok g c =
    let old = begun c.args.alloc c.args.lines in
    subst (AreTaken g.L.TakesLines.with_lines c.args.lines (g.S.Source.remaining c.args.source.now)) (sym c.lines_of.ensures)
    (all_taken g.L.TakesLines.with_lines old c.drive.new.job (g.S.Source.remaining c.args.source.now) _ _ refl c.in-Ok.ensures.ok)

pub returns-in-Err-clause-heard : goal.returns-in-Err-clause-heard
returns-in-Err-clause-heard g c = none_told g.S.Source.hears g.S.Source.remaining g.L.TakesLines.with_lines (begun c.args.alloc c.args.lines) (g.S.Source.remaining c.args.source.now) (seen_by g.K.Sink.told g.K.Sink.contents g.K.Sink.lent c.args.sink.now) c.args.source.now c.drive.new.source c.drive.ensures.heard

pub returns-in-Ok-clause-heard : goal.returns-in-Ok-clause-heard
returns-in-Ok-clause-heard g c = none_told g.S.Source.hears g.S.Source.remaining g.L.TakesLines.with_lines (begun c.args.alloc c.args.lines) (g.S.Source.remaining c.args.source.now) (seen_by g.K.Sink.told g.K.Sink.contents g.K.Sink.lent c.args.sink.now) c.args.source.now c.drive.new.source c.drive.ensures.heard
