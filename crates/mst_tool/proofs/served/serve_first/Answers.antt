use Rattle.std.proofs.Common.{subst}
use Rattle.mst_drive.specs.Words.{Wrote, WroteFront}
use Rattle.mst_engine.specs.Engine.{tally_of}
use Rattle.mst_engine.specs.Served.{Served, ServedEnded, Serves}
use Rattle.mst_engine.specs.report.State.{State}
use Rattle.mst_io.specs.Devices.{seen_by}
use Rattle.mst_tool.proofs.Faults.{err_of, fault_of}
use Rattle.mst_tool.proofs.HasTold.{script_told}
use Rattle.mst_tool.proofs.served.serve_first.Goals as goal

pub returns-in-Err-clause-fault : goal.returns-in-Err-clause-fault
returns-in-Err-clause-fault g c = subst (λ (from : State). WroteFront (g.K.Sink.contents c.args.sink.now) (g.K.Sink.contents c.serve_input.new.sink) (Serves c.args.input from (g.S.Source.remaining c.args.source.now))) c.new.ensures.empty c.in-Err.ensures.fault

pub returns-in-Err-clause-read : goal.returns-in-Err-clause-read
returns-in-Err-clause-read g c is =
    subst (λ (from : State). Wrote (g.K.Sink.contents c.args.sink.now) (g.K.Sink.contents c.serve_input.new.sink) (ServedEnded c.args.input from (g.S.Source.remaining c.args.source.now) (g.S.Source.remaining c.serve_input.new.source))) c.new.ensures.empty (c.in-Err.ensures.read (err_of (fault_of is)))

pub returns-in-Ok-clause-ok : goal.returns-in-Ok-clause-ok
returns-in-Ok-clause-ok g c =
    subst (λ (from : State). Wrote (g.K.Sink.contents c.args.sink.now) (g.K.Sink.contents c.serve_input.new.sink) (λ text. Served c.args.input from (g.S.Source.remaining c.args.source.now) text (tally_of c.serve_input.new.serving.engine))) c.new.ensures.empty c.in-Ok.ensures.ok

-- ---- what has gone out before each call of the source
pub returns-in-Err-clause-heard : goal.returns-in-Err-clause-heard
returns-in-Err-clause-heard g c =
    script_told g.S.Source.hears g.S.Source.remaining (seen_by g.K.Sink.told g.K.Sink.contents g.K.Sink.lent c.args.sink.now) c.one_run.ensures.same c.one_load.ensures.same c.args.input c.requires.script _ c.new.ensures.empty (g.S.Source.remaining c.args.source.now) c.args.source.now c.serve_input.new.source c.serve_input.ensures.heard

pub returns-in-Ok-clause-heard : goal.returns-in-Ok-clause-heard
returns-in-Ok-clause-heard g c =
    script_told g.S.Source.hears g.S.Source.remaining (seen_by g.K.Sink.told g.K.Sink.contents g.K.Sink.lent c.args.sink.now) c.one_run.ensures.same c.one_load.ensures.same c.args.input c.requires.script _ c.new.ensures.empty (g.S.Source.remaining c.args.source.now) c.args.source.now c.serve_input.new.source c.serve_input.ensures.heard
