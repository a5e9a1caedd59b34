use Rattle.mst_io.specs.Devices.{seen_by}
use Rattle.mst_engine.proofs.ServedBy.{served, served_ended, served_few, served_front, told_served_on}
use Rattle.mst_engine.proofs.serving.serve_input.Goals as goal

pub returns-in-Err-clause-fault : goal.returns-in-Err-clause-fault
returns-in-Err-clause-fault g c = served_front c.args.serving.now c.requires.begins _ (g.S.Source.remaining c.drive.new.source) _ _ c.in-Err.ensures.fault

pub returns-in-Err-clause-read : goal.returns-in-Err-clause-read
returns-in-Err-clause-read g c is = served_ended c.args.serving.now c.requires.begins _ _ _ _ (c.in-Err.ensures.read is)

pub returns-in-Ok-clause-ok : goal.returns-in-Ok-clause-ok
returns-in-Ok-clause-ok g c = served c.args.serving.now c.requires.begins _ (g.S.Source.remaining c.drive.new.source) _ _ c.drive.new.job c.in-Ok.ensures.ok

pub returns-in-Ok-clause-few : goal.returns-in-Ok-clause-few
returns-in-Ok-clause-few g c = served_few c.args.serving.now c.requires.begins _ (g.S.Source.remaining c.drive.new.source) _ _ c.drive.new.job c.in-Ok.ensures.ok

-- ---- what has gone out before each call of the source
pub returns-in-Err-clause-heard : goal.returns-in-Err-clause-heard
returns-in-Err-clause-heard g c = told_served_on g.S.Source.hears g.S.Source.remaining c.args.serving.now c.requires.begins (g.S.Source.remaining c.args.source.now) (seen_by g.K.Sink.told g.K.Sink.contents g.K.Sink.lent c.args.sink.now) c.args.source.now c.drive.new.source c.drive.ensures.heard

pub returns-in-Ok-clause-heard : goal.returns-in-Ok-clause-heard
returns-in-Ok-clause-heard g c = told_served_on g.S.Source.hears g.S.Source.remaining c.args.serving.now c.requires.begins (g.S.Source.remaining c.args.source.now) (seen_by g.K.Sink.told g.K.Sink.contents g.K.Sink.lent c.args.sink.now) c.args.source.now c.drive.new.source c.drive.ensures.heard
