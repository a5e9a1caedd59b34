use Rattle.mst_io.specs.Devices.{seen_by}
use Rattle.mst_ask.proofs.AskedBy.{answered_all, answered_ended, answered_few, answered_front, answered_loaded, answered_told, begins_counted}
use Rattle.mst_ask.proofs.questions.serve_questions.Goals as goal

pub drive-requires-clause-awaits : goal.drive-requires-clause-awaits
drive-requires-clause-awaits g c = record { kept = c.requires.kept; counted = begins_counted c.args.asking.now.outcome c.requires.begins }

pub returns-in-Err-clause-fault : goal.returns-in-Err-clause-fault
returns-in-Err-clause-fault g c = answered_front c.args.asking.now c.requires.begins _ (g.Q.Source.remaining c.drive.new.source) _ _ c.in-Err.ensures.fault

pub returns-in-Err-clause-read : goal.returns-in-Err-clause-read
returns-in-Err-clause-read g c is = answered_ended c.args.asking.now c.requires.begins _ _ _ _ (c.in-Err.ensures.read is)

pub returns-in-Ok-clause-ok : goal.returns-in-Ok-clause-ok
returns-in-Ok-clause-ok g c = answered_all c.args.asking.now c.requires.begins _ (g.Q.Source.remaining c.drive.new.source) _ _ c.drive.new.job c.in-Ok.ensures.ok

pub returns-in-Ok-clause-few : goal.returns-in-Ok-clause-few
returns-in-Ok-clause-few g c = answered_few c.args.asking.now c.requires.begins _ (g.Q.Source.remaining c.drive.new.source) _ _ c.drive.new.job c.in-Ok.ensures.ok

pub returns-in-Ok-clause-loaded : goal.returns-in-Ok-clause-loaded
returns-in-Ok-clause-loaded g c = answered_loaded c.args.asking.now c.requires.begins _ (g.Q.Source.remaining c.drive.new.source) _ _ c.drive.new.job c.in-Ok.ensures.ok

pub returns-in-Err-clause-heard : goal.returns-in-Err-clause-heard
returns-in-Err-clause-heard g c = answered_told g.Q.Source.hears g.Q.Source.remaining c.args.asking.now c.requires.begins (g.Q.Source.remaining c.args.questions.now) (seen_by g.K.Sink.told g.K.Sink.contents g.K.Sink.lent c.args.sink.now) c.args.questions.now c.drive.new.source c.drive.ensures.heard

pub returns-in-Ok-clause-heard : goal.returns-in-Ok-clause-heard
returns-in-Ok-clause-heard g c = answered_told g.Q.Source.hears g.Q.Source.remaining c.args.asking.now c.requires.begins (g.Q.Source.remaining c.args.questions.now) (seen_by g.K.Sink.told g.K.Sink.contents g.K.Sink.lent c.args.sink.now) c.args.questions.now c.drive.new.source c.drive.ensures.heard
