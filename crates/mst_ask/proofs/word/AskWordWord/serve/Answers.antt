use Rattle.mst_io.specs.Devices.{seen_by}
use Rattle.mst_drive.specs.Turned.{turning}
use Rattle.mst_ask.proofs.Stand.{sources_read, sources_unread}
use Rattle.mst_ask.proofs.word.AskWordWord.serve.Goals as goal

pub returns-clause-read : goal.returns-clause-read
returns-clause-read g c ok =
    let script = turning (seen_by g.F.Source.told g.F.Source.remaining g.F.Source.lent) c.args.first.now c.ask_within.new.script in
    let policy = turning (seen_by g.T.Source.told g.T.Source.remaining g.T.Source.lent) c.args.third.now c.ask_within.new.policy in
    let questions = turning (seen_by g.S.Source.told g.S.Source.remaining g.S.Source.lent) c.args.second.now c.ask_within.new.questions in
    sources_read c.args.turns script policy questions _ _ c.ask_within.result c.ask_within.ensures.turned ok

pub returns-clause-cut : goal.returns-clause-cut
returns-clause-cut g c is =
    let script = turning (seen_by g.F.Source.told g.F.Source.remaining g.F.Source.lent) c.args.first.now c.ask_within.new.script in
    let policy = turning (seen_by g.T.Source.told g.T.Source.remaining g.T.Source.lent) c.args.third.now c.ask_within.new.policy in
    let questions = turning (seen_by g.S.Source.told g.S.Source.remaining g.S.Source.lent) c.args.second.now c.ask_within.new.questions in
    sources_unread c.args.turns script policy questions _ _ c.ask_within.result c.ask_within.ensures.turned is

pub returns-clause-lent : goal.returns-clause-lent
returns-clause-lent g c = c.ask_within.ensures.turned.lent_sink
