use Rattle.std.proofs.Common.{Err, ap, refl, inl}
use Rattle.mst_io.specs.Devices.{seen_by}
use Rattle.mst_drive.specs.Turned.{turning}
use Rattle.mst_drive.proofs.Words.{front_as, wrote_front}
use Rattle.mst_ask.proofs.Opened.{one_fault}
use Rattle.mst_ask.proofs.ScriptTold.{left_turned, longer_front, nothing_loaded, open_ended, open_front, open_starved, open_stopped, open_turned, opens, script_ways}
use Rattle.mst_ask.proofs.asking.open.Goals as goal

-- ---- no memory for it
pub returns-in-Err-clause-fault : goal.returns-in-Err-clause-fault
returns-in-Err-clause-fault g c =
    let ways = script_ways c.has_load.ensures.lines c.one_load.ensures.same c.one_load.ensures.full c.states.ensures.network in
    front_as _ _ _ _ (λ text h. inl h) (longer_front ways c.args.form _ _ _ (wrote_front _ _ _ (nothing_loaded ways c.args.form (g.S.Source.remaining c.args.source.now) (g.K.Sink.contents c.args.sink.now))))

pub returns-in-Err-clause-memory : goal.returns-in-Err-clause-memory
returns-in-Err-clause-memory g c is =
    let ways = script_ways c.has_load.ensures.lines c.one_load.ensures.same c.one_load.ensures.full c.states.ensures.network in
    nothing_loaded ways c.args.form (g.S.Source.remaining c.args.source.now) (g.K.Sink.contents c.args.sink.now)

pub returns-in-Err-clause-turned : goal.returns-in-Err-clause-turned
returns-in-Err-clause-turned g c =
    let source = turning (seen_by g.S.Source.told g.S.Source.remaining g.S.Source.lent) c.args.source.now c.read_script.new.source in
    left_turned c.args.turns source (seen_by g.K.Sink.told g.K.Sink.contents g.K.Sink.lent c.args.sink.now) c.in-Err.ensures.err c.read_script.ensures.calls c.read_script.ensures.lent c.requires.sink

-- ---- stopped in it
pub returns-in-Err-open_read-clause-fault : goal.returns-in-Err-open_read-clause-fault
returns-in-Err-open_read-clause-fault g c =
    let ways = script_ways c.has_load.ensures.lines c.one_load.ensures.same c.one_load.ensures.full c.states.ensures.network in
    open_front ways c.args.form c.args.turns _ _ _ _ c.in-Ok.script c.in-Ok.ensures.ok _ _ c.in-Err-open_read.fault c.in-Err-open_read.ensures.fault

pub returns-in-Err-open_read-clause-read : goal.returns-in-Err-open_read-clause-read
returns-in-Err-open_read-clause-read g c is =
    let ways = script_ways c.has_load.ensures.lines c.one_load.ensures.same c.one_load.ensures.full c.states.ensures.network in
    open_ended ways c.args.form c.args.turns _ _ _ _ c.in-Ok.script c.in-Ok.ensures.ok _ _ c.in-Err-open_read.fault (one_fault _ _ _ refl is) c.in-Err-open_read.ensures.fault

pub returns-in-Err-open_read-clause-memory : goal.returns-in-Err-open_read-clause-memory
returns-in-Err-open_read-clause-memory g c is =
    let ways = script_ways c.has_load.ensures.lines c.one_load.ensures.same c.one_load.ensures.full c.states.ensures.network in
    open_starved ways c.args.form c.args.turns _ _ _ _ c.in-Ok.script c.in-Ok.ensures.ok _ _ c.in-Err-open_read.fault (one_fault _ _ _ refl is) c.in-Err-open_read.ensures.fault

pub returns-in-Err-open_read-clause-turned : goal.returns-in-Err-open_read-clause-turned
returns-in-Err-open_read-clause-turned g c =
    let source = turning (seen_by g.S.Source.told g.S.Source.remaining g.S.Source.lent) c.args.source.now c.read_script.new.source in
    let sink = seen_by g.K.Sink.told g.K.Sink.contents g.K.Sink.lent c.args.sink.now in
    let sink_now = seen_by g.K.Sink.told g.K.Sink.contents g.K.Sink.lent c.open_read.new.sink in
    open_stopped c.args.form c.args.turns _ _ _ _ c.in-Ok.script source sink sink_now c.in-Ok.ensures.ok c.read_script.ensures.calls c.read_script.ensures.lent c.open_read.ensures.lent c.in-Err-open_read.fault c.in-Err-open_read.ensures.fault c.in-Err-open_read.ensures.leaves

-- ---- it was loaded
pub returns-in-Ok-open_read-clause-ok : goal.returns-in-Ok-open_read-clause-ok
returns-in-Ok-open_read-clause-ok g c =
    let ways = script_ways c.has_load.ensures.lines c.one_load.ensures.same c.one_load.ensures.full c.states.ensures.network in
    opens ways c.args.form c.args.turns _ _ _ _ c.in-Ok.script c.in-Ok.ensures.ok _ _ c.in-Ok-open_read.asking c.in-Ok-open_read.ensures.ok

pub returns-in-Ok-open_read-clause-turned : goal.returns-in-Ok-open_read-clause-turned
returns-in-Ok-open_read-clause-turned g c =
    let source = turning (seen_by g.S.Source.told g.S.Source.remaining g.S.Source.lent) c.args.source.now c.read_script.new.source in
    let sink = seen_by g.K.Sink.told g.K.Sink.contents g.K.Sink.lent c.args.sink.now in
    let sink_now = seen_by g.K.Sink.told g.K.Sink.contents g.K.Sink.lent c.open_read.new.sink in
    let contents = g.K.Sink.contents in
    open_turned c.args.form c.args.turns _ _ (contents c.args.sink.now) (contents c.open_read.new.sink) c.in-Ok.script source sink sink_now c.in-Ok.ensures.ok c.read_script.ensures.calls c.read_script.ensures.lent c.open_read.ensures.lent
    c.in-Ok-open_read.ensures.ok.0 c.in-Ok-open_read.ensures.leaves
