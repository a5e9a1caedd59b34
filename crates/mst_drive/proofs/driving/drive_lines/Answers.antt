use Rattle.std.proofs.Common.{◌≡◌, ◌++◌, [], Result, Err, Some, arith, take, refl, sym, ap, subst, ◌∙◌}
use Rattle.std.proofs.KnownBytes.{Consumes-nil, Appends-nil, Appends-trans, Consumes-trans}
use Rattle.mst_io.proofs.Calls.{broken_after, stops_after, works_on, works_both}
use Rattle.mst_io.specs.Devices.{seen_by}
use Rattle.mst_io.proofs.Chains.{Hears-none, Hears-more}
use Rattle.mst_io.proofs.Known.{Appends-kept}
use Rattle.mst_io.proofs.ReadBytes.{few_more, Consumes-kept, Consumes-none}
use Rattle.mst_io.specs.declared.outcome.RunFault.{RunFault}
use Rattle.mst_io.specs.declared.outcome.RunFault.TheVariants.{Memory, Read}
use Rattle.mst_drive.specs.Feeding.{Feeds}
use Rattle.mst_drive.proofs.Feeds.{Breaks-after, Feeds-join, Feeds-nil}
use Rattle.mst_drive.proofs.Drives.{driven_on, works_sent, read_end, halts_end, stops_left, no_read, lacks_of, all_told, few_lines, cut, cut_lines, broken, broken_last, broken_end, starved_end, driven}
use Rattle.mst_drive.proofs.driving.drive_lines.Goals as goal

one_fault : {T : Type 0} (r : Result T RunFault) (a b : RunFault) → r ≡ Err a → r ≡ Err b → a ≡ b
one_fault r a b p q = cc

pub turns-init : goal.turns-init
turns-init g c =
    let tells = g.J.Job.tells in
    record {
      awaits = c.requires.awaits;
      read = [];
      text = [];
      consumed = Consumes-nil _;
      feeds = subst (Feeds tells c.args.job.now 1 [] [] [] c.args.job.now 1) (sym c.new-held.ensures) (Feeds-nil tells c.args.job.now 1 []);
      reading = record { working = c.requires.source; taken = refl; each = omega arith };
      calls = omega arith;
      works = record { working = c.requires.sink; taken = refl; each = omega arith };
      heard = Hears-none g.S.Source.hears _ c.args.source.now;
      lent_source = refl;
      lent_sink = refl;
      written = Appends-nil _;
      few = omega arith;
    }

pub turns-preserved : goal.turns-preserved
turns-preserved g c =
    let tells = g.J.Job.tells in
    let was = c.turns.invariant in
    let new = c.in-Ok-feed.ensures.ok in
    let chunk = take c.in-Ok-fill.count c.fill.new.buffer in
    record {
      awaits = c.feed.ensures.awaits;
      read = was.read ++ chunk;
      text = was.text ++ new.0;
      consumed = Consumes-trans _ _ _ was.read chunk was.consumed c.in-Ok-fill.ensures.bytes.0;
      feeds = Feeds-join tells c.args.job.now c.turns.job c.feed.new.job 1 c.turns.number c.feed.new.number [] c.turns.held c.feed.new.held was.read chunk was.text new.0 was.feeds new.1;
      reading = works_on _ _ _ c.in-Ok-fill.count _ was.reading c.in-Ok-fill.ensures.told c.if-count-eq0.false;
      calls = ap (λ t. t.calls) c.in-Ok-fill.ensures.told ∙ omega (arith, was.calls);
      works = works_both _ _ _ (works_sent _ _ _ was.works c.in-Ok.ensures.told) c.in-Ok-feed.ensures.works;
      heard = Hears-more g.S.Source.hears _ c.args.source.now c.turns.source c.fill.new.self chunk _ was.heard (driven_on g.J.Job.tells g.J.Job.ends c.args.job.now (g.S.Source.remaining c.args.source.now) g.S.Source.remaining (seen_by g.K.Sink.told g.K.Sink.contents g.K.Sink.lent c.args.sink.now) c.turns.source (seen_by g.K.Sink.told g.K.Sink.contents g.K.Sink.lent c.flush.new.self)
          (g.K.Sink.told c.turns.sink) (g.K.Sink.contents c.turns.sink) was.text c.turns.job c.turns.number was.read c.turns.held c.goes_on.ensures.nothing was.consumed was.feeds was.written was.works c.in-Ok.ensures.told c.in-Ok.ensures.bytes (c.in-Ok.ensures.lent ∙ was.lent_sink)) c.in-Ok-fill.ensures.heard;
      lent_source = c.in-Ok-fill.ensures.lent ∙ was.lent_source;
      lent_sink = c.feed.ensures.lent ∙ c.in-Ok.ensures.lent ∙ was.lent_sink;
      written = Appends-trans _ _ _ was.text new.0 (Appends-kept _ _ _ _ was.written c.in-Ok.ensures.bytes) new.2;
      few = few_more was.read c.fill.new.buffer c.in-Ok-fill.count c.turns.turn was.few c.in-Ok-fill.ensures.bound.0 (omega arith);
    }

-- ---- the source, or the sink as it sends on
pub returns-clause-fault : goal.returns-clause-fault
returns-clause-fault g c =
    let was = c.turns.invariant in
    cut g.J.Job.tells g.J.Job.ends c.args.job.now _ _ _ _ was.text c.turns.job c.turns.number was.read c.turns.held c.goes_on-2.ensures.some was.consumed was.feeds was.written

pub returns-clause-read : goal.returns-clause-read
returns-clause-read g c is =
    let was = c.turns.invariant in
    cut_lines g.J.Job.tells g.J.Job.ends c.args.job.now _ _ _ _ was.text c.turns.job c.turns.number was.read c.turns.held c.goes_on-2.ensures.nothing was.consumed was.feeds was.written

pub returns-in-Err-clause-fault : goal.returns-in-Err-clause-fault
returns-in-Err-clause-fault g c =
    let was = c.turns.invariant in
    cut g.J.Job.tells g.J.Job.ends c.args.job.now _ _ _ _ was.text c.turns.job c.turns.number was.read c.turns.held c.goes_on.ensures.some was.consumed was.feeds (Appends-kept _ _ _ _ was.written c.in-Err.ensures.bytes)

pub returns-in-Err-fill-clause-fault : goal.returns-in-Err-fill-clause-fault
returns-in-Err-fill-clause-fault g c =
    let was = c.turns.invariant in
    cut g.J.Job.tells g.J.Job.ends c.args.job.now _ _ _ _ was.text c.turns.job c.turns.number was.read c.turns.held c.goes_on.ensures.some was.consumed was.feeds (Appends-kept _ _ _ _ was.written c.in-Ok.ensures.bytes)

pub returns-in-Err-fill-clause-read : goal.returns-in-Err-fill-clause-read
returns-in-Err-fill-clause-read g c is =
    let was = c.turns.invariant in
    cut_lines g.J.Job.tells g.J.Job.ends c.args.job.now _ _ _ _ was.text c.turns.job c.turns.number was.read c.turns.held c.goes_on.ensures.nothing
    (Consumes-kept _ _ _ was.read was.consumed c.in-Err-fill.ensures.bytes) was.feeds (Appends-kept _ _ _ _ was.written c.in-Ok.ensures.bytes)

-- ---- a line
pub returns-in-Err-feed-clause-fault : goal.returns-in-Err-feed-clause-fault
returns-in-Err-feed-clause-fault g c =
    let tells = g.J.Job.tells in
    let was = c.turns.invariant in
    let chunk = take c.in-Ok-fill.count c.fill.new.buffer in
    broken tells g.J.Job.ends c.args.job.now _ _ _ _ (was.read ++ chunk) (Consumes-trans _ _ _ was.read chunk was.consumed c.in-Ok-fill.ensures.bytes.0)
    (Breaks-after tells _ _ _ c.args.job.now c.turns.job 1 c.turns.number [] c.turns.held was.read chunk was.text was.feeds (Appends-kept _ _ _ _ was.written c.in-Ok.ensures.bytes) c.in-Err-feed.ensures.err)

pub returns-in-Err-feed-clause-halts : goal.returns-in-Err-feed-clause-halts
returns-in-Err-feed-clause-halts g c = broken_after (g.K.Sink.told c.args.sink.now) (g.K.Sink.told c.flush.new.self) (g.K.Sink.told c.feed.new.sink) (works_sent _ _ _ c.turns.invariant.works c.in-Ok.ensures.told) c.in-Err-feed.ensures.broken.broken

pub returns-in-Err-feed-clause-sink_calls : goal.returns-in-Err-feed-clause-sink_calls
returns-in-Err-feed-clause-sink_calls g c = stops_after _ _ _ (works_sent _ _ _ c.turns.invariant.works c.in-Ok.ensures.told) c.in-Err-feed.ensures.broken.calls

-- ---- the last line
pub returns-in-Err-finish-clause-fault : goal.returns-in-Err-finish-clause-fault
returns-in-Err-finish-clause-fault g c =
    let was = c.turns.invariant in
    broken_last g.J.Job.tells g.J.Job.ends c.args.job.now _ _ _ _ _ was.text c.turns.job c.turns.number was.read c.turns.held
    (Consumes-none _ _ _ was.read c.fill.new.buffer c.in-Ok-fill.count c.if-count-eq0.true was.consumed c.in-Ok-fill.ensures.bytes.0) (c.in-Ok-fill.ensures.bytes.1 c.if-count-eq0.true (omega arith)) was.feeds (Appends-kept _ _ _ _ was.written c.in-Ok.ensures.bytes) c.in-Err-finish.ensures.err

pub returns-in-Err-finish-clause-halts : goal.returns-in-Err-finish-clause-halts
returns-in-Err-finish-clause-halts g c = broken_after (g.K.Sink.told c.args.sink.now) (g.K.Sink.told c.flush.new.self) (g.K.Sink.told c.finish.new.sink) (works_sent _ _ _ c.turns.invariant.works c.in-Ok.ensures.told) c.in-Err-finish.ensures.broken.broken

pub returns-in-Err-finish-clause-sink_calls : goal.returns-in-Err-finish-clause-sink_calls
returns-in-Err-finish-clause-sink_calls g c = stops_after _ _ _ (works_sent _ _ _ c.turns.invariant.works c.in-Ok.ensures.told) c.in-Err-finish.ensures.broken.calls

-- ---- the end
pub returns-in-Err-end_input-clause-fault : goal.returns-in-Err-end_input-clause-fault
returns-in-Err-end_input-clause-fault g c =
    let tells = g.J.Job.tells in
    let was = c.turns.invariant in
    let last = c.in-Ok-finish.ensures.ok in
    let none = c.if-count-eq0.true in
    broken_end tells g.J.Job.ends c.args.job.now _ _ _ _ _ (was.text ++ last.0) c.finish.new.job c.finish.new.number was.read c.in-Err-end_input.fault
    (Consumes-none _ _ _ was.read c.fill.new.buffer c.in-Ok-fill.count none was.consumed c.in-Ok-fill.ensures.bytes.0) (c.in-Ok-fill.ensures.bytes.1 none (omega arith))
    (all_told tells c.args.job.now was.text last.0 c.turns.job c.finish.new.job c.turns.number c.finish.new.number was.read c.turns.held c.finish.new.held was.feeds last.1 c.finish.ensures.cleared c.goes_on-then-count-eq0.ensures.nothing)
    (Appends-trans _ _ _ was.text last.0 (Appends-kept _ _ _ _ was.written c.in-Ok.ensures.bytes) last.2) c.in-Err-end_input.ensures.err

pub returns-in-Err-end_input-clause-memory : goal.returns-in-Err-end_input-clause-memory
returns-in-Err-end_input-clause-memory g c is =
    let tells = g.J.Job.tells in
    let was = c.turns.invariant in
    let last = c.in-Ok-finish.ensures.ok in
    let none = c.if-count-eq0.true in (
      lacks_of g.J.Job.lacks _ _ c.in-Err-end_input.fault (one_fault (Err c.in-Err-end_input.fault) c.in-Err-end_input.fault Memory refl is) c.in-Err-end_input.ensures.leaves,
      starved_end tells g.J.Job.ends c.args.job.now _ _ _ _ _ (was.text ++ last.0) c.finish.new.job c.finish.new.number was.read c.in-Err-end_input.fault
          (Consumes-none _ _ _ was.read c.fill.new.buffer c.in-Ok-fill.count none was.consumed c.in-Ok-fill.ensures.bytes.0) (c.in-Ok-fill.ensures.bytes.1 none (omega arith))
          (all_told tells c.args.job.now was.text last.0 c.turns.job c.finish.new.job c.turns.number c.finish.new.number was.read c.turns.held c.finish.new.held was.feeds last.1 c.finish.ensures.cleared c.goes_on-then-count-eq0.ensures.nothing)
          (Appends-trans _ _ _ was.text last.0 (Appends-kept _ _ _ _ was.written c.in-Ok.ensures.bytes) last.2) c.in-Err-end_input.ensures.err (one_fault (Err c.in-Err-end_input.fault) c.in-Err-end_input.fault Memory refl is),
    )

pub returns-in-Err-end_input-clause-read : goal.returns-in-Err-end_input-clause-read
returns-in-Err-end_input-clause-read g c is = absurd (no_read g.J.Job.lacks _ _ c.in-Err-end_input.fault c.in-Err-end_input.ensures.leaves (one_fault (Err c.in-Err-end_input.fault) c.in-Err-end_input.fault Read refl is))

pub returns-in-Err-end_input-clause-halts : goal.returns-in-Err-end_input-clause-halts
returns-in-Err-end_input-clause-halts g c =
    let was = c.turns.invariant in
    let none = c.if-count-eq0.true in
    halts_end g.J.Job.lacks c.args.turns _ _ _ _ _ (Some c.in-Err-end_input.fault)
    (read_end _ _ _ c.in-Ok-fill.count _ c.turns.turn was.reading was.calls c.in-Ok-fill.ensures.told none (omega arith))
    (works_both _ _ _ (works_sent _ _ _ was.works c.in-Ok.ensures.told) c.in-Ok-finish.ensures.works) c.in-Err-end_input.ensures.leaves

pub returns-in-Err-end_input-clause-sink_calls : goal.returns-in-Err-end_input-clause-sink_calls
returns-in-Err-end_input-clause-sink_calls g c =
    let was = c.turns.invariant in
    stops_left g.J.Job.lacks _ _ _ (Some c.in-Err-end_input.fault) (works_both _ _ _ (works_sent _ _ _ was.works c.in-Ok.ensures.told) c.in-Ok-finish.ensures.works) c.in-Err-end_input.ensures.leaves

pub returns-in-Ok-end_input-clause-ok : goal.returns-in-Ok-end_input-clause-ok
returns-in-Ok-end_input-clause-ok g c =
    let tells = g.J.Job.tells in
    let was = c.turns.invariant in
    let last = c.in-Ok-finish.ensures.ok in
    let none = c.if-count-eq0.true in
    let said = c.in-Ok-end_input.ensures.ok in
    driven tells g.J.Job.ends c.args.job.now _ _ _ _ g.J.Job.awaits _ (was.text ++ last.0) said.0 c.finish.new.job c.end_input.new.job c.finish.new.number was.read
    (Consumes-none _ _ _ was.read c.fill.new.buffer c.in-Ok-fill.count none was.consumed c.in-Ok-fill.ensures.bytes.0) (c.in-Ok-fill.ensures.bytes.1 none (omega arith))
    (all_told tells c.args.job.now was.text last.0 c.turns.job c.finish.new.job c.turns.number c.finish.new.number was.read c.turns.held c.finish.new.held was.feeds last.1 c.finish.ensures.cleared c.goes_on-then-count-eq0.ensures.nothing)
    c.finish.ensures.awaits
    (few_lines tells c.args.job.now was.text last.0 c.turns.job c.finish.new.job c.turns.number c.finish.new.number was.read c.turns.held c.finish.new.held was.feeds last.1 (omega (arith, was.few)))
    said.1
    (Appends-trans _ _ _ was.text last.0 (Appends-kept _ _ _ _ was.written c.in-Ok.ensures.bytes) last.2) said.2

pub returns-in-Ok-end_input-clause-halts : goal.returns-in-Ok-end_input-clause-halts
returns-in-Ok-end_input-clause-halts g c =
    let was = c.turns.invariant in
    let none = c.if-count-eq0.true in (
      (read_end _ _ _ c.in-Ok-fill.count _ c.turns.turn was.reading was.calls c.in-Ok-fill.ensures.told none (omega arith)),
      works_both _ _ _ (works_both _ _ _ (works_sent _ _ _ was.works c.in-Ok.ensures.told) c.in-Ok-finish.ensures.works) c.in-Ok-end_input.ensures.leaves,
    )

-- ---- what the source hears
pub returns-in-Err-fill-clause-heard : goal.returns-in-Err-fill-clause-heard
returns-in-Err-fill-clause-heard g c =
    let was = c.turns.invariant in
    Hears-more g.S.Source.hears _ c.args.source.now c.turns.source c.fill.new.self _ _ was.heard
    (driven_on g.J.Job.tells g.J.Job.ends c.args.job.now (g.S.Source.remaining c.args.source.now) g.S.Source.remaining (seen_by g.K.Sink.told g.K.Sink.contents g.K.Sink.lent c.args.sink.now) c.turns.source (seen_by g.K.Sink.told g.K.Sink.contents g.K.Sink.lent c.flush.new.self)
    (g.K.Sink.told c.turns.sink) (g.K.Sink.contents c.turns.sink) was.text c.turns.job c.turns.number was.read c.turns.held c.goes_on.ensures.nothing was.consumed was.feeds was.written was.works c.in-Ok.ensures.told c.in-Ok.ensures.bytes (c.in-Ok.ensures.lent ∙ was.lent_sink)) c.in-Err-fill.ensures.heard

pub returns-in-Err-finish-clause-heard : goal.returns-in-Err-finish-clause-heard
returns-in-Err-finish-clause-heard g c =
    let was = c.turns.invariant in
    Hears-more g.S.Source.hears _ c.args.source.now c.turns.source c.fill.new.self _ _ was.heard
    (driven_on g.J.Job.tells g.J.Job.ends c.args.job.now (g.S.Source.remaining c.args.source.now) g.S.Source.remaining (seen_by g.K.Sink.told g.K.Sink.contents g.K.Sink.lent c.args.sink.now) c.turns.source (seen_by g.K.Sink.told g.K.Sink.contents g.K.Sink.lent c.flush.new.self)
    (g.K.Sink.told c.turns.sink) (g.K.Sink.contents c.turns.sink) was.text c.turns.job c.turns.number was.read c.turns.held c.goes_on.ensures.nothing was.consumed was.feeds was.written was.works c.in-Ok.ensures.told c.in-Ok.ensures.bytes (c.in-Ok.ensures.lent ∙ was.lent_sink)) c.in-Ok-fill.ensures.heard

pub returns-in-Err-end_input-clause-heard : goal.returns-in-Err-end_input-clause-heard
returns-in-Err-end_input-clause-heard g c =
    let was = c.turns.invariant in
    Hears-more g.S.Source.hears _ c.args.source.now c.turns.source c.fill.new.self _ _ was.heard
    (driven_on g.J.Job.tells g.J.Job.ends c.args.job.now (g.S.Source.remaining c.args.source.now) g.S.Source.remaining (seen_by g.K.Sink.told g.K.Sink.contents g.K.Sink.lent c.args.sink.now) c.turns.source (seen_by g.K.Sink.told g.K.Sink.contents g.K.Sink.lent c.flush.new.self)
    (g.K.Sink.told c.turns.sink) (g.K.Sink.contents c.turns.sink) was.text c.turns.job c.turns.number was.read c.turns.held c.goes_on.ensures.nothing was.consumed was.feeds was.written was.works c.in-Ok.ensures.told c.in-Ok.ensures.bytes (c.in-Ok.ensures.lent ∙ was.lent_sink)) c.in-Ok-fill.ensures.heard

pub returns-in-Ok-end_input-clause-heard : goal.returns-in-Ok-end_input-clause-heard
returns-in-Ok-end_input-clause-heard g c =
    let was = c.turns.invariant in
    Hears-more g.S.Source.hears _ c.args.source.now c.turns.source c.fill.new.self _ _ was.heard
    (driven_on g.J.Job.tells g.J.Job.ends c.args.job.now (g.S.Source.remaining c.args.source.now) g.S.Source.remaining (seen_by g.K.Sink.told g.K.Sink.contents g.K.Sink.lent c.args.sink.now) c.turns.source (seen_by g.K.Sink.told g.K.Sink.contents g.K.Sink.lent c.flush.new.self)
    (g.K.Sink.told c.turns.sink) (g.K.Sink.contents c.turns.sink) was.text c.turns.job c.turns.number was.read c.turns.held c.goes_on.ensures.nothing was.consumed was.feeds was.written was.works c.in-Ok.ensures.told c.in-Ok.ensures.bytes (c.in-Ok.ensures.lent ∙ was.lent_sink)) c.in-Ok-fill.ensures.heard

pub returns-in-Err-feed-clause-heard : goal.returns-in-Err-feed-clause-heard
returns-in-Err-feed-clause-heard g c =
    let was = c.turns.invariant in
    Hears-more g.S.Source.hears _ c.args.source.now c.turns.source c.fill.new.self _ _ was.heard
    (driven_on g.J.Job.tells g.J.Job.ends c.args.job.now (g.S.Source.remaining c.args.source.now) g.S.Source.remaining (seen_by g.K.Sink.told g.K.Sink.contents g.K.Sink.lent c.args.sink.now) c.turns.source (seen_by g.K.Sink.told g.K.Sink.contents g.K.Sink.lent c.flush.new.self)
    (g.K.Sink.told c.turns.sink) (g.K.Sink.contents c.turns.sink) was.text c.turns.job c.turns.number was.read c.turns.held c.goes_on.ensures.nothing was.consumed was.feeds was.written was.works c.in-Ok.ensures.told c.in-Ok.ensures.bytes (c.in-Ok.ensures.lent ∙ was.lent_sink)) c.in-Ok-fill.ensures.heard
