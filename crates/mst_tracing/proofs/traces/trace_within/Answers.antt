use Rattle.std.proofs.Common.{sym, subst, ◌∙◌}
use Rattle.mst_tool.specs.engine.Engine.{outcome_of, tally_of}
use Rattle.mst_io.specs.declared.outcome.Outcome.{Outcome}
use Rattle.mst_tool.specs.engine.print.Shape.{of_script}
use Rattle.mst_drive.specs.Words.{Wrote, one_input}
use Rattle.mst_drive.proofs.Turned.{turned_broken, turned_lacking, turned_on}
use Rattle.mst_drive.proofs.Words.{front_of_all, front_then, wrote_then}
use Rattle.mst_tracing.specs.Trace.{AsksPath, answer_text, counted_with, told_of, tracing}
use Rattle.mst_tool.proofs.Faults.{err_of}
use Rattle.mst_tracing.proofs.WholeTrace.{asks}
use Rattle.mst_tool.proofs.WholeLoad.{lacked_behind, stopped_loading}
use Rattle.mst_tracing.proofs.traces.trace_within.Goals as goal

pub returns-in-Err-clause-ended : goal.returns-in-Err-clause-ended
returns-in-Err-clause-ended g c =
    let form = c.args.form in
    let written = g.K.Sink.contents c.args.sink.now in
    let now = g.K.Sink.contents c.serve_first.new.sink in
    stopped_loading c.one_load.ensures.same (of_script form) (tracing form c.args.question.now) (one_input (g.S.Source.remaining c.args.source.now)) (one_input (g.S.Source.remaining c.serve_first.new.source)) written now (λ text h. h) (λ text h. h) c.in-Err.fault c.in-Err.ensures.fault
    (λ e. c.in-Err.ensures.read (err_of e)) (λ e. c.in-Err.ensures.memory (err_of e))

pub returns-in-Err-traced-clause-ended : goal.returns-in-Err-traced-clause-ended
returns-in-Err-traced-clause-ended g c =
    let form = c.args.form in
    let written = g.K.Sink.contents c.args.sink.now in
    let now = g.K.Sink.contents c.serve_first.new.sink in
    lacked_behind c.one_load.ensures.same (of_script form) (tracing form c.args.question.now) (one_input (g.S.Source.remaining c.args.source.now)) (one_input (g.S.Source.remaining c.serve_first.new.source)) written now (λ text h. h) (λ text h. h)
    (tally_of c.in-Ok.serving.engine) c.in-Ok.ensures.ok

pub returns-in-Err-traced-clause-turned : goal.returns-in-Err-traced-clause-turned
returns-in-Err-traced-clause-turned g c = turned_lacking c.args.turns _ _ _ c.in-Ok.ensures.turned

pub returns-in-Err-put_traced-clause-ended : goal.returns-in-Err-put_traced-clause-ended
returns-in-Err-put_traced-clause-ended g c =
    let form = c.args.form in
    let question = c.args.question.now in
    let reads = g.S.Source.remaining c.args.source.now in
    let written = g.K.Sink.contents c.args.sink.now in
    let mid = g.K.Sink.contents c.serve_first.new.sink in
    let now = g.K.Sink.contents c.put_traced.new.sink in
    let t = tally_of c.in-Ok.serving.engine in
    let answer = c.in-Ok-traced.answer in
    let went = c.in-Ok.ensures.ok in
    let outcome = counted_with (outcome_of t) (told_of answer) in
    front_of_all (tracing form question) (one_input reads) (one_input (g.S.Source.remaining c.serve_first.new.source)) written now outcome
    (front_then written mid now went.0 (answer_text form answer) (λ text. AsksPath form question reads text outcome)
    (asks c.one_load.ensures.same c.states.ensures.network c.one_trace.ensures.one form question reads went.0 t (told_of answer) (answer_text form answer) went.1 c.in-Ok-traced.ensures.answer) went.2 c.in-Err-put_traced.ensures.err)

pub returns-in-Err-put_traced-clause-turned : goal.returns-in-Err-put_traced-clause-turned
returns-in-Err-put_traced-clause-turned g c = turned_broken c.args.turns _ _ _ c.in-Ok.ensures.turned _ c.in-Err-put_traced.ensures.broken c.put_traced.ensures.lent

pub returns-clause-turned : goal.returns-clause-turned
returns-clause-turned g c = turned_on c.args.turns _ _ _ c.in-Ok.ensures.turned _ c.in-Ok-put_traced.ensures.works c.put_traced.ensures.lent

pub returns-clause-ended : goal.returns-clause-ended
returns-clause-ended g c =
    let form = c.args.form in
    let question = c.args.question.now in
    let reads = g.S.Source.remaining c.args.source.now in
    let written = g.K.Sink.contents c.args.sink.now in
    let mid = g.K.Sink.contents c.serve_first.new.sink in
    let now = g.K.Sink.contents c.put_traced.new.sink in
    let t = tally_of c.in-Ok.serving.engine in
    let answer = c.in-Ok-traced.answer in
    let went = c.in-Ok.ensures.ok in
    let outcome = counted_with (outcome_of t) (told_of answer) in
    subst (λ (outcome : Outcome). Wrote written now (λ text. AsksPath form question reads text outcome)) (sym (c.with_answer.ensures ∙ (λ i. counted_with (c.outcome-served.ensures i) (told_of answer))))
    (wrote_then written mid now went.0 (answer_text form answer) (λ text. AsksPath form question reads text outcome)
    (asks c.one_load.ensures.same c.states.ensures.network c.one_trace.ensures.one form question reads went.0 t (told_of answer) (answer_text form answer) went.1 c.in-Ok-traced.ensures.answer) went.2 c.in-Ok-put_traced.ensures.ok)
