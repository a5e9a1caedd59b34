use Rattle.std.proofs.Common.{refl, sym, subst, ◌∙◌, inl, inr}
use Rattle.std.specs.Io.KnownBytes.{Appends}
use Rattle.mst_tool.specs.engine.Engine.{outcome_of, tally_of}
use Rattle.mst_io.specs.Devices.{seen_by}
use Rattle.mst_io.specs.Written.{AppendsFront}
use Rattle.mst_io.specs.declared.outcome.Outcome.{Outcome}
use Rattle.mst_io.proofs.Chains.{Hears-none}
use Rattle.mst_tool.specs.engine.print.Shape.{of_script}
use Rattle.mst_drive.specs.Words.{Wrote, two_inputs}
use Rattle.mst_drive.proofs.Turned.{turned_broken, turned_lacking, turned_on, turned_stopped, turned_then}
use Rattle.mst_drive.proofs.Words.{front_of_all, front_then, wrote_still, wrote_then}
use Rattle.mst_verifying.specs.Verify.{Verifies, counted_with, told_in, verifying}
use Rattle.mst_tool.proofs.Faults.{err_of}
use Rattle.mst_tool.proofs.HasTold.{none_behind}
use Rattle.mst_tool.proofs.WholeLoad.{lacked_behind, stopped_behind, stopped_loading}
use Rattle.mst_verifying.proofs.WholeVerify.{verifies}
use Rattle.mst_verifying.proofs.verifies.verify_within.Goals as goal

pub returns-in-Err-clause-ended : goal.returns-in-Err-clause-ended
returns-in-Err-clause-ended g c =
    let form = c.args.form in
    let written = g.K.Sink.contents c.args.sink.now in
    let now = g.K.Sink.contents c.serve_first.new.sink in
    stopped_loading c.one_load.ensures.same (of_script form) (verifying form c.args.question) (two_inputs (g.S.Source.remaining c.args.script.now) (g.P.Source.remaining c.args.policy.now)) (two_inputs (g.S.Source.remaining c.serve_first.new.source) (g.P.Source.remaining c.args.policy.now)) written now (λ text h. h) (λ text h. inl h) c.in-Err.fault c.in-Err.ensures.fault
    (λ e. c.in-Err.ensures.read (err_of e)) (λ e. c.in-Err.ensures.memory (err_of e))

pub returns-in-Err-clause-turned : goal.returns-in-Err-clause-turned
returns-in-Err-clause-turned g c = turned_stopped c.args.turns _ _ _ _ _ c.in-Err.ensures.turned (λ e. cc) (refl, c.requires.policy, tt)

pub returns-in-Err-clause-heard_policy : goal.returns-in-Err-clause-heard_policy
returns-in-Err-clause-heard_policy g c = Hears-none g.P.Source.hears _ c.args.policy.now

-- ---- the policy
pub returns-in-Err-read_policy-clause-ended : goal.returns-in-Err-read_policy-clause-ended
returns-in-Err-read_policy-clause-ended g c =
    let form = c.args.form in
    stopped_behind c.one_load.ensures.same (of_script form) (verifying form c.args.question) (two_inputs (g.S.Source.remaining c.args.script.now) (g.P.Source.remaining c.args.policy.now)) (two_inputs (g.S.Source.remaining c.serve_first.new.source) (g.P.Source.remaining c.read_policy.new.source)) (g.K.Sink.contents c.args.sink.now) (g.K.Sink.contents c.read_policy.new.sink)
    (λ text h. h) (λ text h. inr h) (λ text h. h) (tally_of c.in-Ok.serving.engine) (g.K.Sink.contents c.serve_first.new.sink) c.in-Err-read_policy.fault c.in-Ok.ensures.ok c.read_policy.ensures.unwritten

pub returns-in-Err-read_policy-clause-turned : goal.returns-in-Err-read_policy-clause-turned
returns-in-Err-read_policy-clause-turned g c = turned_then c.args.turns _ _ _ _ _ _ c.in-Ok.ensures.turned c.in-Err-read_policy.ensures.turned

-- ---- the answer
pub returns-in-Err-answered-clause-ended : goal.returns-in-Err-answered-clause-ended
returns-in-Err-answered-clause-ended g c =
    let form = c.args.form in
    let written = g.K.Sink.contents c.args.sink.now in
    let mid = g.K.Sink.contents c.serve_first.new.sink in
    let now = g.K.Sink.contents c.read_policy.new.sink in
    lacked_behind c.one_load.ensures.same (of_script form) (verifying form c.args.question) (two_inputs (g.S.Source.remaining c.args.script.now) (g.P.Source.remaining c.args.policy.now)) (two_inputs (g.S.Source.remaining c.serve_first.new.source) (g.P.Source.remaining c.read_policy.new.source)) written now
    (λ text h. h) (λ text h. h) (tally_of c.in-Ok.serving.engine) (wrote_still written mid now _ c.in-Ok.ensures.ok c.read_policy.ensures.unwritten)

pub returns-in-Err-answered-clause-turned : goal.returns-in-Err-answered-clause-turned
returns-in-Err-answered-clause-turned g c = turned_lacking c.args.turns _ _ _ (turned_then c.args.turns _ _ _ _ _ _ c.in-Ok.ensures.turned c.in-Ok-read_policy.ensures.turned)

pub returns-in-Err-put-clause-ended : goal.returns-in-Err-put-clause-ended
returns-in-Err-put-clause-ended g c =
    let form = c.args.form in
    let scripts = g.S.Source.remaining c.args.script.now in
    let policies = g.P.Source.remaining c.args.policy.now in
    let written = g.K.Sink.contents c.args.sink.now in
    let mid = g.K.Sink.contents c.read_policy.new.sink in
    let now = g.K.Sink.contents c.put.new.sink in
    let t = tally_of c.in-Ok.serving.engine in
    let found = c.in-Ok-answered.found in
    let went = wrote_still written (g.K.Sink.contents c.serve_first.new.sink) mid _ c.in-Ok.ensures.ok c.read_policy.ensures.unwritten in
    let outcome = counted_with (outcome_of t) (told_in found) in
    front_of_all (verifying form c.args.question) (two_inputs scripts policies) (two_inputs (g.S.Source.remaining c.serve_first.new.source) (g.P.Source.remaining c.read_policy.new.source)) written now outcome
    (front_then written mid now went.0 found.text.items (λ text. Verifies form c.args.question scripts policies text outcome)
    (verifies c.one_load.ensures.same form c.args.question scripts policies went.0 t c.in-Ok-read_policy.lines (told_in found) found.text.items c.in-Ok-read_policy.ensures.ok c.in-Ok-answered.ensures.told went.1)
    went.2 (subst (AppendsFront mid now) c.as_slice.ensures.value c.in-Err-put.ensures.err))

pub returns-in-Err-put-clause-turned : goal.returns-in-Err-put-clause-turned
returns-in-Err-put-clause-turned g c = turned_broken c.args.turns _ _ _ (turned_then c.args.turns _ _ _ _ _ _ c.in-Ok.ensures.turned c.in-Ok-read_policy.ensures.turned) _ c.in-Err-put.ensures.broken c.put.ensures.lent

pub returns-clause-turned : goal.returns-clause-turned
returns-clause-turned g c = turned_on c.args.turns _ _ _ (turned_then c.args.turns _ _ _ _ _ _ c.in-Ok.ensures.turned c.in-Ok-read_policy.ensures.turned) _ c.in-Ok-put.ensures.works c.put.ensures.lent

pub returns-clause-ended : goal.returns-clause-ended
returns-clause-ended g c =
    let form = c.args.form in
    let scripts = g.S.Source.remaining c.args.script.now in
    let policies = g.P.Source.remaining c.args.policy.now in
    let written = g.K.Sink.contents c.args.sink.now in
    let mid = g.K.Sink.contents c.read_policy.new.sink in
    let now = g.K.Sink.contents c.put.new.sink in
    let t = tally_of c.in-Ok.serving.engine in
    let found = c.in-Ok-answered.found in
    let went = wrote_still written (g.K.Sink.contents c.serve_first.new.sink) mid _ c.in-Ok.ensures.ok c.read_policy.ensures.unwritten in
    let outcome = counted_with (outcome_of t) (told_in found) in
    subst (λ (outcome : Outcome). Wrote written now (λ text. Verifies form c.args.question scripts policies text outcome)) (sym (c.with_verdict.ensures ∙ (λ i. counted_with (c.outcome-served.ensures i) (told_in found))))
    (wrote_then written mid now went.0 found.text.items (λ text. Verifies form c.args.question scripts policies text outcome)
    (verifies c.one_load.ensures.same form c.args.question scripts policies went.0 t c.in-Ok-read_policy.lines (told_in found) found.text.items c.in-Ok-read_policy.ensures.ok c.in-Ok-answered.ensures.told went.1)
    went.2 (subst (Appends mid now) c.as_slice.ensures.value c.in-Ok-put.ensures.ok))

pub returns-in-Err-read_policy-clause-heard_policy : goal.returns-in-Err-read_policy-clause-heard_policy
returns-in-Err-read_policy-clause-heard_policy g c =
    let look = seen_by g.K.Sink.told g.K.Sink.contents g.K.Sink.lent in
    none_behind g.P.Source.hears g.P.Source.remaining (look c.args.sink.now) (look c.serve_first.new.sink) c.args.turns _ c.in-Ok.ensures.turned (tally_of c.in-Ok.serving.engine) c.one_load.ensures.same (of_script c.args.form) (g.S.Source.remaining c.args.script.now) c.args.policy.now c.read_policy.new.source c.in-Ok.ensures.ok c.read_policy.ensures.heard

pub returns-in-Err-answered-clause-heard_policy : goal.returns-in-Err-answered-clause-heard_policy
returns-in-Err-answered-clause-heard_policy g c =
    let look = seen_by g.K.Sink.told g.K.Sink.contents g.K.Sink.lent in
    none_behind g.P.Source.hears g.P.Source.remaining (look c.args.sink.now) (look c.serve_first.new.sink) c.args.turns _ c.in-Ok.ensures.turned (tally_of c.in-Ok.serving.engine) c.one_load.ensures.same (of_script c.args.form) (g.S.Source.remaining c.args.script.now) c.args.policy.now c.read_policy.new.source c.in-Ok.ensures.ok c.read_policy.ensures.heard

pub returns-in-Err-put-clause-heard_policy : goal.returns-in-Err-put-clause-heard_policy
returns-in-Err-put-clause-heard_policy g c =
    let look = seen_by g.K.Sink.told g.K.Sink.contents g.K.Sink.lent in
    none_behind g.P.Source.hears g.P.Source.remaining (look c.args.sink.now) (look c.serve_first.new.sink) c.args.turns _ c.in-Ok.ensures.turned (tally_of c.in-Ok.serving.engine) c.one_load.ensures.same (of_script c.args.form) (g.S.Source.remaining c.args.script.now) c.args.policy.now c.read_policy.new.source c.in-Ok.ensures.ok c.read_policy.ensures.heard

pub returns-clause-heard_policy : goal.returns-clause-heard_policy
returns-clause-heard_policy g c =
    let look = seen_by g.K.Sink.told g.K.Sink.contents g.K.Sink.lent in
    none_behind g.P.Source.hears g.P.Source.remaining (look c.args.sink.now) (look c.serve_first.new.sink) c.args.turns _ c.in-Ok.ensures.turned (tally_of c.in-Ok.serving.engine) c.one_load.ensures.same (of_script c.args.form) (g.S.Source.remaining c.args.script.now) c.args.policy.now c.read_policy.new.source c.in-Ok.ensures.ok c.read_policy.ensures.heard
