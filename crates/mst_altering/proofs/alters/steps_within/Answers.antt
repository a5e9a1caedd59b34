use Rattle.std.proofs.Common.{refl, sym, subst, ◌∙◌, inl, inr}
use Rattle.std.specs.Io.KnownBytes.{Appends}
use Rattle.mst_tool.specs.engine.Engine.{outcome_of, tally_of}
use Rattle.mst_io.specs.Devices.{seen_by}
use Rattle.mst_io.specs.Written.{AppendsFront}
use Rattle.mst_io.specs.declared.outcome.Outcome.{Outcome}
use Rattle.mst_io.proofs.Chains.{Hears-none}
use Rattle.mst_tool.specs.engine.print.Shape.{of_script}
use Rattle.mst_drive.specs.Words.{Wrote, inputs}
use Rattle.mst_drive.proofs.Turned.{turned_broken, turned_lacking, turned_on, turned_stopped, turned_then}
use Rattle.mst_drive.proofs.Words.{front_of_all, front_then, wrote_still, wrote_then}
use Rattle.mst_altering.specs.Alter.{Alters, altering, counted_along, course_of}
use Rattle.mst_tool.proofs.Faults.{err_of}
use Rattle.mst_tool.proofs.HasTold.{none_behind}
use Rattle.mst_altering.proofs.WholeAlter.{alters}
use Rattle.mst_tool.proofs.WholeLoad.{lacked_behind, stopped_behind, stopped_loading}
use Rattle.mst_altering.proofs.alters.steps_within.Goals as goal

pub returns-in-Err-clause-ended : goal.returns-in-Err-clause-ended
returns-in-Err-clause-ended g c =
    let form = c.args.form in
    stopped_loading c.one_load.ensures.same (of_script form) (altering form c.args.is_judged) (inputs (g.S.Source.remaining c.args.script.now) (g.C.Source.remaining c.args.change.now) (g.P.Source.remaining c.args.policy.now))
    (inputs (g.S.Source.remaining c.serve_first.new.source) (g.C.Source.remaining c.args.change.now) (g.P.Source.remaining c.args.policy.now)) (g.K.Sink.contents c.args.sink.now) (g.K.Sink.contents c.serve_first.new.sink)
    (λ text h. h) (λ text h. inl h) c.in-Err.fault c.in-Err.ensures.fault (λ e. c.in-Err.ensures.read (err_of e)) (λ e. c.in-Err.ensures.memory (err_of e))

pub returns-in-Err-clause-turned : goal.returns-in-Err-clause-turned
returns-in-Err-clause-turned g c = turned_stopped c.args.turns _ _ _ _ _ c.in-Err.ensures.turned (λ e. cc) (refl, c.requires.change, (refl, c.requires.policy, tt))

pub returns-in-Err-clause-heard_change : goal.returns-in-Err-clause-heard_change
returns-in-Err-clause-heard_change g c = Hears-none g.C.Source.hears _ c.args.change.now

pub returns-in-Err-clause-heard_policy : goal.returns-in-Err-clause-heard_policy
returns-in-Err-clause-heard_policy g c = Hears-none g.P.Source.hears _ c.args.policy.now

-- ---- the change and the policy
pub returns-in-Err-read_both-clause-ended : goal.returns-in-Err-read_both-clause-ended
returns-in-Err-read_both-clause-ended g c =
    let form = c.args.form in
    stopped_behind c.one_load.ensures.same (of_script form) (altering form c.args.is_judged) (inputs (g.S.Source.remaining c.args.script.now) (g.C.Source.remaining c.args.change.now) (g.P.Source.remaining c.args.policy.now))
    (inputs (g.S.Source.remaining c.serve_first.new.source) (g.C.Source.remaining c.read_both.new.change) (g.P.Source.remaining c.read_both.new.policy)) (g.K.Sink.contents c.args.sink.now) (g.K.Sink.contents c.read_both.new.sink)
    (λ text h. h) (λ text h. inr h) (λ text h. h) (tally_of c.in-Ok.serving.engine) (g.K.Sink.contents c.serve_first.new.sink) c.in-Err-read_both.fault c.in-Ok.ensures.ok c.read_both.ensures.unwritten

pub returns-in-Err-read_both-clause-turned : goal.returns-in-Err-read_both-clause-turned
returns-in-Err-read_both-clause-turned g c = turned_then c.args.turns _ _ _ _ _ _ c.in-Ok.ensures.turned c.in-Err-read_both.ensures.turned

-- ---- the answer
pub returns-in-Err-stepped-clause-ended : goal.returns-in-Err-stepped-clause-ended
returns-in-Err-stepped-clause-ended g c =
    let form = c.args.form in
    let written = g.K.Sink.contents c.args.sink.now in
    let mid = g.K.Sink.contents c.serve_first.new.sink in
    let now = g.K.Sink.contents c.read_both.new.sink in
    lacked_behind c.one_load.ensures.same (of_script form) (altering form c.args.is_judged) (inputs (g.S.Source.remaining c.args.script.now) (g.C.Source.remaining c.args.change.now) (g.P.Source.remaining c.args.policy.now))
    (inputs (g.S.Source.remaining c.serve_first.new.source) (g.C.Source.remaining c.read_both.new.change) (g.P.Source.remaining c.read_both.new.policy)) written now
    (λ text h. h) (λ text h. h) (tally_of c.in-Ok.serving.engine) (wrote_still written mid now _ c.in-Ok.ensures.ok c.read_both.ensures.unwritten)

pub returns-in-Err-stepped-clause-turned : goal.returns-in-Err-stepped-clause-turned
returns-in-Err-stepped-clause-turned g c = turned_lacking c.args.turns _ _ _ (turned_then c.args.turns _ _ _ _ _ _ c.in-Ok.ensures.turned c.in-Ok-read_both.ensures.turned)

pub returns-in-Err-put-clause-ended : goal.returns-in-Err-put-clause-ended
returns-in-Err-put-clause-ended g c =
    let form = c.args.form in
    let judged = c.args.is_judged in
    let scripts = g.S.Source.remaining c.args.script.now in
    let changes = g.C.Source.remaining c.args.change.now in
    let policies = g.P.Source.remaining c.args.policy.now in
    let written = g.K.Sink.contents c.args.sink.now in
    let mid = g.K.Sink.contents c.read_both.new.sink in
    let now = g.K.Sink.contents c.put.new.sink in
    let t = tally_of c.in-Ok.serving.engine in
    let both = c.in-Ok-read_both.both in
    let found = c.in-Ok-stepped.found in
    let went = wrote_still written (g.K.Sink.contents c.serve_first.new.sink) mid _ c.in-Ok.ensures.ok c.read_both.ensures.unwritten in
    let outcome = counted_along (outcome_of t) (course_of found) in
    front_of_all (altering form judged) (inputs scripts changes policies) (inputs (g.S.Source.remaining c.serve_first.new.source) (g.C.Source.remaining c.read_both.new.change) (g.P.Source.remaining c.read_both.new.policy)) written now outcome
    (front_then written mid now went.0 found.text.items (λ text. Alters form judged scripts changes policies text outcome)
    (alters c.one_load.ensures.same form judged scripts changes policies went.0 t both.change.ended both.policy (course_of found) found.text.items c.in-Ok-read_both.ensures.ok_change c.in-Ok-read_both.ensures.ok_policy c.in-Ok-stepped.ensures.told went.1)
    went.2 (subst (AppendsFront mid now) c.as_slice.ensures.value c.in-Err-put.ensures.err))

pub returns-in-Err-put-clause-turned : goal.returns-in-Err-put-clause-turned
returns-in-Err-put-clause-turned g c = turned_broken c.args.turns _ _ _ (turned_then c.args.turns _ _ _ _ _ _ c.in-Ok.ensures.turned c.in-Ok-read_both.ensures.turned) _ c.in-Err-put.ensures.broken c.put.ensures.lent

pub returns-clause-turned : goal.returns-clause-turned
returns-clause-turned g c = turned_on c.args.turns _ _ _ (turned_then c.args.turns _ _ _ _ _ _ c.in-Ok.ensures.turned c.in-Ok-read_both.ensures.turned) _ c.in-Ok-put.ensures.works c.put.ensures.lent

pub returns-clause-ended : goal.returns-clause-ended
returns-clause-ended g c =
    let form = c.args.form in
    let judged = c.args.is_judged in
    let scripts = g.S.Source.remaining c.args.script.now in
    let changes = g.C.Source.remaining c.args.change.now in
    let policies = g.P.Source.remaining c.args.policy.now in
    let written = g.K.Sink.contents c.args.sink.now in
    let mid = g.K.Sink.contents c.read_both.new.sink in
    let now = g.K.Sink.contents c.put.new.sink in
    let t = tally_of c.in-Ok.serving.engine in
    let both = c.in-Ok-read_both.both in
    let found = c.in-Ok-stepped.found in
    let went = wrote_still written (g.K.Sink.contents c.serve_first.new.sink) mid _ c.in-Ok.ensures.ok c.read_both.ensures.unwritten in
    let outcome = counted_along (outcome_of t) (course_of found) in
    subst (λ (outcome : Outcome). Wrote written now (λ text. Alters form judged scripts changes policies text outcome)) (sym (c.with_course.ensures ∙ (λ i. counted_along (c.outcome-served.ensures i) (course_of found))))
    (wrote_then written mid now went.0 found.text.items (λ text. Alters form judged scripts changes policies text outcome)
    (alters c.one_load.ensures.same form judged scripts changes policies went.0 t both.change.ended both.policy (course_of found) found.text.items c.in-Ok-read_both.ensures.ok_change c.in-Ok-read_both.ensures.ok_policy c.in-Ok-stepped.ensures.told went.1)
    went.2 (subst (Appends mid now) c.as_slice.ensures.value c.in-Ok-put.ensures.ok))

pub returns-in-Err-read_both-clause-heard_change : goal.returns-in-Err-read_both-clause-heard_change
returns-in-Err-read_both-clause-heard_change g c =
    let look = seen_by g.K.Sink.told g.K.Sink.contents g.K.Sink.lent in
    none_behind g.C.Source.hears g.C.Source.remaining (look c.args.sink.now) (look c.serve_first.new.sink) c.args.turns _ c.in-Ok.ensures.turned (tally_of c.in-Ok.serving.engine) c.one_load.ensures.same (of_script c.args.form) (g.S.Source.remaining c.args.script.now) c.args.change.now c.read_both.new.change c.in-Ok.ensures.ok c.read_both.ensures.heard_change

pub returns-in-Err-read_both-clause-heard_policy : goal.returns-in-Err-read_both-clause-heard_policy
returns-in-Err-read_both-clause-heard_policy g c =
    let look = seen_by g.K.Sink.told g.K.Sink.contents g.K.Sink.lent in
    none_behind g.P.Source.hears g.P.Source.remaining (look c.args.sink.now) (look c.serve_first.new.sink) c.args.turns _ c.in-Ok.ensures.turned (tally_of c.in-Ok.serving.engine) c.one_load.ensures.same (of_script c.args.form) (g.S.Source.remaining c.args.script.now) c.args.policy.now c.read_both.new.policy c.in-Ok.ensures.ok c.read_both.ensures.heard_policy

pub returns-in-Err-stepped-clause-heard_change : goal.returns-in-Err-stepped-clause-heard_change
returns-in-Err-stepped-clause-heard_change g c =
    let look = seen_by g.K.Sink.told g.K.Sink.contents g.K.Sink.lent in
    none_behind g.C.Source.hears g.C.Source.remaining (look c.args.sink.now) (look c.serve_first.new.sink) c.args.turns _ c.in-Ok.ensures.turned (tally_of c.in-Ok.serving.engine) c.one_load.ensures.same (of_script c.args.form) (g.S.Source.remaining c.args.script.now) c.args.change.now c.read_both.new.change c.in-Ok.ensures.ok c.read_both.ensures.heard_change

pub returns-in-Err-stepped-clause-heard_policy : goal.returns-in-Err-stepped-clause-heard_policy
returns-in-Err-stepped-clause-heard_policy g c =
    let look = seen_by g.K.Sink.told g.K.Sink.contents g.K.Sink.lent in
    none_behind g.P.Source.hears g.P.Source.remaining (look c.args.sink.now) (look c.serve_first.new.sink) c.args.turns _ c.in-Ok.ensures.turned (tally_of c.in-Ok.serving.engine) c.one_load.ensures.same (of_script c.args.form) (g.S.Source.remaining c.args.script.now) c.args.policy.now c.read_both.new.policy c.in-Ok.ensures.ok c.read_both.ensures.heard_policy

pub returns-in-Err-put-clause-heard_change : goal.returns-in-Err-put-clause-heard_change
returns-in-Err-put-clause-heard_change g c =
    let look = seen_by g.K.Sink.told g.K.Sink.contents g.K.Sink.lent in
    none_behind g.C.Source.hears g.C.Source.remaining (look c.args.sink.now) (look c.serve_first.new.sink) c.args.turns _ c.in-Ok.ensures.turned (tally_of c.in-Ok.serving.engine) c.one_load.ensures.same (of_script c.args.form) (g.S.Source.remaining c.args.script.now) c.args.change.now c.read_both.new.change c.in-Ok.ensures.ok c.read_both.ensures.heard_change

pub returns-in-Err-put-clause-heard_policy : goal.returns-in-Err-put-clause-heard_policy
returns-in-Err-put-clause-heard_policy g c =
    let look = seen_by g.K.Sink.told g.K.Sink.contents g.K.Sink.lent in
    none_behind g.P.Source.hears g.P.Source.remaining (look c.args.sink.now) (look c.serve_first.new.sink) c.args.turns _ c.in-Ok.ensures.turned (tally_of c.in-Ok.serving.engine) c.one_load.ensures.same (of_script c.args.form) (g.S.Source.remaining c.args.script.now) c.args.policy.now c.read_both.new.policy c.in-Ok.ensures.ok c.read_both.ensures.heard_policy

pub returns-clause-heard_change : goal.returns-clause-heard_change
returns-clause-heard_change g c =
    let look = seen_by g.K.Sink.told g.K.Sink.contents g.K.Sink.lent in
    none_behind g.C.Source.hears g.C.Source.remaining (look c.args.sink.now) (look c.serve_first.new.sink) c.args.turns _ c.in-Ok.ensures.turned (tally_of c.in-Ok.serving.engine) c.one_load.ensures.same (of_script c.args.form) (g.S.Source.remaining c.args.script.now) c.args.change.now c.read_both.new.change c.in-Ok.ensures.ok c.read_both.ensures.heard_change

pub returns-clause-heard_policy : goal.returns-clause-heard_policy
returns-clause-heard_policy g c =
    let look = seen_by g.K.Sink.told g.K.Sink.contents g.K.Sink.lent in
    none_behind g.P.Source.hears g.P.Source.remaining (look c.args.sink.now) (look c.serve_first.new.sink) c.args.turns _ c.in-Ok.ensures.turned (tally_of c.in-Ok.serving.engine) c.one_load.ensures.same (of_script c.args.form) (g.S.Source.remaining c.args.script.now) c.args.policy.now c.read_both.new.policy c.in-Ok.ensures.ok c.read_both.ensures.heard_policy
