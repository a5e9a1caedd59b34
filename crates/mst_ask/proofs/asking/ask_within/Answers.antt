use Rattle.std.proofs.Common.{◌<◌, ◌^◌, [], ◌∷◌, Err, None, Some, ap, refl, subst, sym, inl, inr, ◌∙◌}
use Rattle.mst_io.specs.Devices.{seen_by}
use Rattle.mst_drive.specs.Turned.{turning}
use Rattle.mst_drive.specs.Words.{inputs}
use Rattle.mst_drive.proofs.Turned.{turned_stopped, turned_then}
use Rattle.mst_drive.proofs.Words.{ended_fault, front_as, wrote_as, wrote_front, wrote_still}
use Rattle.mst_ask.specs.Asking.{standing}
use Rattle.mst_ask.proofs.Opened.{one_fault, opened_with}
use Rattle.mst_ask.proofs.Stand.{ask_ways, asked_all, asked_ended, asked_front, may_tell, policy_told, questions_told}
use Rattle.mst_ask.proofs.asking.ask_within.Goals as goal

-- ---- stopped in the script
pub returns-in-Err-clause-ended : goal.returns-in-Err-clause-ended
returns-in-Err-clause-ended g c =
    let ways = ask_ways c.has_turns.ensures c.one_asking.ensures c.standings.ensures.loaded in
    let given = inputs (g.S.Source.remaining c.args.script.now) (g.Q.Source.remaining c.args.questions.now) (g.P.Source.remaining c.args.policy.now) in
    let left = inputs (g.S.Source.remaining c.open.new.source) (g.Q.Source.remaining c.args.questions.now) (g.P.Source.remaining c.args.policy.now) in
    ended_fault (standing c.args.form) given left _ _ c.in-Err.fault (may_tell ways c.args.form given _ _ c.in-Err.ensures.fault)
    (λ e. wrote_as _ _ _ _ (λ text h. inl h) (c.in-Err.ensures.read (ap Err e))) (λ e. wrote_as _ _ _ _ (λ text h. inl h) (c.in-Err.ensures.memory (ap Err e)))

pub returns-in-Err-clause-turned : goal.returns-in-Err-clause-turned
returns-in-Err-clause-turned g c =
    let source = turning (seen_by g.S.Source.told g.S.Source.remaining g.S.Source.lent) c.args.script.now c.open.new.source in
    let policy = turning (seen_by g.P.Source.told g.P.Source.remaining g.P.Source.lent) c.args.policy.now c.args.policy.now in
    let questions = turning (seen_by g.Q.Source.told g.Q.Source.remaining g.Q.Source.lent) c.args.questions.now c.args.questions.now in
    turned_stopped c.args.turns source (policy ∷ questions ∷ []) _ _ (Some c.in-Err.fault) c.in-Err.ensures.turned (λ e. cc) (refl, c.requires.policy, (refl, c.requires.questions, tt))

-- ---- stopped in the policy
pub returns-in-Err-read_policy-clause-ended : goal.returns-in-Err-read_policy-clause-ended
returns-in-Err-read_policy-clause-ended g c =
    let ways = ask_ways c.has_turns.ensures c.one_asking.ensures c.standings.ensures.loaded in
    let given = inputs (g.S.Source.remaining c.args.script.now) (g.Q.Source.remaining c.args.questions.now) (g.P.Source.remaining c.args.policy.now) in
    let w = wrote_still _ _ _ _ (wrote_as _ _ _ _ (λ text o. o.0) c.in-Ok.ensures.ok) c.read_policy.ensures.unwritten in
    let left = inputs (g.S.Source.remaining c.open.new.source) (g.Q.Source.remaining c.args.questions.now) (g.P.Source.remaining c.read_policy.new.source) in
    ended_fault (standing c.args.form) given left _ _ c.in-Err-read_policy.fault (may_tell ways c.args.form given _ _ (front_as _ _ _ _ (λ text b. inr b) (wrote_front _ _ _ w)))
    (λ e. wrote_as _ _ _ _ (λ text b. inr (inl b)) w) (λ e. wrote_as _ _ _ _ (λ text b. inr b) w)

pub returns-in-Err-read_policy-clause-turned : goal.returns-in-Err-read_policy-clause-turned
returns-in-Err-read_policy-clause-turned g c =
    let source = turning (seen_by g.S.Source.told g.S.Source.remaining g.S.Source.lent) c.args.script.now c.open.new.source in
    let policy = turning (seen_by g.P.Source.told g.P.Source.remaining g.P.Source.lent) c.args.policy.now c.read_policy.new.source in
    let questions = turning (seen_by g.Q.Source.told g.Q.Source.remaining g.Q.Source.lent) c.args.questions.now c.args.questions.now in
    let why = Some c.in-Err-read_policy.fault in
    turned_then c.args.turns source (policy ∷ questions ∷ []) _ _ _ why c.in-Ok.ensures.turned
    (turned_stopped c.args.turns policy (questions ∷ []) _ _ why c.in-Err-read_policy.ensures.turned (λ e. cc) (refl, c.requires.questions, tt))

-- ---- the policy goes with what was opened
pub serve_questions-requires-clause-kept : goal.serve_questions-requires-clause-kept
serve_questions-requires-clause-kept g c = (opened_with c.args.form _ _ c.in-Ok-read_policy.lines c.in-Ok.opened c.with_policy-asking.result c.with_policy-asking.ensures (c.in-Ok.ensures.ok.1).1).kept

pub serve_questions-requires-clause-begins : goal.serve_questions-requires-clause-begins
serve_questions-requires-clause-begins g c = (opened_with c.args.form _ _ c.in-Ok-read_policy.lines c.in-Ok.opened c.with_policy-asking.result c.with_policy-asking.ensures (c.in-Ok.ensures.ok.1).1).begins

pub counted-requires-clause-script : goal.counted-requires-clause-script
counted-requires-clause-script g c =
    let o = opened_with c.args.form _ _ c.in-Ok-read_policy.lines c.in-Ok.opened c.with_policy-asking.result c.with_policy-asking.ensures (c.in-Ok.ensures.ok.1).1 in
    subst (λ n. n < 2 ^ 60) (sym c.in-Ok-serve_questions.ensures.loaded) o.few

-- ---- stopped in the questions
pub returns-in-Err-serve_questions-clause-ended : goal.returns-in-Err-serve_questions-clause-ended
returns-in-Err-serve_questions-clause-ended g c =
    let ways = ask_ways c.has_turns.ensures c.one_asking.ensures c.standings.ensures.loaded in
    let given = inputs (g.S.Source.remaining c.args.script.now) (g.Q.Source.remaining c.args.questions.now) (g.P.Source.remaining c.args.policy.now) in
    let left = inputs (g.S.Source.remaining c.open.new.source) (g.Q.Source.remaining c.serve_questions.new.questions) (g.P.Source.remaining c.read_policy.new.source) in
    let asking = c.with_policy-asking in
    let lines = c.in-Ok-read_policy.lines in
    let are = c.in-Ok-read_policy.ensures.ok in
    ended_fault (standing c.args.form) given left _ _ c.in-Err-serve_questions.fault
    (asked_front ways c.args.form given _ _ _ _ c.in-Ok.opened asking.result lines c.in-Ok.ensures.ok c.read_policy.ensures.unwritten are asking.ensures c.in-Err-serve_questions.ensures.fault)
    (λ e. asked_ended ways c.args.form given _ _ _ _ c.in-Ok.opened asking.result lines c.in-Ok.ensures.ok c.read_policy.ensures.unwritten are asking.ensures left (c.in-Err-serve_questions.ensures.read (ap Err e)))
    (λ e. absurd (c.in-Err-serve_questions.ensures.memory (ap Err e)))

pub returns-in-Err-serve_questions-clause-unread : goal.returns-in-Err-serve_questions-clause-unread
returns-in-Err-serve_questions-clause-unread g c is = absurd (c.in-Err-serve_questions.ensures.memory (ap Err (one_fault _ _ _ refl is)))

pub returns-in-Err-serve_questions-clause-turned : goal.returns-in-Err-serve_questions-clause-turned
returns-in-Err-serve_questions-clause-turned g c =
    let source = turning (seen_by g.S.Source.told g.S.Source.remaining g.S.Source.lent) c.args.script.now c.open.new.source in
    let policy = turning (seen_by g.P.Source.told g.P.Source.remaining g.P.Source.lent) c.args.policy.now c.read_policy.new.source in
    let questions = turning (seen_by g.Q.Source.told g.Q.Source.remaining g.Q.Source.lent) c.args.questions.now c.serve_questions.new.questions in
    let why = Some c.in-Err-serve_questions.fault in
    turned_then c.args.turns source (policy ∷ questions ∷ []) _ _ _ why c.in-Ok.ensures.turned
    (turned_then c.args.turns policy (questions ∷ []) _ _ _ why c.in-Ok-read_policy.ensures.turned c.in-Err-serve_questions.ensures.turned)

-- ---- all questions were answered
pub returns-clause-ended : goal.returns-clause-ended
returns-clause-ended g c =
    let ways = ask_ways c.has_turns.ensures c.one_asking.ensures c.standings.ensures.loaded in
    let given = inputs (g.S.Source.remaining c.args.script.now) (g.Q.Source.remaining c.args.questions.now) (g.P.Source.remaining c.args.policy.now) in
    let asking = c.with_policy-asking in
    let new = c.serve_questions.new.asking in
    asked_all ways c.args.form given _ _ _ _ c.in-Ok.opened asking.result c.in-Ok-read_policy.lines c.in-Ok.ensures.ok c.read_policy.ensures.unwritten c.in-Ok-read_policy.ensures.ok asking.ensures new.outcome c.counted.result new.loaded c.in-Ok-serve_questions.ensures.ok
    c.counted.ensures c.in-Ok-serve_questions.ensures.loaded

pub returns-clause-turned : goal.returns-clause-turned
returns-clause-turned g c =
    let source = turning (seen_by g.S.Source.told g.S.Source.remaining g.S.Source.lent) c.args.script.now c.open.new.source in
    let policy = turning (seen_by g.P.Source.told g.P.Source.remaining g.P.Source.lent) c.args.policy.now c.read_policy.new.source in
    let questions = turning (seen_by g.Q.Source.told g.Q.Source.remaining g.Q.Source.lent) c.args.questions.now c.serve_questions.new.questions in
    turned_then c.args.turns source (policy ∷ questions ∷ []) _ _ _ None c.in-Ok.ensures.turned
    (turned_then c.args.turns policy (questions ∷ []) _ _ _ None c.in-Ok-read_policy.ensures.turned c.in-Ok-serve_questions.ensures.turned)

pub returns-in-Err-read_policy-clause-heard_policy : goal.returns-in-Err-read_policy-clause-heard_policy
returns-in-Err-read_policy-clause-heard_policy g c =
    let look = seen_by g.K.Sink.told g.K.Sink.contents g.K.Sink.lent in
    let given = inputs (g.S.Source.remaining c.args.script.now) (g.Q.Source.remaining c.args.questions.now) (g.P.Source.remaining c.args.policy.now) in
    policy_told g.P.Source.hears g.P.Source.remaining c.args.form given (look c.args.sink.now) (look c.open.new.sink) c.in-Ok.opened c.in-Ok.ensures.ok c.args.turns _ c.in-Ok.ensures.turned c.args.policy.now c.read_policy.new.source c.read_policy.ensures.heard

pub returns-in-Err-serve_questions-clause-heard_policy : goal.returns-in-Err-serve_questions-clause-heard_policy
returns-in-Err-serve_questions-clause-heard_policy g c =
    let look = seen_by g.K.Sink.told g.K.Sink.contents g.K.Sink.lent in
    let given = inputs (g.S.Source.remaining c.args.script.now) (g.Q.Source.remaining c.args.questions.now) (g.P.Source.remaining c.args.policy.now) in
    policy_told g.P.Source.hears g.P.Source.remaining c.args.form given (look c.args.sink.now) (look c.open.new.sink) c.in-Ok.opened c.in-Ok.ensures.ok c.args.turns _ c.in-Ok.ensures.turned c.args.policy.now c.read_policy.new.source c.read_policy.ensures.heard

pub returns-clause-heard_policy : goal.returns-clause-heard_policy
returns-clause-heard_policy g c =
    let look = seen_by g.K.Sink.told g.K.Sink.contents g.K.Sink.lent in
    let given = inputs (g.S.Source.remaining c.args.script.now) (g.Q.Source.remaining c.args.questions.now) (g.P.Source.remaining c.args.policy.now) in
    policy_told g.P.Source.hears g.P.Source.remaining c.args.form given (look c.args.sink.now) (look c.open.new.sink) c.in-Ok.opened c.in-Ok.ensures.ok c.args.turns _ c.in-Ok.ensures.turned c.args.policy.now c.read_policy.new.source c.read_policy.ensures.heard

pub returns-in-Err-serve_questions-clause-heard_questions : goal.returns-in-Err-serve_questions-clause-heard_questions
returns-in-Err-serve_questions-clause-heard_questions g c =
    let look = seen_by g.K.Sink.told g.K.Sink.contents g.K.Sink.lent in
    let given = inputs (g.S.Source.remaining c.args.script.now) (g.Q.Source.remaining c.args.questions.now) (g.P.Source.remaining c.args.policy.now) in
    let ways = ask_ways c.has_turns.ensures c.one_asking.ensures c.standings.ensures.loaded in
    let asking = c.with_policy-asking in
    questions_told g.Q.Source.hears g.Q.Source.remaining c.args.form given (look c.args.sink.now) (look c.open.new.sink) c.in-Ok.opened c.in-Ok.ensures.ok c.args.turns ways (look c.read_policy.new.sink) asking.result c.in-Ok-read_policy.lines c.read_policy.ensures.unwritten c.in-Ok-read_policy.ensures.ok asking.ensures _
    (turned_then c.args.turns _ _ _ _ _ _ c.in-Ok.ensures.turned c.in-Ok-read_policy.ensures.turned) c.args.questions.now c.serve_questions.new.questions c.serve_questions.ensures.heard

pub returns-clause-heard_questions : goal.returns-clause-heard_questions
returns-clause-heard_questions g c =
    let look = seen_by g.K.Sink.told g.K.Sink.contents g.K.Sink.lent in
    let given = inputs (g.S.Source.remaining c.args.script.now) (g.Q.Source.remaining c.args.questions.now) (g.P.Source.remaining c.args.policy.now) in
    let ways = ask_ways c.has_turns.ensures c.one_asking.ensures c.standings.ensures.loaded in
    let asking = c.with_policy-asking in
    questions_told g.Q.Source.hears g.Q.Source.remaining c.args.form given (look c.args.sink.now) (look c.open.new.sink) c.in-Ok.opened c.in-Ok.ensures.ok c.args.turns ways (look c.read_policy.new.sink) asking.result c.in-Ok-read_policy.lines c.read_policy.ensures.unwritten c.in-Ok-read_policy.ensures.ok asking.ensures _
    (turned_then c.args.turns _ _ _ _ _ _ c.in-Ok.ensures.turned c.in-Ok-read_policy.ensures.turned) c.args.questions.now c.serve_questions.new.questions c.serve_questions.ensures.heard
