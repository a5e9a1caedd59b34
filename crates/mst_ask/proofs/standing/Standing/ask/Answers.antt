use Rattle.std.proofs.Common.{Ok, ◌∙◌, ap, sym, subst}
use Rattle.mst_ask.specs.Kept.{standing_of}
use Rattle.mst_ask.specs.Replies.{replied}
use Rattle.mst_ask.specs.Requests.{Stays}
use Rattle.mst_ask.specs.Standing.{Asks}
use Rattle.mst_ask.proofs.Requests.{script_said}
use Rattle.mst_ask.proofs.standing.Standing.ask.Goals as goal

pub serve-requires-clause-says : goal.serve-requires-clause-says
serve-requires-clause-says c = script_said c.args.self.now.version c.args.line.now c.in-Ok-Script.said (sym c.in-Ok-Script.ensures.request ∙ ap Ok c.in-Ok-Script.field-0-is)

pub answer-requires-clause-keeps : goal.answer-requires-clause-keeps
answer-requires-clause-keeps c = subst Stays c.in-Ok-Word.field-0-is c.in-Ok-Word.ensures.stays

pub returns-in-Ok-Word-clause-asked : goal.returns-in-Ok-Word-clause-asked
returns-in-Ok-Word-clause-asked c =
    let old = c.args.self.now in
    subst (λ r. Asks old.form c.args.number (standing_of old) c.args.line.now r (replied old.form c.args.number (standing_of c.answer.new.self) c.answer.result)) (ap Ok (sym c.in-Ok-Word.field-0-is) ∙ c.in-Ok-Word.ensures.request) (c.answer.ensures.asked c.args.number c.args.line.now)

pub returns-in-Ok-Undo-clause-asked : goal.returns-in-Ok-Undo-clause-asked
returns-in-Ok-Undo-clause-asked c =
    let old = c.args.self.now in
    subst (λ r. Asks old.form c.args.number (standing_of old) c.args.line.now r (replied old.form c.args.number (standing_of c.undo.new.self) c.undo.result)) (ap Ok (sym c.in-Ok-Undo.field-0-is) ∙ c.in-Ok-Undo.ensures.request) (c.undo.ensures.asked c.args.number c.args.line.now)

pub returns-in-Ok-Policy-clause-asked : goal.returns-in-Ok-Policy-clause-asked
returns-in-Ok-Policy-clause-asked c =
    let old = c.args.self.now in
    subst (λ r. Asks old.form c.args.number (standing_of old) c.args.line.now r (replied old.form c.args.number (standing_of c.judge.new.self) c.judge.result)) (ap Ok (sym c.in-Ok-Policy.field-0-is) ∙ c.in-Ok-Policy.ensures.request) (c.judge.ensures.asked c.args.number c.args.line.now)

pub returns-in-Ok-Path-clause-asked : goal.returns-in-Ok-Path-clause-asked
returns-in-Ok-Path-clause-asked c =
    let old = c.args.self.now in
    subst (λ r. Asks old.form c.args.number (standing_of old) c.args.line.now r (replied old.form c.args.number (standing_of c.trace.new.self) c.trace.result)) (ap Ok (sym c.in-Ok-Path.field-0-is) ∙ c.in-Ok-Path.ensures.request) (c.trace.ensures.asked c.args.number c.args.line.now)
