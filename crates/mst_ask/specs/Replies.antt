-- What replies print, and the turns that they give.
use Rattle.std.specs.Prelude.{ℕ, ◌==◌, false, not, List, [], ◌++◌}
use Rattle.mst_questions.specs.tool.engine.Engine as engine
use Rattle.mst_questions.specs.tool.engine.declared.engine.Reply.{Reply as LineReply}
use Rattle.mst_questions.specs.tool.engine.print.Shape.{of_script}
use Rattle.mst_questions.specs.tool.engine.print.declared.form.Form.{Form}
use Rattle.mst_questions.specs.Ask.{answer_text, told_of}
use Rattle.mst_questions.specs.declared.asks.Answer.{Answer as ToolAnswer}
use Rattle.mst_tracing.specs.Trace as trace
use Rattle.mst_tracing.specs.declared.traces.PathAnswer.{PathAnswer}
use Rattle.mst_verifying.specs.declared.verifies.Verification.{Verification}
use Rattle.mst_ask.specs.Standing.{Standing, Turn, done, status_by}
use Rattle.mst_ask.specs.declared.reply.Reply.{Reply}
use Rattle.mst_ask.specs.declared.reply.Reply.TheVariants.{Silent, Line, Answer, Undone, Verified, Traced}
use Rattle.mst_ask.specs.declared.reply.Verdict.{Verdict}

-- how a line of a script, a word of the program, a question by the policy and `path` were answered
abbrev pub verdict_of_line : LineReply → Verdict
verdict_of_line reply = record { refused = engine.is_refusal reply; lacking = engine.is_starved reply; differs = engine.is_difference reply }

abbrev pub verdict_of_answer : ToolAnswer → Verdict
verdict_of_answer answer = record { refused = not ((told_of answer).refused == 0); lacking = false; differs = not ((told_of answer).differing == 0) }

abbrev pub verdict_of_verification : Verification → Verdict
verdict_of_verification found = record { refused = not (found.refused == 0); lacking = false; differs = not (found.telling == 0) }

abbrev pub verdict_of_path : PathAnswer → Verdict
verdict_of_path answer = record { refused = not ((trace.told_of answer).refused == 0); lacking = false; differs = not ((trace.told_of answer).differing == 0) }

abbrev pub given : Verdict
given = record { refused = false; lacking = false; differs = false }

abbrev pub verdict_of : Reply → Verdict
verdict_of Silent = given
verdict_of (Line reply) = verdict_of_line reply
verdict_of (Answer answer) = verdict_of_answer answer
verdict_of (Undone text) = given
verdict_of (Verified found) = verdict_of_verification found
verdict_of (Traced answer) = verdict_of_path answer

-- what stands before the end of an answer
abbrev pub body_of : Form → ℕ → Reply → List ℕ
body_of form number Silent = []
body_of form number (Line reply) = engine.reply_text (of_script form) number reply
body_of form number (Answer answer) = answer_text form answer
body_of form number (Undone text) = text.items
body_of form number (Verified found) = found.text.items
body_of form number (Traced answer) = trace.answer_text form answer

abbrev pub status_of : Verdict → ℕ
status_of v = status_by v.refused v.lacking v.differs

-- the end of an answer, if it is one
abbrev pub end_of : Form → Reply → List ℕ
end_of form Silent = []
end_of form (Line reply) = done form (status_of (verdict_of (Line reply)))
end_of form (Answer answer) = done form (status_of (verdict_of (Answer answer)))
end_of form (Undone text) = done form (status_of (verdict_of (Undone text)))
end_of form (Verified found) = done form (status_of (verdict_of (Verified found)))
end_of form (Traced answer) = done form (status_of (verdict_of (Traced answer)))

abbrev pub reply_text : Form → ℕ → Reply → List ℕ
reply_text form number reply = body_of form number reply ++ end_of form reply

-- the turn that leaves this and has this reply
abbrev pub replied : Form → ℕ → Standing → Reply → Turn
replied form number next reply = record {
  standing = next;
  text = reply_text form number reply;
  refused = (verdict_of reply).refused;
  lacking = (verdict_of reply).lacking;
  differs = (verdict_of reply).differs;
}
