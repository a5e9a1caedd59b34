use Rattle.std.proofs.Common.{sym, subst}
use Rattle.mst_tool.proofs.engine_lemmas.print_lemmas.Plain.{plain_code, plain_text}
use Rattle.mst_rows.specs.Answers.{IsPlain}
use Rattle.mst_questions.proofs.Plain.{why_code, why_text}
use Rattle.mst_questions.proofs.asks.put_answer.Goals as goal

pub put_unanswered-requires-clause-plain_code : goal.put_unanswered-requires-clause-plain_code
put_unanswered-requires-clause-plain_code g c = subst IsPlain (sym c.code.ensures) (plain_code c.in-Unread.fault)

pub put_unanswered-requires-clause-plain_text : goal.put_unanswered-requires-clause-plain_text
put_unanswered-requires-clause-plain_text g c = subst IsPlain (sym c.text.ensures) (plain_text c.in-Unread.fault)

pub put_unanswered-requires-in-Refused-clause-plain_code : goal.put_unanswered-requires-in-Refused-clause-plain_code
put_unanswered-requires-in-Refused-clause-plain_code g c = subst IsPlain (sym c.code-in-Refused.ensures) (why_code c.in-Refused.why)

pub put_unanswered-requires-in-Refused-clause-plain_text : goal.put_unanswered-requires-in-Refused-clause-plain_text
put_unanswered-requires-in-Refused-clause-plain_text g c = subst IsPlain (sym c.text-in-Refused.ensures) (why_text c.in-Refused.why)

pub put_unanswered-requires-in-Undrawn-clause-plain_code : goal.put_unanswered-requires-in-Undrawn-clause-plain_code
put_unanswered-requires-in-Undrawn-clause-plain_code g c = subst IsPlain (sym c.code-in-Undrawn.ensures) (plain_code c.in-Undrawn.fault)

pub put_unanswered-requires-in-Undrawn-clause-plain_text : goal.put_unanswered-requires-in-Undrawn-clause-plain_text
put_unanswered-requires-in-Undrawn-clause-plain_text g c = subst IsPlain (sym c.text-in-Undrawn.ensures) (plain_text c.in-Undrawn.fault)

pub put_unanswered-requires-in-NotAdvised-clause-plain_code : goal.put_unanswered-requires-in-NotAdvised-clause-plain_code
put_unanswered-requires-in-NotAdvised-clause-plain_code g c = subst IsPlain (sym c.code-in-NotAdvised.ensures) (why_code c.in-NotAdvised.why)

pub put_unanswered-requires-in-NotAdvised-clause-plain_text : goal.put_unanswered-requires-in-NotAdvised-clause-plain_text
put_unanswered-requires-in-NotAdvised-clause-plain_text g c = subst IsPlain (sym c.text-in-NotAdvised.ensures) (why_text c.in-NotAdvised.why)

pub put_unanswered-requires-in-UnreadGoal-clause-plain_code : goal.put_unanswered-requires-in-UnreadGoal-clause-plain_code
put_unanswered-requires-in-UnreadGoal-clause-plain_code g c = subst IsPlain (sym c.code-in-UnreadGoal.ensures) (plain_code c.in-UnreadGoal.fault)

pub put_unanswered-requires-in-UnreadGoal-clause-plain_text : goal.put_unanswered-requires-in-UnreadGoal-clause-plain_text
put_unanswered-requires-in-UnreadGoal-clause-plain_text g c = subst IsPlain (sym c.text-in-UnreadGoal.ensures) (plain_text c.in-UnreadGoal.fault)
