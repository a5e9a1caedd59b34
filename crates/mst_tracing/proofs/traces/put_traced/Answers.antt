use Rattle.std.proofs.Common.{sym, subst}
use Rattle.mst_tool.proofs.engine_lemmas.print_lemmas.Plain.{plain_code, plain_text, refusal_code, refusal_text}
use Rattle.mst_rows.specs.Answers.{IsPlain}
use Rattle.mst_tracing.proofs.traces.put_traced.Goals as goal

pub put_unanswered-requires-clause-plain_code : goal.put_unanswered-requires-clause-plain_code
put_unanswered-requires-clause-plain_code g c = subst IsPlain (sym c.code.ensures) (plain_code c.in-Unread.fault)

pub put_unanswered-requires-clause-plain_text : goal.put_unanswered-requires-clause-plain_text
put_unanswered-requires-clause-plain_text g c = subst IsPlain (sym c.text.ensures) (plain_text c.in-Unread.fault)

pub put_unanswered-requires-in-Refused-clause-plain_code : goal.put_unanswered-requires-in-Refused-clause-plain_code
put_unanswered-requires-in-Refused-clause-plain_code g c = subst IsPlain (sym c.code-in-Refused.ensures) (refusal_code c.in-Refused.why)

pub put_unanswered-requires-in-Refused-clause-plain_text : goal.put_unanswered-requires-in-Refused-clause-plain_text
put_unanswered-requires-in-Refused-clause-plain_text g c = subst IsPlain (sym c.text-in-Refused.ensures) (refusal_text c.in-Refused.why)
