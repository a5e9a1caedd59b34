use Rattle.std.proofs.Common.{sym, subst}
use Rattle.mst_rows.specs.Answers.{IsPlain}
use Rattle.mst_print.proofs.Plain.{refusal_code, refusal_text}
use Rattle.mst_print.proofs.refused.put_refusal.Goals as goal

pub put_coded-requires-clause-plain_code : goal.put_coded-requires-clause-plain_code
put_coded-requires-clause-plain_code g c = subst IsPlain (sym c.code.ensures) (refusal_code c.args.refusal)

pub put_coded-requires-clause-plain_text : goal.put_coded-requires-clause-plain_text
put_coded-requires-clause-plain_text g c = subst IsPlain (sym c.text.ensures) (refusal_text c.args.refusal)
