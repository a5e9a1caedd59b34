use Rattle.std.proofs.Common.{sym, subst}
use Rattle.mst_rows.specs.Answers.{IsPlain}
use Rattle.mst_print.proofs.Plain.{plain_code, plain_text}
use Rattle.mst_engine.proofs.engine.print.Goals as goal

pub put_coded-requires-clause-plain_code : goal.put_coded-requires-clause-plain_code
put_coded-requires-clause-plain_code g c = subst IsPlain (sym c.code.ensures) (plain_code c.in-Unread.fault)

pub put_coded-requires-clause-plain_text : goal.put_coded-requires-clause-plain_text
put_coded-requires-clause-plain_text g c = subst IsPlain (sym c.text.ensures) (plain_text c.in-Unread.fault)
