use Rattle.std.proofs.Common.{arith}
use Rattle.std.proofs.lemmas.Result.{err_from_is_err_and}
use Rattle.mst_io.proofs.Known.{AppendsFront-parts}
use Rattle.mstplan.specs.Said.{part_text}
use Rattle.mstplan.proofs.said.put_each.Goals as goal

pub returns-in_err-put_part-clause-err : goal.returns-in_err-put_part-clause-err
returns-in_err-put_part-clause-err g c =
    let p = err_from_is_err_and c.from_residual.result c.from_residual.ensures.1 in
    rw p.1 (AppendsFront-parts part_text _ _ _ c.args.parts.now c.loop-part.part-index _ (omega arith) c.loop-part.invariant.written c.in_err-put_part.ensures.err)
