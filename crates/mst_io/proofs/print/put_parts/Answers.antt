use Rattle.std.proofs.Common.{arith}
use Rattle.std.proofs.lemmas.Result.{err_from_is_err_and}
use Rattle.mst_io.proofs.Known.{AppendsFront-parts}
use Rattle.mst_io.proofs.print.put_parts.Goals as goal

pub returns-in_err-put-clause-err : goal.returns-in_err-put-clause-err
returns-in_err-put-clause-err g c =
    let p = err_from_is_err_and c.from_residual.result c.from_residual.ensures.1 in
    rw p.1 (AppendsFront-parts (λ part. part.now) _ _ _ c.args.parts.now c.loop-part.part-index _ (omega arith) c.loop-part.invariant.written c.in_err-put.ensures.err)
