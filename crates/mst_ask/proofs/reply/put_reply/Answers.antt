use Rattle.std.proofs.lemmas.Result.{err_from_is_err_and, on_err_weaker}
use Rattle.mst_io.proofs.Known.{AppendsFront-after, AppendsFront-longer}
use Rattle.mst_ask.specs.Replies.{body_of, end_of}
use Rattle.mst_ask.proofs.reply.put_reply.Goals as goal

pub returns-in_err-put_body-clause-err : goal.returns-in_err-put_body-clause-err
returns-in_err-put_body-clause-err g c =
    let p = err_from_is_err_and c.from_residual.result c.from_residual.ensures.1 in
    rw p.1 (AppendsFront-longer _ _ (body_of c.args.form c.args.number c.args.reply.now) (end_of c.args.form c.args.reply.now) c.in_err-put_body.ensures.err)

pub returns-clause-err : goal.returns-clause-err
returns-clause-err g c =
    on_err_weaker c.put_end.result (λ front. AppendsFront-after _ _ _ (body_of c.args.form c.args.number c.args.reply.now) (end_of c.args.form c.args.reply.now) c.in_ok-put_body.ensures.ok front) c.put_end.ensures.err
