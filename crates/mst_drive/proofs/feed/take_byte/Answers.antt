use Rattle.std.proofs.Common.{sym, ◌∷◌, [], subst}
use Rattle.std.proofs.KnownBytes.{Appends-nil}
use Rattle.std.proofs.lemmas.Result.{on_ok_weaker, on_err_weaker}
use Rattle.mst_drive.specs.Feeding.{Breaks, Feeds}
use Rattle.mst_drive.proofs.Feeds.{Feeds-byte}
use Rattle.mst_drive.proofs.feed.take_byte.Goals as goal

pub returns-then-byte-eq10-clause-ok : goal.returns-then-byte-eq10-clause-ok
returns-then-byte-eq10-clause-ok g c =
    let tells = g.J.Job.tells in
    on_ok_weaker c.end_line.result (λ h. (
      h.0,
      subst (λ b. Feeds tells c.args.job.now c.args.number.now c.args.held.now (b ∷ []) h.0 c.end_line.new.job c.end_line.new.number c.end_line.new.held) (sym c.if-byte-eq10.true) h.1,
      h.2,
    )) c.end_line.ensures.ok

pub returns-then-byte-eq10-clause-err : goal.returns-then-byte-eq10-clause-err
returns-then-byte-eq10-clause-err g c =
    let tells = g.J.Job.tells in
    let written = g.K.Sink.contents c.args.sink.now in
    let now = g.K.Sink.contents c.end_line.new.sink in
    on_err_weaker c.end_line.result (λ h. subst (λ b. Breaks tells written now c.args.job.now c.args.number.now c.args.held.now (b ∷ [])) (sym c.if-byte-eq10.true) h) c.end_line.ensures.err

pub returns-clause-ok : goal.returns-clause-ok
returns-clause-ok g c =
    let tells = g.J.Job.tells in
    let job = c.args.job.now in
    ([], subst (Feeds tells job c.args.number.now c.args.held.now _ [] job c.args.number.now) (sym c.push.ensures) (Feeds-byte tells job c.args.number.now c.args.held.now c.args.byte c.if-byte-eq10.false), Appends-nil _)
