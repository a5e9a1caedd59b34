use Rattle.std.proofs.Common.{◌∷◌, ◌++◌, subst, sym}
use Rattle.std.proofs.lemmas.Result.{on_ok_weaker, on_err_weaker}
use Rattle.mst_drive.specs.Feeding.{BreaksIn, Feeds}
use Rattle.mst_drive.proofs.Feeds.{Breaks-line, Feeds-line, first_front}
use Rattle.mst_drive.proofs.feed.end_line.Goals as goal

pub returns-clause-err : goal.returns-clause-err
returns-clause-err g c =
    let tells = g.J.Job.tells in
    let old = c.args.job.now in
    let number = c.args.number.now in
    let written = g.K.Sink.contents c.args.sink.now in
    let now = g.K.Sink.contents c.put.new.sink in
    on_err_weaker c.put.result (λ front. Breaks-line tells written now old number c.args.held.now (λ others. subst (λ line. BreaksIn tells written now old number (line ∷ others)) c.line.ensures
    (first_front tells written now old c.take-said.new.self number c.line.result.now (g.J.Said.Says.text c.take-said.result) others c.take-said.ensures.tells (c.goes_on.ensures.some others) front))) c.put.ensures.err

pub returns-clause-ok : goal.returns-clause-ok
returns-clause-ok g c =
    let tells = g.J.Job.tells in
    let old = c.args.job.now in
    let number = c.args.number.now in
    let said = g.J.Said.Says.text c.take-said.result in
    on_ok_weaker c.put.result (λ went. (
      said,
      subst (Feeds tells old number c.args.held.now _ said c.take-said.new.self _) (sym c.clear.ensures)
          (Feeds-line tells old c.take-said.new.self number c.args.held.now said (λ others more after h. subst (λ line. tells old number (line ∷ others) (said ++ more) after) c.line.ensures (c.take-said.ensures.tells others more after h))),
      went,
    )) c.put.ensures.ok
