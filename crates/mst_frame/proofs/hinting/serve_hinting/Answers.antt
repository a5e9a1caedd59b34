use Rattle.std.proofs.Common.{rules, subst}
use Rattle.std.specs.Io.Buffered.{writer_inner}
use Rattle.mst_io.specs.Devices.{seen_by}
use Rattle.mst_hinting.specs.Listening.{Closed}
use Rattle.mst_hinting.proofs.Hearing.{errors_name, source_name}
use Rattle.mst_drive.specs.Words.{inputs}
use Rattle.mst_frame.specs.Framed.{AreTurned, EndsThrough}
use Rattle.mst_frame.proofs.Moved.{moved_both}
use Rattle.mst_frame.proofs.hinting.serve_hinting.Goals as goal

pub returns-clause-ends : goal.returns-clause-ends
returns-clause-ends g c =
    let see = seen_by g.F.Source.told g.F.Source.remaining g.F.Source.lent in
    let look = seen_by g.K.Sink.told g.K.Sink.contents g.K.Sink.lent in
    let ended = c.serve_behind-behind in
    let heard = ended.ensures.heard_first in
    let left = ended.new.first.source.now in
    let name = source_name see look c.new-hinting.result ended.new.first heard in
    subst (λ v. EndsThrough (g.W.Word.telling c.args.word.now) (inputs (g.F.Source.remaining c.args.first.now) (g.S.Source.remaining c.args.second.now) (g.T.Source.remaining c.args.third.now)) (inputs (g.F.Source.remaining v) (g.S.Source.remaining ended.new.second) (g.T.Source.remaining ended.new.third)) (g.O.Write.contents (writer_inner c.args.buffered.now)) (g.O.Write.contents (writer_inner ended.new.buffered)) ended.result.ended) (search rules)
    (subst (λ v. EndsThrough (g.W.Word.telling c.args.word.now) (inputs (g.F.Source.remaining v) (g.S.Source.remaining c.args.second.now) (g.T.Source.remaining c.args.third.now)) (inputs (g.F.Source.remaining left) (g.S.Source.remaining ended.new.second) (g.T.Source.remaining ended.new.third)) (g.O.Write.contents (writer_inner c.args.buffered.now)) (g.O.Write.contents (writer_inner ended.new.buffered)) ended.result.ended) c.new-hinting.ensures.source_now ended.ensures.ends)

pub returns-clause-turned : goal.returns-clause-turned
returns-clause-turned g c =
    let see = seen_by g.F.Source.told g.F.Source.remaining g.F.Source.lent in
    let look = seen_by g.K.Sink.told g.K.Sink.contents g.K.Sink.lent in
    let ended = c.serve_behind-behind in
    let heard = ended.ensures.heard_first in
    let left = ended.new.first.source.now in
    let name = source_name see look c.new-hinting.result ended.new.first heard in
    subst (λ v. AreTurned (g.W.Word.count c.args.word.now) (g.F.Source.told c.args.first.now) (g.F.Source.told v) (g.S.Source.told c.args.second.now) (g.S.Source.told ended.new.second) (g.T.Source.told c.args.third.now) (g.T.Source.told ended.new.third) ended.result.ended) (search rules)
    (subst (λ v. AreTurned (g.W.Word.count c.args.word.now) (g.F.Source.told v) (g.F.Source.told left) (g.S.Source.told c.args.second.now) (g.S.Source.told ended.new.second) (g.T.Source.told c.args.third.now) (g.T.Source.told ended.new.third) ended.result.ended) c.new-hinting.ensures.source_now ended.ensures.turned)

pub returns-clause-of_first : goal.returns-clause-of_first
returns-clause-of_first g c =
    let see = seen_by g.F.Source.told g.F.Source.remaining g.F.Source.lent in
    let look = seen_by g.K.Sink.told g.K.Sink.contents g.K.Sink.lent in
    let ended = c.serve_behind-behind in
    let heard = ended.ensures.heard_first in
    let left = ended.new.first.source.now in
    let name = source_name see look c.new-hinting.result ended.new.first heard in
    let errors = errors_name see look c.new-hinting.result ended.new.first heard in
    moved_both (λ v e. Closed c.args.hints c.args.scripts.first (see c.args.first.now) (see v) (look c.args.errors.now) (look e) c.close.result) (search rules) (search rules)
    (c.close.ensures.closes c.args.hints c.args.scripts.first c.args.first.now c.args.errors.now c.new-hinting.result (c.new-hinting.ensures.begins c.args.hints c.args.scripts.first c.new-telling.ensures) heard)
