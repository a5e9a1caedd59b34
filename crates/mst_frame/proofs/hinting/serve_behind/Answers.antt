use Rattle.std.proofs.Common.{◌≡◌, ap, rules, subst, ◌∙◌}
use Rattle.std.specs.Io.Buffered.{writer_inner}
use Rattle.mst_io.specs.Devices.{seen_by}
use Rattle.mst_hinting.specs.Listening.{Closed}
use Rattle.mst_hinting.proofs.Hearing.{errors_lent, errors_name, source_name}
use Rattle.mst_drive.specs.Words.{inputs}
use Rattle.mst_frame.specs.Framed.{AreTurned, EndsThrough}
use Rattle.mst_frame.specs.Hinted.{are_told, script_of}
use Rattle.mst_frame.proofs.Moved.{moved_both}
use Rattle.mst_frame.proofs.hinting.serve_behind.Goals as goal

pub returns-clause-ends : goal.returns-clause-ends
returns-clause-ends g c =
    let see = seen_by g.S.Source.told g.S.Source.remaining g.S.Source.lent in
    let look = seen_by g.A.Sink.told g.A.Sink.contents g.A.Sink.lent in
    let ended = c.serve_third-ended in
    let heard = ended.ensures.heard_second in
    let left = ended.new.second.source.now in
    let name = source_name see look c.new-hinting.result ended.new.second heard in
    subst (λ v. EndsThrough (g.W.Word.telling c.args.word.now) (inputs (g.F.Source.remaining c.args.first.now) (g.S.Source.remaining c.args.second.now) (g.T.Source.remaining c.args.third.now)) (inputs (g.F.Source.remaining ended.new.first) (g.S.Source.remaining v) (g.T.Source.remaining ended.new.third)) (g.O.Write.contents (writer_inner c.args.buffered.now)) (g.O.Write.contents (writer_inner ended.new.buffered)) ended.result.0) (search rules)
    (subst (λ v. EndsThrough (g.W.Word.telling c.args.word.now) (inputs (g.F.Source.remaining c.args.first.now) (g.S.Source.remaining v) (g.T.Source.remaining c.args.third.now)) (inputs (g.F.Source.remaining ended.new.first) (g.S.Source.remaining left) (g.T.Source.remaining ended.new.third)) (g.O.Write.contents (writer_inner c.args.buffered.now)) (g.O.Write.contents (writer_inner ended.new.buffered)) ended.result.0) c.new-hinting.ensures.source_now ended.ensures.ends)

pub returns-clause-turned : goal.returns-clause-turned
returns-clause-turned g c =
    let see = seen_by g.S.Source.told g.S.Source.remaining g.S.Source.lent in
    let look = seen_by g.A.Sink.told g.A.Sink.contents g.A.Sink.lent in
    let ended = c.serve_third-ended in
    let heard = ended.ensures.heard_second in
    let left = ended.new.second.source.now in
    let name = source_name see look c.new-hinting.result ended.new.second heard in
    subst (λ v. AreTurned (g.W.Word.count c.args.word.now) (g.F.Source.told c.args.first.now) (g.F.Source.told ended.new.first) (g.S.Source.told c.args.second.now) (g.S.Source.told v) (g.T.Source.told c.args.third.now) (g.T.Source.told ended.new.third) ended.result.0) (search rules)
    (subst (λ v. AreTurned (g.W.Word.count c.args.word.now) (g.F.Source.told c.args.first.now) (g.F.Source.told ended.new.first) (g.S.Source.told v) (g.S.Source.told left) (g.T.Source.told c.args.third.now) (g.T.Source.told ended.new.third) ended.result.0) c.new-hinting.ensures.source_now ended.ensures.turned)

pub returns-clause-of_second : goal.returns-clause-of_second
returns-clause-of_second g c =
    let see = seen_by g.S.Source.told g.S.Source.remaining g.S.Source.lent in
    let look = seen_by g.A.Sink.told g.A.Sink.contents g.A.Sink.lent in
    let ended = c.serve_third-ended in
    let heard = ended.ensures.heard_second in
    let left = ended.new.second.source.now in
    let name = source_name see look c.new-hinting.result ended.new.second heard in
    let errors = errors_name see look c.new-hinting.result ended.new.second heard in
    moved_both (λ v e. Closed (are_told c.args.hints c.args.scripts.second) (script_of c.args.scripts.second) (see c.args.second.now) (see v) (look c.args.aside.now) (look e) c.close.result) (search rules) (search rules)
    (c.close.ensures.closes (are_told c.args.hints c.args.scripts.second) (script_of c.args.scripts.second) c.args.second.now c.args.aside.now c.new-hinting.result (c.new-hinting.ensures.begins (are_told c.args.hints c.args.scripts.second) (script_of c.args.scripts.second) c.telling_of-telling.ensures) heard)

pub returns-clause-lent_aside : goal.returns-clause-lent_aside
returns-clause-lent_aside g c =
    let see = seen_by g.S.Source.told g.S.Source.remaining g.S.Source.lent in
    let look = seen_by g.A.Sink.told g.A.Sink.contents g.A.Sink.lent in
    let ended = c.serve_third-ended in
    let heard = ended.ensures.heard_second in
    let left = ended.new.second.source.now in
    let name = source_name see look c.new-hinting.result ended.new.second heard in
    let errors = errors_name see look c.new-hinting.result ended.new.second heard in
    let same = c.close.ensures.lent_errors ∙ errors_lent see look c.new-hinting.result ended.new.second heard ∙ ap g.A.Sink.lent c.new-hinting.ensures.errors_now in
    subst (λ v. g.A.Sink.lent v ≡ g.A.Sink.lent c.args.aside.now) (search rules) same
