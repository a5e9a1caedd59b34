use Rattle.std.proofs.Common.{◌≡◌, ap, rules, subst, ◌∙◌}
use Rattle.std.specs.Io.Buffered.{writer_inner}
use Rattle.mst_io.specs.Devices.{seen_by}
use Rattle.mst_hinting.specs.Listening.{Closed}
use Rattle.mst_hinting.proofs.Hearing.{errors_lent, errors_name, source_name}
use Rattle.mst_drive.specs.Words.{inputs}
use Rattle.mst_frame.specs.Framed.{AreTurned, EndsThrough}
use Rattle.mst_frame.specs.Hinted.{are_told, script_of}
use Rattle.mst_frame.proofs.Moved.{moved_both}
use Rattle.mst_frame.proofs.hinting.serve_third.Goals as goal

pub returns-clause-ends : goal.returns-clause-ends
returns-clause-ends g c =
    let see = seen_by g.T.Source.told g.T.Source.remaining g.T.Source.lent in
    let look = seen_by g.A.Sink.told g.A.Sink.contents g.A.Sink.lent in
    let ended = c.serve_into-ended in
    let heard = ended.ensures.heard_third in
    let left = ended.new.third.source.now in
    let name = source_name see look c.new-hinting.result ended.new.third heard in
    subst (λ v. EndsThrough (g.W.Word.telling c.args.word.now) (inputs (g.F.Source.remaining c.args.first.now) (g.S.Source.remaining c.args.second.now) (g.T.Source.remaining c.args.third.now)) (inputs (g.F.Source.remaining ended.new.first) (g.S.Source.remaining ended.new.second) (g.T.Source.remaining v)) (g.O.Write.contents (writer_inner c.args.buffered.now)) (g.O.Write.contents (writer_inner ended.new.buffered)) ended.result) (search rules)
    (subst (λ v. EndsThrough (g.W.Word.telling c.args.word.now) (inputs (g.F.Source.remaining c.args.first.now) (g.S.Source.remaining c.args.second.now) (g.T.Source.remaining v)) (inputs (g.F.Source.remaining ended.new.first) (g.S.Source.remaining ended.new.second) (g.T.Source.remaining left)) (g.O.Write.contents (writer_inner c.args.buffered.now)) (g.O.Write.contents (writer_inner ended.new.buffered)) ended.result) c.new-hinting.ensures.source_now ended.ensures.ends)

pub returns-clause-turned : goal.returns-clause-turned
returns-clause-turned g c =
    let see = seen_by g.T.Source.told g.T.Source.remaining g.T.Source.lent in
    let look = seen_by g.A.Sink.told g.A.Sink.contents g.A.Sink.lent in
    let ended = c.serve_into-ended in
    let heard = ended.ensures.heard_third in
    let left = ended.new.third.source.now in
    let name = source_name see look c.new-hinting.result ended.new.third heard in
    subst (λ v. AreTurned (g.W.Word.count c.args.word.now) (g.F.Source.told c.args.first.now) (g.F.Source.told ended.new.first) (g.S.Source.told c.args.second.now) (g.S.Source.told ended.new.second) (g.T.Source.told c.args.third.now) (g.T.Source.told v) ended.result) (search rules)
    (subst (λ v. AreTurned (g.W.Word.count c.args.word.now) (g.F.Source.told c.args.first.now) (g.F.Source.told ended.new.first) (g.S.Source.told c.args.second.now) (g.S.Source.told ended.new.second) (g.T.Source.told v) (g.T.Source.told left) ended.result) c.new-hinting.ensures.source_now ended.ensures.turned)

pub returns-clause-of_third : goal.returns-clause-of_third
returns-clause-of_third g c =
    let see = seen_by g.T.Source.told g.T.Source.remaining g.T.Source.lent in
    let look = seen_by g.A.Sink.told g.A.Sink.contents g.A.Sink.lent in
    let ended = c.serve_into-ended in
    let heard = ended.ensures.heard_third in
    let left = ended.new.third.source.now in
    let name = source_name see look c.new-hinting.result ended.new.third heard in
    let errors = errors_name see look c.new-hinting.result ended.new.third heard in
    moved_both (λ v e. Closed (are_told c.args.hints c.args.of) (script_of c.args.of) (see c.args.third.now) (see v) (look c.args.aside.now) (look e) c.close.result) (search rules) (search rules)
    (c.close.ensures.closes (are_told c.args.hints c.args.of) (script_of c.args.of) c.args.third.now c.args.aside.now c.new-hinting.result (c.new-hinting.ensures.begins (are_told c.args.hints c.args.of) (script_of c.args.of) c.telling_of-telling.ensures) heard)

pub returns-clause-lent_aside : goal.returns-clause-lent_aside
returns-clause-lent_aside g c =
    let see = seen_by g.T.Source.told g.T.Source.remaining g.T.Source.lent in
    let look = seen_by g.A.Sink.told g.A.Sink.contents g.A.Sink.lent in
    let ended = c.serve_into-ended in
    let heard = ended.ensures.heard_third in
    let left = ended.new.third.source.now in
    let name = source_name see look c.new-hinting.result ended.new.third heard in
    let errors = errors_name see look c.new-hinting.result ended.new.third heard in
    let same = c.close.ensures.lent_errors ∙ errors_lent see look c.new-hinting.result ended.new.third heard ∙ ap g.A.Sink.lent c.new-hinting.ensures.errors_now in
    subst (λ v. g.A.Sink.lent v ≡ g.A.Sink.lent c.args.aside.now) (search rules) same
