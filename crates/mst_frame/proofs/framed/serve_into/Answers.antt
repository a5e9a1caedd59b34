use Rattle.std.proofs.Common.{sym, subst, ◌∙◌}
use Rattle.std.specs.Io.Buffered.{writer_buffer, writer_inner, writer_contents}
use Rattle.std.specs.Io.KnownBytes.{Keeps}
use Rattle.mst_drive.specs.Words.{Ended, inputs}
use Rattle.mst_frame.proofs.Through.{ends_broken, ends_written, ends_lost}
use Rattle.mst_frame.proofs.Kept.{append_known-nothing}
use Rattle.mst_frame.proofs.framed.serve_into.Goals as goal

pub returns-then-is_write_fault-clause-ends : goal.returns-then-is_write_fault-clause-ends
returns-then-is_write_fault-clause-ends g c =
    let telling = g.W.Word.telling c.args.word.now in
    let given = inputs (g.F.Source.remaining c.args.first.now) (g.S.Source.remaining c.args.second.now) (g.T.Source.remaining c.args.third.now) in
    let left = inputs (g.F.Source.remaining c.serve_to-ended.new.first) (g.S.Source.remaining c.serve_to-ended.new.second) (g.T.Source.remaining c.serve_to-ended.new.third) in
    let old = c.args.buffered.now in
    let new = c.serve_to-ended.new.writer in
    let ended = c.serve_to-ended.result in
    ends_broken telling given left (g.O.Write.contents (writer_inner old)) (g.O.Write.contents (writer_inner new)) (writer_buffer new) ended (sym c.is_write_fault.ensures ∙ c.if-is_write_fault.true)
    (subst (λ written. Ended telling given left written (writer_contents g.O.Write.contents new) ended) (append_known-nothing (g.O.Write.contents (writer_inner old)) (writer_buffer old) c.requires.empty) c.serve_to-ended.ensures.ended)

pub returns-in-Ok-clause-ends : goal.returns-in-Ok-clause-ends
returns-in-Ok-clause-ends g c =
    let telling = g.W.Word.telling c.args.word.now in
    let given = inputs (g.F.Source.remaining c.args.first.now) (g.S.Source.remaining c.args.second.now) (g.T.Source.remaining c.args.third.now) in
    let left = inputs (g.F.Source.remaining c.serve_to-ended.new.first) (g.S.Source.remaining c.serve_to-ended.new.second) (g.T.Source.remaining c.serve_to-ended.new.third) in
    let old = c.args.buffered.now in
    let mid = c.serve_to-ended.new.writer in
    let new = c.flush.new.self in
    let ended = c.serve_to-ended.result in
    ends_written telling given left (g.O.Write.contents (writer_inner old)) (writer_contents g.O.Write.contents mid) (g.O.Write.contents (writer_inner new)) ended (sym c.is_write_fault.ensures ∙ c.if-is_write_fault.false)
    (subst (λ written. Ended telling given left written (writer_contents g.O.Write.contents mid) ended) (append_known-nothing (g.O.Write.contents (writer_inner old)) (writer_buffer old) c.requires.empty) c.serve_to-ended.ensures.ended)
    (subst (Keeps (writer_contents g.O.Write.contents mid)) (append_known-nothing (g.O.Write.contents (writer_inner new)) (writer_buffer new) c.in-Ok.ensures.ok) c.in-Ok.ensures.bytes)

pub returns-in-Err-clause-ends : goal.returns-in-Err-clause-ends
returns-in-Err-clause-ends g c =
    let telling = g.W.Word.telling c.args.word.now in
    let given = inputs (g.F.Source.remaining c.args.first.now) (g.S.Source.remaining c.args.second.now) (g.T.Source.remaining c.args.third.now) in
    let left = inputs (g.F.Source.remaining c.serve_to-ended.new.first) (g.S.Source.remaining c.serve_to-ended.new.second) (g.T.Source.remaining c.serve_to-ended.new.third) in
    let old = c.args.buffered.now in
    let mid = c.serve_to-ended.new.writer in
    let new = c.flush.new.self in
    let ended = c.serve_to-ended.result in
    ends_lost telling given left (g.O.Write.contents (writer_inner old)) (writer_contents g.O.Write.contents mid) (g.O.Write.contents (writer_inner new)) (writer_buffer new) ended
    (subst (λ written. Ended telling given left written (writer_contents g.O.Write.contents mid) ended) (append_known-nothing (g.O.Write.contents (writer_inner old)) (writer_buffer old) c.requires.empty) c.serve_to-ended.ensures.ended)
    c.in-Err.ensures.bytes
