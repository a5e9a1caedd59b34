use Rattle.std.proofs.Common.{◌∙◌, sym, ap, subst}
use Rattle.std.specs.Prelude.{OnOk, OnErr}
use Rattle.std.specs.Io.KnownBytes.{Appends}
use Rattle.mst_io.specs.Written.{AppendsFront}
use Rattle.mst_print.specs.Parts.{code_line, code_object}
use Rattle.mst_print.specs.Shape.{coded_in}
use Rattle.mst_print.proofs.Parts.{line_is, object_is}
use Rattle.mst_print.proofs.refused.put_coded.Goals as goal

pub returns-in-Text-clause-ok : goal.returns-in-Text-clause-ok
returns-in-Text-clause-ok g c =
    let old = g.K.Sink.contents c.args.sink.now in
    let new = g.K.Sink.contents c.put_line.new.sink in
    subst (λ t. OnOk c.put_line.result (Appends old new t)) (ap (λ w. code_line w c.args.number c.args.code.now c.args.text.now) c.word.ensures ∙ line_is c.args.shape.side c.args.number c.args.code.now c.args.text.now ∙ ap (λ f. coded_in f c.args.shape.side c.args.number c.args.code.now c.args.text.now) (sym c.in-Text.is)) c.put_line.ensures.ok

pub returns-in-Text-clause-err : goal.returns-in-Text-clause-err
returns-in-Text-clause-err g c =
    let old = g.K.Sink.contents c.args.sink.now in
    let new = g.K.Sink.contents c.put_line.new.sink in
    subst (λ t. OnErr c.put_line.result (AppendsFront old new t)) (ap (λ w. code_line w c.args.number c.args.code.now c.args.text.now) c.word.ensures ∙ line_is c.args.shape.side c.args.number c.args.code.now c.args.text.now ∙ ap (λ f. coded_in f c.args.shape.side c.args.number c.args.code.now c.args.text.now) (sym c.in-Text.is)) c.put_line.ensures.err

pub returns-in-Json-clause-ok : goal.returns-in-Json-clause-ok
returns-in-Json-clause-ok g c =
    let old = g.K.Sink.contents c.args.sink.now in
    let new = g.K.Sink.contents c.put_object.new.sink in
    subst (λ t. OnOk c.put_object.result (Appends old new t)) (ap (λ w. code_object w c.args.number c.args.code.now c.args.text.now) c.side_member.ensures ∙ object_is c.args.shape.side c.args.number c.args.code.now c.args.text.now c.requires.plain_code c.requires.plain_text ∙ ap (λ f. coded_in f c.args.shape.side c.args.number c.args.code.now c.args.text.now) (sym c.in-Json.is)) c.put_object.ensures.ok

pub returns-in-Json-clause-err : goal.returns-in-Json-clause-err
returns-in-Json-clause-err g c =
    let old = g.K.Sink.contents c.args.sink.now in
    let new = g.K.Sink.contents c.put_object.new.sink in
    subst (λ t. OnErr c.put_object.result (AppendsFront old new t)) (ap (λ w. code_object w c.args.number c.args.code.now c.args.text.now) c.side_member.ensures ∙ object_is c.args.shape.side c.args.number c.args.code.now c.args.text.now c.requires.plain_code c.requires.plain_text ∙ ap (λ f. coded_in f c.args.shape.side c.args.number c.args.code.now c.args.text.now) (sym c.in-Json.is)) c.put_object.ensures.err
