use Rattle.std.proofs.Common.{◌∙◌, sym, ap, subst}
use Rattle.std.specs.Prelude.{OnOk, OnErr}
use Rattle.std.specs.Io.KnownBytes.{Appends}
use Rattle.mst_kinds.specs.Words.{mark_text}
use Rattle.mst_io.specs.Written.{AppendsFront}
use Rattle.mst_print.specs.Parts.{word_line, word_object}
use Rattle.mst_print.specs.Shape.{unanswered}
use Rattle.mst_print.proofs.Parts.{word_line_is, word_object_is}
use Rattle.mst_print.proofs.unanswered.put_unanswered.Goals as goal

pub returns-in-Text-clause-ok : goal.returns-in-Text-clause-ok
returns-in-Text-clause-ok g c =
    let old = g.K.Sink.contents c.args.sink.now in
    let new = g.K.Sink.contents c.put_line.new.sink in
    subst (λ t. OnOk c.put_line.result (Appends old new t)) (ap (λ w. word_line w c.args.code.now c.args.text.now) (c.text-word.ensures ∙ ap mark_text c.first.ensures) ∙ word_line_is c.args.line c.args.code.now c.args.text.now c.requires.question ∙ ap (λ f. unanswered f c.args.line c.args.code.now c.args.text.now) (sym c.in-Text.is)) c.put_line.ensures.ok

pub returns-in-Text-clause-err : goal.returns-in-Text-clause-err
returns-in-Text-clause-err g c =
    let old = g.K.Sink.contents c.args.sink.now in
    let new = g.K.Sink.contents c.put_line.new.sink in
    subst (λ t. OnErr c.put_line.result (AppendsFront old new t)) (ap (λ w. word_line w c.args.code.now c.args.text.now) (c.text-word.ensures ∙ ap mark_text c.first.ensures) ∙ word_line_is c.args.line c.args.code.now c.args.text.now c.requires.question ∙ ap (λ f. unanswered f c.args.line c.args.code.now c.args.text.now) (sym c.in-Text.is)) c.put_line.ensures.err

pub returns-in-Json-clause-ok : goal.returns-in-Json-clause-ok
returns-in-Json-clause-ok g c =
    let old = g.K.Sink.contents c.args.sink.now in
    let new = g.K.Sink.contents c.put_object.new.sink in
    subst (λ t. OnOk c.put_object.result (Appends old new t)) (ap (λ w. word_object w c.args.code.now c.args.text.now) (c.text-word.ensures ∙ ap mark_text c.first.ensures) ∙ word_object_is c.args.line c.args.code.now c.args.text.now c.requires.question c.requires.plain_code c.requires.plain_text ∙ ap (λ f. unanswered f c.args.line c.args.code.now c.args.text.now) (sym c.in-Json.is)) c.put_object.ensures.ok

pub returns-in-Json-clause-err : goal.returns-in-Json-clause-err
returns-in-Json-clause-err g c =
    let old = g.K.Sink.contents c.args.sink.now in
    let new = g.K.Sink.contents c.put_object.new.sink in
    subst (λ t. OnErr c.put_object.result (AppendsFront old new t)) (ap (λ w. word_object w c.args.code.now c.args.text.now) (c.text-word.ensures ∙ ap mark_text c.first.ensures) ∙ word_object_is c.args.line c.args.code.now c.args.text.now c.requires.question c.requires.plain_code c.requires.plain_text ∙ ap (λ f. unanswered f c.args.line c.args.code.now c.args.text.now) (sym c.in-Json.is)) c.put_object.ensures.err
