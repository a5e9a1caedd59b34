use Rattle.std.proofs.Common.{◌∙◌, ◌∷◌, [], List, ℕ, sym, ap, subst}
use Rattle.std.specs.Prelude.{OnOk, OnErr, codes}
use Rattle.std.specs.Io.KnownBytes.{Appends}
use Rattle.mst_bpdu.specs.CaptureText.{fault_row}
use Rattle.mst_io.specs.Written.{AppendsFront}
use Rattle.mst_print.specs.Parts.{code_line, code_object}
use Rattle.mst_print.specs.Shape.{listed}
use Rattle.mst_print.proofs.Parts.{fault_is, record_is}
use Rattle.mst_print.proofs.refused.put_fault.Goals as goal

pub returns-in-Text-clause-ok : goal.returns-in-Text-clause-ok
returns-in-Text-clause-ok g c =
    let old = g.K.Sink.contents c.args.sink.now in
    let new = g.K.Sink.contents c.put_line.new.sink in
    subst (λ t. OnOk c.put_line.result (Appends old new t)) ((λ i. code_line (codes "capture ") c.args.number (c.code-code.ensures i) (c.text-text.ensures i)) ∙ fault_is c.args.number c.args.fault ∙ ap (λ f. listed f (fault_row c.args.number c.args.fault ∷ [])) (sym c.in-Text.is)) c.put_line.ensures.ok

pub returns-in-Text-clause-err : goal.returns-in-Text-clause-err
returns-in-Text-clause-err g c =
    let old = g.K.Sink.contents c.args.sink.now in
    let new = g.K.Sink.contents c.put_line.new.sink in
    subst (λ t. OnErr c.put_line.result (AppendsFront old new t)) ((λ i. code_line (codes "capture ") c.args.number (c.code-code.ensures i) (c.text-text.ensures i)) ∙ fault_is c.args.number c.args.fault ∙ ap (λ f. listed f (fault_row c.args.number c.args.fault ∷ [])) (sym c.in-Text.is)) c.put_line.ensures.err

pub returns-in-Json-clause-ok : goal.returns-in-Json-clause-ok
returns-in-Json-clause-ok g c =
    let old = g.K.Sink.contents c.args.sink.now in
    let new = g.K.Sink.contents c.put_object.new.sink in
    subst (λ t. OnOk c.put_object.result (Appends old new t)) ((λ i. code_object (codes "\"kind\":\"capture\",") c.args.number (c.code-code.ensures i) (c.text-text.ensures i)) ∙ record_is c.args.number c.args.fault ∙ ap (λ f. listed f (fault_row c.args.number c.args.fault ∷ [])) (sym c.in-Json.is)) c.put_object.ensures.ok

pub returns-in-Json-clause-err : goal.returns-in-Json-clause-err
returns-in-Json-clause-err g c =
    let old = g.K.Sink.contents c.args.sink.now in
    let new = g.K.Sink.contents c.put_object.new.sink in
    subst (λ t. OnErr c.put_object.result (AppendsFront old new t)) ((λ i. code_object (codes "\"kind\":\"capture\",") c.args.number (c.code-code.ensures i) (c.text-text.ensures i)) ∙ record_is c.args.number c.args.fault ∙ ap (λ f. listed f (fault_row c.args.number c.args.fault ∷ [])) (sym c.in-Json.is)) c.put_object.ensures.err
