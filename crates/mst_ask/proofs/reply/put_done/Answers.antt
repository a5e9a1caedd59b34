use Rattle.std.proofs.Common.{◌++◌, ◌∙◌, [], codes, sym, ap, subst}
use Rattle.std.specs.Prelude.{OnOk, OnErr}
use Rattle.std.specs.Io.KnownBytes.{Appends}
use Rattle.mst_io.specs.Written.{AppendsFront}
use Rattle.mst_ask.specs.Standing.{done}
use Rattle.mst_ask.proofs.Done.{record_is}
use Rattle.mst_ask.proofs.reply.put_done.Goals as goal

pub returns-in-Json-clause-ok : goal.returns-in-Json-clause-ok
returns-in-Json-clause-ok g c =
    let old = g.K.Sink.contents c.args.sink.now in
    let new = g.K.Sink.contents c.put_parts-in-Json.new.sink in
    subst (λ t. OnOk c.put_parts-in-Json.result (Appends old new t))
    (ap (λ d. codes "{\"kind\":\"done\",\"status\":" ++ (d ++ (codes "}\n" ++ []))) (c.as_bytes-status.ensures.value ∙ c.format.ensures.text) ∙ record_is c.status.result
    ∙ (λ i. done (sym c.in-Json.is i) (c.status.ensures i))) c.put_parts-in-Json.ensures.ok

pub returns-in-Json-clause-err : goal.returns-in-Json-clause-err
returns-in-Json-clause-err g c =
    let old = g.K.Sink.contents c.args.sink.now in
    let new = g.K.Sink.contents c.put_parts-in-Json.new.sink in
    subst (λ t. OnErr c.put_parts-in-Json.result (AppendsFront old new t))
    (ap (λ d. codes "{\"kind\":\"done\",\"status\":" ++ (d ++ (codes "}\n" ++ []))) (c.as_bytes-status.ensures.value ∙ c.format.ensures.text) ∙ record_is c.status.result
    ∙ (λ i. done (sym c.in-Json.is i) (c.status.ensures i))) c.put_parts-in-Json.ensures.err
