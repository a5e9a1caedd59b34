use Rattle.std.proofs.Common.{◌++◌, [], append-nil, codes, ap, ap₂, subst, ◌∙◌}
use Rattle.mst_io.specs.Devices.{seen_by}
use Rattle.mstplan.specs.Said.{IsSaid, shown}
use Rattle.mstplan.proofs.endings.tell_word.Goals as goal

pub returns : goal.returns
returns g c =
    let look = seen_by g.K.Sink.told g.K.Sink.contents g.K.Sink.lent in
    let told = c.behind_word.result in
    let same = ap₂ (λ x y. x ++ (shown told.1.now ++ (y ++ []))) c.as_bytes.ensures.value c.as_bytes-2.ensures.value ∙ ap (λ l. told.0.now ++ (shown told.1.now ++ l)) (append-nil told.2.now) ∙ c.behind_word.ensures in
    subst (IsSaid (look c.args.errors.now) (look c.say.new.errors)) (ap (λ l. codes "error: no such word " ++ (shown c.args.word.now ++ l)) same) c.say.ensures
