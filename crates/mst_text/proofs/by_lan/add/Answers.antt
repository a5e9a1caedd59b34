use Rattle.std.proofs.Common.{◌++◌, ◌∷◌, [], ◌∙◌, ap}
use Rattle.mst_text.proofs.LagsByLan.{one_added}
use Rattle.mst_text.proofs.by_lan.add.Goals as goal

pub returns : goal.returns
returns g c =
    one_added c.args.kept.now c.taken-own.new.kept c.insert.new.self c.args.lan c.args.one c.push.new.self c.taken-own.ensures.gone c.in_ok-insert.ensures.updates.0
    (c.in_ok-push.ensures.items ∙ ap (λ l. l ++ c.args.one ∷ []) c.taken-own.ensures.kept)
