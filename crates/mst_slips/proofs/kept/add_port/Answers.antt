use Rattle.std.proofs.Common.{[], ◌∷◌, ◌++◌, ◌∙◌, ap}
use Rattle.mst_slips.proofs.Added.{port_added}
use Rattle.mst_slips.proofs.kept.add_port.Goals as goal

pub returns : goal.returns
returns c =
    let port = c.args.port.now in
    port_added c.args.kept.now c.taken.new.kept c.insert.new.self c.args.name.now port c.in_ok-ports.ports c.taken.ensures.gone c.in_ok-insert.ensures.updates.0
    (c.in_ok-ports.ensures ∙ ap (λ t. t ++ port ∷ []) c.taken.ensures.kept)
