use Rattle.std.proofs.Common.{ap, ◌&&◌, ◌∙◌}
use Rattle.std.specs.List.{list_any}
use Rattle.std.proofs.lemmas.Result.{IfOk-weaker}
use Rattle.mst_net.specs.tables.Tables.{port_eq}
use Rattle.mst_sweeping.specs.Restarts.{is_elsewhere}
use Rattle.mst_sweeping.proofs.Replugged.{are_replugged}
use Rattle.mst_sweeping.proofs.plugs.Plugs.replugged.Goals as goal

pub returns : goal.returns
returns g c =
    let now = (g.C.Contents.tables c.args.contents.now).net in
    IfOk-weaker c.replugged_of.result _ _
    (λ over told net is port.
    told port ∙ ap (list_any (λ plug. is_elsewhere now plug && port_eq plug.0 port)) (c.as_slice.ensures.value ∙ c.self.view_is ∙ is) ∙ are_replugged net now port)
    c.replugged_of.ensures
