use Rattle.std.proofs.Common.{◌++◌, ap, ◌∙◌, append_assoc}
use Rattle.std.specs.List.{flat_map}
use Rattle.std.proofs.lemmas.Result.{on_ok_weaker}
use Rattle.mst_edits.specs.Edits.{bridge_edits, port_edits}
use Rattle.mst_edits.proofs.Listing.{onto}
use Rattle.mst_edits.proofs.bridges.add_part.Goals as goal

pub returns : goal.returns
returns g c =
    let a = (g.C.Contents.tables c.args.old.now).net in
    let b = (g.D.Contents.tables c.args.new.now).net in
    let name = c.args.name.now in
    let old = c.args.edits.now.items in
    on_ok_weaker c.add_ports.result (λ e.
    onto _ e c.in_ok-add_bridge.ensures ∙ append_assoc old (bridge_edits c.args.in_place a b name) (flat_map (port_edits a b) c.ports_of.result.now)
    ∙ ap (λ ps. old ++ (bridge_edits c.args.in_place a b name ++ flat_map (port_edits a b) ps)) (c.ports_of.ensures ∙ c.requires name))
    c.add_ports.ensures
