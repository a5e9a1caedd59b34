use Rattle.std.proofs.Common.{false, ◌≡◌, ◌++◌, ap, ◌∙◌}
use Rattle.std.specs.List.{flat_map}
use Rattle.std.specs.FinMap as fin
use Rattle.std.proofs.lemmas.Result.{on_ok_weaker}
use Rattle.mst_edits.specs.Edits.{coming, plug_edits}
use Rattle.mst_edits.proofs.Listing.{onto, all_behind}
use Rattle.mst_edits.proofs.edits.add_coming.Goals as goal

pub returns : goal.returns
returns g c =
    let a = (g.C.Contents.tables c.args.old.now).net in
    let b = (g.D.Contents.tables c.args.new.now).net in
    let plugs : c.add_plugs.new.edits.items ≡ c.add_lans.new.edits.items ++ flat_map (plug_edits a b) (fin.keys b.ports) = c.in_ok-add_plugs.ensures ∙ ap (λ ports. c.add_lans.new.edits.items ++ flat_map (plug_edits a b) ports) (c.deref-2.ensures.value ∙ c.in_ok-ports.ensures) in
    on_ok_weaker c.add_states.result (λ e.
    onto _ e (onto _ c.in_ok-add_powers.ensures (onto _ plugs (onto _ c.in_ok-add_lans.ensures c.in_ok-add_bridges.ensures))) ∙ all_behind c.args.all.now.items (coming false a b))
    c.add_states.ensures
