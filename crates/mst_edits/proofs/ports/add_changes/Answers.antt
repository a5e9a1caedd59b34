use Rattle.std.proofs.Common.{◌≡◌, ◌++◌, not, ap, ◌∙◌}
use Rattle.std.specs.Bool.{beq}
use Rattle.std.specs.Cmp.Lexicographic.{pointwise}
use Rattle.std.proofs.lemmas.Result.{on_ok_weaker}
use Rattle.mst_lang.specs.declared.line.Edit.TheVariants.{SetByTree}
use Rattle.mst_lang.specs.declared.line.TreeChange.TheVariants.{Vlans}
use Rattle.mst_net.specs.tables.After.{vlans_of}
use Rattle.mst_edits.specs.Edits.{when, port_set}
use Rattle.mst_edits.specs.Staying.{vlans_before}
use Rattle.mst_edits.proofs.Listing.{onto, all_behind}
use Rattle.mst_edits.proofs.ports.add_changes.Goals as goal

pub returns : goal.returns
returns g c =
    let a = (g.C.Contents.tables c.args.old.now).net in
    let b = (g.D.Contents.tables c.args.new.now).net in
    let name = c.args.name.now in
    let now = c.add_priorities.new.edits.items in
    let vlans : c.add_vlans.new.edits.items ≡ now ++ when (not (pointwise beq (vlans_of b name) (vlans_before a c.args.stays name))) (SetByTree (Vlans name (vlans_of b name))) = c.in_ok-add_vlans.ensures
    ∙ ap (λ vs. now ++ when (not (pointwise beq vs c.vlans_before.result)) (SetByTree (Vlans name vs))) c.port_vlans-vids.ensures
    ∙ ap (λ ws. now ++ when (not (pointwise beq (vlans_of b name) ws)) (SetByTree (Vlans name (vlans_of b name)))) c.vlans_before.ensures in
    on_ok_weaker c.add_restricted.result (λ e.
    onto _ e (onto _ vlans (onto _ c.in_ok-add_priorities.ensures (onto _ c.in_ok-add_costs.ensures (onto _ c.in_ok-add_external.ensures (onto _ c.in_ok-add_key.ensures c.in_ok-push_when.ensures)))))
    ∙ all_behind c.args.edits.now.items (port_set a b c.args.stays name c.args.before.now c.args.settings.now))
    c.add_restricted.ensures
