use Rattle.std.proofs.Common.{◌∙◌}
use Rattle.std.proofs.lemmas.Result.{on_ok_weaker}
use Rattle.mst_net.specs.tables.Seen.{bridge_row}
use Rattle.mst_edits.specs.Edits.{bridge_set}
use Rattle.mst_edits.proofs.Listing.{onto, all_behind}
use Rattle.mst_edits.proofs.bridges.add_changes.Goals as goal

pub returns : goal.returns
returns g c =
    let a = (g.C.Contents.tables c.args.old.now).net in
    let b = (g.D.Contents.tables c.args.new.now).net in
    on_ok_weaker c.add_priorities.result (λ e.
    onto _ e (onto _ c.in_ok-add_max_age.ensures (onto _ c.in_ok-add_max_hops.ensures (onto _ c.in_ok-add_own_table.ensures (onto _ c.in_ok-add_configuration.ensures (onto _ c.in_ok-add_system_priority.ensures (onto _ c.in_ok-add_kind.ensures (onto _ c.in_ok-add_power_here.ensures c.in_ok-push_when.ensures)))))))
    ∙ all_behind c.args.edits.now.items (bridge_set c.args.in_place a b c.args.stays c.args.name.now (bridge_row c.args.before.now) (bridge_row c.args.bridge.now)))
    c.add_priorities.ensures
