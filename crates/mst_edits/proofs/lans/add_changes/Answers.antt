use Rattle.std.proofs.Common.{◌∙◌}
use Rattle.std.proofs.lemmas.Result.{on_ok_weaker}
use Rattle.mst_net.specs.tables.Seen.{lan_row}
use Rattle.mst_edits.specs.Edits.{lan_set}
use Rattle.mst_edits.proofs.Listing.{onto, all_behind}
use Rattle.mst_edits.proofs.lans.add_changes.Goals as goal

pub returns : goal.returns
returns c =
    on_ok_weaker c.add_speed.result (λ e.
    onto _ e (onto _ c.in_ok-add_state_here.ensures c.in_ok-push_when.ensures)
    ∙ all_behind c.args.edits.now.items (lan_set c.args.in_place c.args.stays c.args.name.now (lan_row c.args.before.now) (lan_row c.args.lan.now)))
    c.add_speed.ensures
