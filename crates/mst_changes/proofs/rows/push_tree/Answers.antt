use Rattle.std.proofs.Common.{◌++◌, sym, ap, ◌∙◌, append_assoc, append-nil}
use Rattle.std.specs.List.{filter_map}
use Rattle.std.proofs.lemmas.Result.{on_ok_weaker}
use Rattle.mst_roles.proofs.forest_lemmas.SettledNet.{forest_of}
use Rattle.mst_changes.specs.Seen.{seen_bridge_entry, seen_port_entry}
use Rattle.mst_roles.proofs.forest_lemmas.NotInUse.{unused_by}
use Rattle.mst_changes.proofs.Gathered.{tree_entries, no_entries}
use Rattle.mst_changes.proofs.rows.push_tree.Goals as goal

pub returns-then-not-is_had : goal.returns-then-not-is_had
returns-then-not-is_had c =
    let s = c.args.plan.now in
    let is = c.known.ensures in
    let tree = c.args.tree in
    let entries = c.args.entries.now.items in
    let x = unused_by s.view tree (sym (c.is_had.ensures s.view c.requires) ∙ c.if-not-is_had.true) in
    sym (ap (λ l. entries ++ l) (no_entries s.net s.numbers s.view s.forest is.of (forest_of s is) tree x.other x.none) ∙ append-nil entries)

pub returns : goal.returns
returns c =
    let s = c.args.plan.now in
    let is = c.known.ensures in
    let v = c.view-view.result.now in
    let f = c.forest-forest.result.now in
    let tree = c.args.tree in
    let entries = c.args.entries.now.items in
    let bridges = filter_map (seen_bridge_entry v f tree) v.bridges in
    let ports = filter_map (seen_port_entry v f tree) v.ports in
    on_ok_weaker c.push_ports.result (λ more.
    more ∙ ap (λ l. l ++ ports) (c.in_ok-push_bridges.ensures {u = tt}) ∙ append_assoc entries bridges ports
    ∙ (λ i. entries ++ (filter_map (seen_bridge_entry (c.view-view.ensures i) (c.forest-forest.ensures i) tree) (c.view-view.ensures i).bridges ++ filter_map (seen_port_entry (c.view-view.ensures i) (c.forest-forest.ensures i) tree) (c.view-view.ensures i).ports))
    ∙ ap (λ l. entries ++ l) (tree_entries s.net s.numbers s.view s.forest is.of (forest_of s is) tree)) c.push_ports.ensures
