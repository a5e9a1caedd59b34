use Rattle.std.proofs.Common.{map, ◌++◌, ◌∙◌}
use Rattle.std.specs.List.{filter_map}
use Rattle.mst_ids.specs.Names.{port_cmp}
use Rattle.mst_roles.specs.forest.Settled.{outcome_of}
use Rattle.mst_roles.proofs.forest_lemmas.SettledNet.{forest_of}
use Rattle.mst_changes.specs.Subjects.{port_in, names_of_either}
use Rattle.mst_view.specs.View.{port_names}
use Rattle.mst_changes.specs.Seen.{seen_port_entry}
use Rattle.mst_changes.specs.Values.{value_at}
use Rattle.mst_changes.proofs.Changed.{either_ports_rise, ports_left, ports_right}
use Rattle.mst_changes.proofs.Gathered.{ports_same}
use Rattle.mst_changes.proofs.ports.put_port_changes.Goals as goal

pub returns : goal.returns
returns g c =
    let tree = c.args.tree in
    let s = c.args.old.now in
    let t = c.args.new.now in
    let is = c.known.ensures in
    let are = c.known-2.ensures in
    let subjects = map (port_in tree) (names_of_either port_cmp (port_names s.net) (port_names t.net)) in
    c.put_merged.ensures subjects (value_at s.net (outcome_of s)) (value_at t.net (outcome_of t)) (either_ports_rise s.net t.net tree)
    (c.as_slice.ensures.value ∙ c.in_ok-push_ports.ensures {u = tt} ∙ (λ i. c.new-olds.ensures.items i ++ filter_map (seen_port_entry (c.view.ensures i) (c.forest.ensures i) tree) (c.view.ensures i).ports)
    ∙ ports_same s.net s.numbers s.view s.forest is.of (forest_of s is) tree ∙ ports_left s.net (outcome_of s) t.net tree)
    (c.as_slice-2.ensures.value ∙ c.in_ok-push_ports-2.ensures {u = tt} ∙ (λ i. c.new-news.ensures.items i ++ filter_map (seen_port_entry (c.view-2.ensures i) (c.forest-2.ensures i) tree) (c.view-2.ensures i).ports)
    ∙ ports_same t.net t.numbers t.view t.forest are.of (forest_of t are) tree ∙ ports_right t.net (outcome_of t) s.net tree)
