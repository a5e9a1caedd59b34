use Rattle.std.proofs.Common.{◌≡◌, ◌∙◌, true, nat_eq, length, map, sym, ap, subst}
use Rattle.mst_graph.specs.Places.{placed}
use Rattle.mst_graph.specs.Groups.{AreGroups}
use Rattle.mst_graph.specs.Labels.{AreParents}
use Rattle.mst_graph.specs.Labelling.{label_of, AreLabels}
use Rattle.mst_graph.specs.Islands.{nodes, members, AreIslands}
use Rattle.mst_graph.proofs.Joins.{have_places, bridges_placed, lans_placed, joined_groups}
use Rattle.mst_graph.proofs.Outcomes.{on_ok}
use Rattle.mst_graph.proofs.joining.islands.Goals as goal

pub labels_by-requires : goal.labels_by-requires
labels_by-requires c =
    have_places c.args.bridges.now c.args.lans.now (placed c.in_ok-places.places.bridges) (placed c.in_ok-places.places.lans)
    c.in_ok-places.ensures.bridges c.in_ok-places.ensures.lans c.args.links.now c.requires

pub islands_by-requires : goal.islands_by-requires
islands_by-requires c =
    let bridges = c.args.bridges.now in
    let lans = c.args.lans.now in
    let some_bridges = placed c.in_ok-places.places.bridges in
    let some_lans = placed c.in_ok-places.places.lans in
    record {
      as_long = ap length c.as_slice.ensures.value ∙ c.in_ok-labels.ensures.labels.as_long;
      labels = subst AreParents (sym c.as_slice.ensures.value) c.in_ok-labels.ensures.below;
      bridges = bridges_placed bridges lans some_bridges some_lans c.in_ok-places.ensures.bridges c.in_ok-places.ensures.lans;
      lans = lans_placed bridges lans some_bridges some_lans c.in_ok-places.ensures.bridges c.in_ok-places.ensures.lans;
    }

pub returns : goal.returns
returns c =
    let bridges = c.args.bridges.now in
    let lans = c.args.lans.now in
    let links = c.args.links.now in
    let some_bridges = placed c.in_ok-places.places.bridges in
    let some_lans = placed c.in_ok-places.places.lans in
    let labels = c.as_slice.result.now in
    let labelled = subst (AreLabels some_bridges some_lans links) (sym c.as_slice.ensures.value) c.in_ok-labels.ensures.labels in
    on_ok (λ v. AreGroups (λ a b. nat_eq (label_of some_bridges some_lans labels a) (label_of some_bridges some_lans labels b) ≡ true) (nodes bridges lans) (map members v.items))
    (λ v. AreIslands bridges lans links v.items) c.islands_by.result
    (λ v grouped. joined_groups bridges lans some_bridges some_lans c.in_ok-places.ensures.bridges c.in_ok-places.ensures.lans links labels (map members v.items) labelled grouped)
    c.islands_by.ensures
