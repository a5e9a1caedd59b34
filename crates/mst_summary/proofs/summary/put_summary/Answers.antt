use Rattle.std.proofs.Common.{◌≡◌, ◌++◌, ◌∷◌, [], List, append_assoc, refl, sym, ap, subst, ◌∙◌}
use Rattle.std.specs.List.{flat_map}
use Rattle.std.proofs.lemmas.Result.{on_ok_weaker}
use Rattle.mst_rows.specs.Rows.{Row}
use Rattle.mst_vlan.specs.forest.Settled.{outcome_of}
use Rattle.mst_view.specs.Viewed.{IsView}
use Rattle.mst_slips.specs.Slips.{slip_rows}
use Rattle.mst_summary.specs.Carries.{all_carries, full_carries}
use Rattle.mst_summary.specs.Counts.{counts_of, counts_row}
use Rattle.mst_summary.specs.Seen.{seen_tree_rows, seen_counts, seen_trees}
use Rattle.mst_summary.specs.SummaryText.{all_trees_rows}
use Rattle.mst_vlan.proofs.forest_lemmas.SettledNet.{known_of}
use Rattle.mst_summary.proofs.Named.{counts_named, tree_rows_named}
use Rattle.mst_summary.proofs.summary.put_summary.Goals as goal

-- the rows before, a row and five lists of rows
regrouped : (rows : List Row) (counts : Row) (trees vlans carried full slips : List Row)
    → (((((rows ++ counts ∷ []) ++ trees) ++ vlans) ++ carried) ++ full) ++ slips ≡ rows ++ (((((counts ∷ trees) ++ vlans) ++ carried) ++ full) ++ slips)
regrouped rows counts trees vlans carried full slips = simp append_assoc

pub new-requires : goal.new-requires
new-requires g c = known_of c.args.plan.now c.known.ensures c.view-view.result.now c.forest.result.now c.view-view.ensures c.forest.ensures

pub returns : goal.returns
returns g c first rows grew =
    let s = c.args.plan.now in
    let o = outcome_of s in
    let is = c.known.ensures in
    let T : List Row = all_trees_rows s.net o in
    let K : List Row = all_carries s.net o in
    let F : List Row = full_carries s.net o in
    let L : List Row = slip_rows s.net in
    let trees : c.in_ok-trees.trees.items ≡ seen_trees s.view = c.in_ok-trees.ensures ∙ ap seen_trees c.view-view.ensures in
    let counts = c.count-counts.ensures ∙ (λ i. seen_counts (c.view-view.ensures i) c.args.regions.now ((c.as_slice.ensures.value ∙ trees) i)) ∙ counts_named s is c.args.regions.now c.requires in
    let told : flat_map (seen_tree_rows s) c.as_slice-2.result.now ≡ T = ap (flat_map (seen_tree_rows s)) (c.as_slice-2.ensures.value ∙ trees) ∙ tree_rows_named s is in
    let one = c.in_ok-put_counts.ensures first rows grew in
    let two = c.in_ok-put_trees.ensures first _ one in
    let vlans = c.in_ok-put_vlans.ensures first _ two in
    let V : List Row = vlans.0 in
    let all = (λ i. (((((rows ++ counts_row (counts i) ∷ []) ++ told i) ++ V) ++ K) ++ F) ++ L) ∙ regrouped rows (counts_row (counts_of s.net)) T V K F L in
    let carried = c.in_ok-put_carries.ensures first _ vlans.2 in
    on_ok_weaker c.put_slips.result
    (λ grown. (((((counts_row (counts_of s.net) ∷ T) ++ V) ++ K) ++ F) ++ L, record { vlans = V; are_vlans = vlans.1; is = refl }, subst (g.R.Rows.grew first c.put_slips.new.out) all grown))
    (c.put_slips.ensures s.net s.numbers is.of.network (subst (IsView s.net s.numbers) (sym c.view-view.ensures) is.of.view) c.requires first _ carried)
