use Rattle.std.proofs.Common.{◌≡◌, List, [], ◌∷◌, ◌++◌, length, map, refl, sym, ap, subst, ◌∙◌, append_assoc}
use Rattle.std.proofs.lemmas.List.{length-map}
use Rattle.mst_vlan.specs.forest.Settled.{outcome_of}
use Rattle.mst_rows.specs.Rows.{Row}
use Rattle.mst_diff.specs.declared.diff.Differing.{Differing}
use Rattle.mst_diff.specs.Regions.{region_changes}
use Rattle.mst_diff.specs.Roots.{root_changes}
use Rattle.mst_diff.specs.Ports.{port_rows}
use Rattle.mst_diff.specs.DiffText.{diff_row}
use Rattle.mst_diff.specs.Seen.{row_of_region, row_of_root}
use Rattle.mst_diff.proofs.diff.put_change.Goals as goal

regrouped : (before regions roots ports reach last : List Row) → ((((before ++ regions) ++ roots) ++ ports) ++ reach) ++ last ≡ before ++ ((((regions ++ roots) ++ ports) ++ reach) ++ last)
regrouped before regions roots ports reach last = simp append_assoc

pub returns : goal.returns
returns g c first before grew =
    let s = c.args.change.now.old.now in
    let t = c.args.change.now.new.now in
    let regions : List Row = region_changes s.net t.net in
    let roots : List Row = root_changes s.net (outcome_of s) t.net (outcome_of t) in
    let ports : List Row = port_rows s.net (outcome_of s) t.net (outcome_of t) in
    let one = subst (λ (own : List Row). g.R.Rows.grew first c.put_regions.new.out (before ++ own)) (ap (map row_of_region) c.as_slice.ensures.value ∙ c.in_ok-regions.ensures) (c.in_ok-put_regions.ensures first before grew) in
    let two = subst (λ (own : List Row). g.R.Rows.grew first c.put_roots.new.out ((before ++ regions) ++ own)) (ap (map row_of_root) c.as_slice-2.ensures.value ∙ c.in_ok-roots.ensures) (c.in_ok-put_roots.ensures first (before ++ regions) one) in
    let three = c.in_ok-ports.ensures first ((before ++ regions) ++ roots) two in
    let reach = c.in_ok-vlans.ensures first (((before ++ regions) ++ roots) ++ ports) three.1 in
    let d : Differing = record { regions = c.len.result; roots = c.len-2.result; ports = c.in_ok-ports.ports; vlans = c.in_ok-vlans.vlans } in
    let last : List Row = diff_row d ∷ [] in (
      (((regions ++ roots) ++ ports) ++ reach.0) ++ last,
      record {
        reach = reach.0;
        is_reach = reach.1;
        regions = c.len.ensures ∙ sym c.as_slice.ensures.len ∙ ap length c.as_slice.ensures.value ∙ sym (length-map c.in_ok-regions.regions.items row_of_region) ∙ ap length c.in_ok-regions.ensures;
        roots = c.len-2.ensures ∙ sym c.as_slice-2.ensures.len ∙ ap length c.as_slice-2.ensures.value ∙ sym (length-map c.in_ok-roots.roots.items row_of_root) ∙ ap length c.in_ok-roots.ensures;
        ports = three.0;
        is = refl;
      },
      subst (g.R.Rows.grew first c.put_counts.new.out) (regrouped before regions roots ports reach.0 last) (c.in_ok-put_counts.ensures first ((((before ++ regions) ++ roots) ++ ports) ++ reach.0) reach.2),
    )
