use Rattle.std.proofs.Common.{◌≡◌, ◌++◌, ◌∷◌, [], List, map, ◌∙◌, append_assoc, subst}
use Rattle.std.proofs.lemmas.Result.{on_ok_weaker}
use Rattle.mst_ids.specs.Vids.{runs_from}
use Rattle.mst_rows.specs.Rows.{Row}
use Rattle.mst_vlan.proofs.forest_lemmas.SettledNet.{forest_of}
use Rattle.mst_view.specs.Viewed.{Viewed}
use Rattle.mst_view.specs.declared.in_view.PortInView.{PortInView}
use Rattle.mst_vlan.specs.declared.island.Island.{Island}
use Rattle.mst_vlan.specs.roles.SeenActive.{seen_active}
use Rattle.mst_text.specs.VlanRows.{active_row}
use Rattle.mst_text.specs.VlanSeen.{seen_port, seen_island}
use Rattle.mst_text.proofs.VlanNamed.{are_body_rows}
use Rattle.mst_text.proofs.vlan_text.put_body.Goals as goal

pub returns : goal.returns
returns g c first rows grew =
    let s = c.args.plan.now in
    let is = c.known.ensures in
    let vid = c.args.vid in
    let runs = runs_from 0 c.args.vids.now in
    let islands = c.in_ok-islands.islands.items in
    let active : Viewed → List PortInView → Row = λ v ports. active_row runs (map (seen_port v vid) ports) in
    let reached : Viewed → List Island → List Row = λ v islands. map (seen_island v runs) islands in
    let own = active s.view (seen_active s.view s.forest vid) ∷ reached s.view islands in
    let seen : (rows ++ active c.view-view.result.now c.as_slice.result.now ∷ []) ++ reached c.view-view.result.now c.as_slice-3.result.now ≡ rows ++ own =
    (λ i. (rows ++ active (c.view-view.ensures i) ((c.as_slice.ensures.value ∙ c.in_ok-ports.ensures.seen) i) ∷ []) ++ reached (c.view-view.ensures i) (c.as_slice-3.ensures.value i))
    ∙ append_assoc rows (active s.view (seen_active s.view s.forest vid) ∷ []) (reached s.view islands) in
    on_ok_weaker c.put_islands.result
    (λ grown. (own, are_body_rows s.net s.numbers s.view s.forest is.of (forest_of s is) vid runs islands c.in_ok-islands.ensures, subst (g.R.Rows.grew first c.put_islands.new.out) {y = rows ++ own} seen grown))
    (c.put_islands.ensures first (rows ++ active c.view-view.result.now c.as_slice.result.now ∷ []) (c.in_ok-put_active.ensures first rows grew))
