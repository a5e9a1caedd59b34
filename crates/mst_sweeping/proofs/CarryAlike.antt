-- What carries a VID, by names, is what carries it by the plan.
use Rattle.std.proofs.Common.{◌≡◌, ℕ, List, [], ◌∷◌, map, refl, sym, ap, ◌∙◌}
use Rattle.mst_view.specs.declared.in_view.PortInView.{PortInView}
use Rattle.mst_sweep.specs.vlan.Carried.{ViewWithTrees, CarryAlike, names_of, seen_carried as seen_names}
use Rattle.mst_sweep.specs.facts.declared.planned.Planned.{Planned}
use Rattle.mst_sweep.specs.Breaking.{IsCarriageOf}
use Rattle.mst_sweeping.specs.Seen.{link_by, seen_carried, seen_link_of}

pub links_named : (ports : List PortInView) → map link_by (map names_of ports) ≡ map seen_link_of ports
links_named [] = refl
links_named (p ∷ ps) = ap (λ ks. seen_link_of p ∷ ks) (links_named ps)

-- the same ports carry a VID by two plans
pub same_links_seen : (old new : Planned) (before afterwards : ViewWithTrees) → IsCarriageOf old before → IsCarriageOf new afterwards → (vid : ℕ) → CarryAlike before afterwards vid
    → seen_carried old.view.now old.forest.now vid ≡ seen_carried new.view.now new.forest.now vid
same_links_seen old new before afterwards is so vid alike =
    sym (links_named _) ∙ ap (map link_by) (sym (ap (λ (s : ViewWithTrees). seen_names s.view s.forest vid) is) ∙ alike ∙ ap (λ (s : ViewWithTrees). seen_names s.view s.forest vid) so) ∙ links_named _
