-- Whether ports are of two bridges, as it is seen of the first and the others.
use Rattle.std.proofs.Common.{◌≡◌, ◌-◌, ◌≤◌, not, List, [], ◌∷◌, take, drop, get_or, length, map, sym, ap, ◌∙◌, arith}
use Rattle.std.specs.List.{list_any}
use Rattle.std.proofs.lemmas.List.{take_all}
use Rattle.mst_view.specs.Aggregation.{same_name}
use Rattle.mst_view.specs.View.{LogicalPort}
use Rattle.mst_view.specs.Viewed.{named_port}
use Rattle.mst_view.specs.declared.in_view.PortInView.{PortInView}
use Rattle.mst_summary.proofs.Lists.{any_mapped}
use Rattle.mst_summary.specs.Carries.{are_of_two}

pub two_seen : (ports : List PortInView) (first : PortInView) → 1 ≤ length ports → first ≡ get_or ports 0 first → list_any (λ (p : PortInView). not (same_name p.name.bridge first.name.bridge)) (take (length ports - 1) (drop 1 ports)) ≡ are_of_two (map named_port ports)
two_seen [] first l is = absurd (omega arith)
two_seen (p ∷ ports) first l is =
    ap (list_any (λ (r : PortInView). not (same_name r.name.bridge first.name.bridge))) (take_all (length (p ∷ ports) - 1) ports (omega arith))
    ∙ ap (λ (q : PortInView). list_any (λ (r : PortInView). not (same_name r.name.bridge q.name.bridge)) ports) is
    ∙ sym (any_mapped (λ (q : LogicalPort). not (same_name q.name.bridge p.name.bridge)) named_port ports)
