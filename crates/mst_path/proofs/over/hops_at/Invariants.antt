use Rattle.std.proofs.Common.{◌≡◌, map, take, get_or}
use Rattle.mst_view.specs.View.{LogicalPort}
use Rattle.mst_view.specs.Viewed.{named_port}
use Rattle.mst_path.specs.Places.{named_hop}
use Rattle.mst_path.specs.declared.hop.PlaceHop.{PlaceHop}
use Rattle.mst_path.proofs.over.hops_at.Given as goal

-- the hops so far
abbrev pub invariant-loop-hop : goal.invariant-loop-hop
invariant-loop-hop l = (d : LogicalPort) → map named_hop l.hops.items ≡ map (λ (h : PlaceHop). record { leaving = get_or (map named_port l.ports) h.leaving d; arriving = get_or (map named_port l.ports) h.arriving d }) (take l.hop-index l.places)
