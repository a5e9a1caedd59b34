use Rattle.std.proofs.Common.{◌≡◌, filter, take}
use Rattle.mst_slips.specs.Kept.{kept_at}
use Rattle.mst_summary.specs.Seen.{seen_joins}
use Rattle.mst_summary.proofs.joining.joining.Given as goal

-- those of the LANs so far
abbrev pub invariant-loop-lan : goal.invariant-loop-lan
invariant-loop-lan l = l.joining.items ≡ filter (λ lan. seen_joins (kept_at l.kept lan)) (take l.lan-index l.lans)
