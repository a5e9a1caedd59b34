use Rattle.std.proofs.Common.{◌≡◌, ◌&&◌, ℕ, List, take}
use Rattle.std.specs.HashSet.{contains}
use Rattle.std.specs.List.{list_any}
use Rattle.mst_view.specs.Aggregation.{same_name}
use Rattle.mst_sweeping.specs.Seen.{is_other}
use Rattle.mst_sweeping.proofs.links.shared_lans.Given as goal

-- the LANs of the links so far
abbrev pub invariant-loop-link : goal.invariant-loop-link
invariant-loop-link l = (lan : List ℕ) → contains same_name l.lans lan ≡ list_any (λ link. is_other l.users.entries link && same_name link.lan lan) (take l.link-index l.links)
