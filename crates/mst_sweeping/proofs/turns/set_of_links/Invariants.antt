use Rattle.std.proofs.Common.{◌≡◌, take}
use Rattle.std.specs.HashSet.{contains}
use Rattle.std.specs.List.{list_any}
use Rattle.mst_sweeping.specs.Links.{same_link}
use Rattle.mst_sweeping.specs.declared.links.Link.{Link}
use Rattle.mst_sweeping.proofs.turns.set_of_links.Given as goal

-- the links so far
abbrev pub invariant-loop-link : goal.invariant-loop-link
invariant-loop-link l = (link : Link) → contains same_link l.set link ≡ list_any (λ other. same_link other link) (take l.link-index l.links)
