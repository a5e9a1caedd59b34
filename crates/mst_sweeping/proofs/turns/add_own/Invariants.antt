use Rattle.std.proofs.Common.{◌≡◌, ◌&&◌, ◌||◌, not, ℕ, List, take}
use Rattle.std.specs.HashSet.{contains}
use Rattle.std.specs.List.{list_any}
use Rattle.mst_view.specs.Aggregation.{same_name}
use Rattle.mst_sweeping.specs.Links.{same_link}
use Rattle.mst_sweeping.specs.declared.links.Link.{Link}
use Rattle.mst_sweeping.proofs.turns.add_own.Given as goal

-- the bridges that were there, and those of the ways so far
abbrev pub invariant-loop-way : goal.invariant-loop-way
invariant-loop-way l = (name : List ℕ) → contains same_name l.bridges name
    ≡ (contains same_name l.fn.bridges name || list_any (λ (way : Link). same_name way.port.bridge name && not (contains same_link l.others way)) (take l.way-index l.ways))
