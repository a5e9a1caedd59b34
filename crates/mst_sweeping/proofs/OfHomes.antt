-- What is so by the places of islands of a VID, where these are what carries it tells.
use Rattle.std.proofs.Common.{ℕ, List}
use Rattle.mst_net.specs.tables.Tables.{Net}
use Rattle.mst_plan.specs.forest.Outcome.{Outcome}
use Rattle.mst_sweep.specs.vlan.Carried.{ViewWithTrees}
use Rattle.mst_sweep.specs.facts.declared.planned.Planned.{Planned}
use Rattle.mst_sweep.specs.Between.{OfNetworks}
use Rattle.mst_sweep.specs.Breaking.{IsCarriageOf}
use Rattle.mst_sweep.proofs.HomesOf.{AreHomesIn, homes_of_plan}
use Rattle.mst_sweeping.specs.Seen.{OfHomes}

pub by_carriage : (vid : ℕ) (olds news : List (ℕ × ℕ)) (old new : Planned) (before afterwards : ViewWithTrees) → IsCarriageOf old before → IsCarriageOf new afterwards → AreHomesIn vid olds before → AreHomesIn vid news afterwards
    → (IsSo : Net → Outcome → Net → Outcome → Type 0) → OfHomes old new vid olds news IsSo → OfNetworks old new IsSo
by_carriage vid olds news old new before afterwards is_old is_new homes others IsSo so a b n k is are of_a of_b =
    so a b n k is are of_a of_b (homes_of_plan vid olds old before is_old homes a n is of_a) (homes_of_plan vid news new afterwards is_new others b k are of_b)
