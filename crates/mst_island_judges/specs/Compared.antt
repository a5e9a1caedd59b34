-- The parts of the bridges that a network and the one before have.
use Rattle.std.specs.Prelude.{ℕ}
use Rattle.mst_judged.specs.Islands.{ArePartsBeside}
use Rattle.mst_judged.specs.reasons.Reasons.{Parts}
use Rattle.mst_island_judges.specs.declared.compared.Compared.{Compared}

-- these are those of a VID
abbrev pub HaveParts : Compared → ℕ → Parts → Type 0
HaveParts c vid parts = ArePartsBeside c.judged.now.plan.now c.prior.now c.judged.now.leaving.now c.judged.now.lost.now c.names.now vid parts
