-- What is known after a failure before islands are made: which VIDs have no parts, and what carries each VID.
use Rattle.std.specs.Prelude.{◌≡◌, ℕ, []}
use Rattle.mst_vlan.specs.Carried.{ViewWithTrees}
use Rattle.mst_facts.specs.declared.planned.Planned.{Planned}
use Rattle.mst_sweep.specs.Between.{OfNetworks}
use Rattle.mst_sweep.specs.Left.{AreLeft}
use Rattle.mst_sweep.specs.Parts.{AreParts}

-- a VID has no parts in networks of these plans of which the one leaves the other as failures do
abbrev pub HasNoParts : Planned → Planned → ℕ → Type 0
HasNoParts old new vid = OfNetworks old new (λ a before b afterwards. AreLeft a b → AreParts a before b afterwards vid [])

-- what carries each VID is that of this plan
abbrev pub IsCarriageOf : Planned → ViewWithTrees → Type 0
IsCarriageOf plan carriage = carriage ≡ record { view = plan.view.now; forest = plan.forest.now }
