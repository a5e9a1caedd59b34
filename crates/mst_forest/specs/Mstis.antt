-- The MSTIs that a forest holds, by their numbers.
use Rattle.std.specs.Prelude.{◌≡◌, ℕ, List, map, Some, nat_eq}
use Rattle.std.specs.Map.{lookup}
use Rattle.mst_vector.specs.Msti.{msti_rules}
use Rattle.mst_vector.specs.declared.msti.MstiBridge.{MstiBridge}
use Rattle.mst_vector.specs.declared.msti.MstiPort.{MstiPort}
use Rattle.mst_vector.specs.declared.msti.MstiVector.{MstiVector}
use Rattle.mst_topology.specs.Topology.{TreePort}
use Rattle.mst_outcome.specs.Assignment.{Assignment}
use Rattle.mst_outcome.specs.Held.{Tree, IsHeld}

-- an MSTI with its bridges, the settings that ports have in it alone, and its outcome
abbrev pub Msti : Type 0
Msti = Tree MstiBridge MstiPort MstiVector

-- the outcomes of MSTIs
abbrev pub outcomes : List (ℕ × Msti) → List (ℕ × Assignment MstiVector)
outcomes mstis = map (λ e. (e.0, e.1.outcome)) mstis

-- each is held on this wiring
abbrev pub AreHeld : List (TreePort ℕ ℕ ℕ MstiPort) → List (ℕ × Msti) → Type 0
AreHeld wires mstis = (tree : ℕ) (s : Msti) → lookup (nat_eq tree) mstis ≡ Some s → IsHeld msti_rules wires s
