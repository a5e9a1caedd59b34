-- The rows of what a VID reaches. The record of a line has the VIDs that the heading above it names.
use Rattle.std.specs.Prelude.{ℕ, List, [], ◌∷◌}
use Rattle.mst_kinds.specs.declared.kind.Kind.TheVariants as kind
use Rattle.mst_kinds.specs.declared.vlan_line.VlanLine.TheVariants as vlan_line
use Rattle.mst_rows.specs.declared.value.ActivePort.{ActivePort}
use Rattle.mst_rows.specs.Cells.{active, names, vids}
use Rattle.mst_rows.specs.Rows.{Row, row_of}

-- `vlan VIDS`: VIDs by their longest runs
abbrev pub heading : List (ℕ × ℕ) → Row
heading runs = row_of (kind.Vlan vlan_line.Heading) (vids runs ∷ [])

-- `active` and the active ports, `B:P` where it is a member of the VLAN, and `[B:P]` where it isn't, or `-` where there is none
abbrev pub active_row : List (ℕ × ℕ) → List ActivePort → Row
active_row runs ports = row_of (kind.Vlan vlan_line.Active) (vids runs ∷ active ports ∷ [])

-- `island bridges`, the bridges, `lans` and the LANs, and `-` for an empty list
abbrev pub island_row : List (ℕ × ℕ) → List (List ℕ) → List (List ℕ) → Row
island_row runs bridges lans = row_of (kind.Vlan vlan_line.Island) (vids runs ∷ names bridges ∷ names lans ∷ [])
