-- What tells the bodies of VIDs, by numbers. The VID at a place, counted from 0, is one more than the place.
use Rattle.std.specs.Prelude.{ℕ, ◌-◌, Bool, List, [], map, slice_index, slice_index_or}
use Rattle.mst_ids.specs.declared.name.PortName.{PortName}
use Rattle.mst_tables.specs.Tables.{Net}
use Rattle.mst_view.specs.Viewed.{Viewed}
use Rattle.mst_view.specs.declared.in_view.PortInView.{PortInView}
use Rattle.mst_rows.specs.declared.value.ActivePort.{ActivePort}
use Rattle.mst_vlan.specs.forest.Outcome.{Outcome}
use Rattle.mst_text.specs.VlanSeen.{seen_port}
use Rattle.mst_text.specs.VlanText.{ports_of_vid}

-- an active port as a pair
abbrev pub pair_of : ActivePort → PortName × Bool
pair_of p = (p.port, p.is_member)

abbrev pub seen_pair : Viewed → ℕ → PortInView → PortName × Bool
seen_pair v vid p = pair_of (seen_port v vid p)

-- the active ports of a VID, as pairs
abbrev pub pairs_of : Net → Outcome → ℕ → List (PortName × Bool)
pairs_of net o vid = map pair_of (ports_of_vid net o vid)

-- those of the number that a VID has
abbrev pub pairs_at : List ℕ → List (List (PortName × Bool)) → ℕ → List (PortName × Bool)
pairs_at numbers all vid = slice_index_or all (slice_index numbers (vid - 1)) []
