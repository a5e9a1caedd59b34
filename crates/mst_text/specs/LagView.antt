-- The rows of the classes of links, by the lists of a view.
use Rattle.std.specs.Prelude.{ℕ, List, [], ◌∷◌, map, filter}
use Rattle.std.specs.List.{flat_map}
use Rattle.std.specs.Option.{option_map_or}
use Rattle.mst_ids.specs.declared.name.PortName.{PortName}
use Rattle.mst_view.specs.Aggregation.{same_name}
use Rattle.mst_view.specs.Lag.{lag_id_text}
use Rattle.mst_view.specs.Viewed.{Viewed}
use Rattle.mst_view.specs.declared.lag.LagId.{LagId}
use Rattle.mst_view.specs.declared.in_view.LanInView.{LanInView}
use Rattle.mst_view.specs.declared.in_view.MemberLan.{MemberLan}
use Rattle.mst_view.specs.declared.in_view.MemberPort.{MemberPort}
use Rattle.mst_rows.specs.Rows.{Row}
use Rattle.mst_text.specs.LagText.{lag_row}

-- the members of a logical LAN, those that are up, and the ports
abbrev pub lans_in : List ℕ → List MemberLan → List MemberLan
lans_in lan = filter (λ m. same_name m.lan lan)

abbrev pub up_of : List MemberLan → List MemberLan
up_of = filter (λ m. m.is_up)

abbrev pub ports_in : List ℕ → List MemberPort → List MemberPort
ports_in lan = filter (λ m. same_name m.lan lan)

-- the names of these LANs and ports
abbrev pub lan_of : MemberLan → List ℕ
lan_of m = m.name

abbrev pub port_of : MemberPort → PortName
port_of m = m.name

-- the row of a class of links, and the rows of all classes
abbrev pub class_row : Viewed → LanInView → LagId → Row
class_row v lan id =
    let lans = lans_in lan.name v.member_lans in
    lag_row lan.name (lag_id_text id) lan.speed (map lan_of (up_of lans)) (map lan_of lans) (map port_of (ports_in lan.name v.member_ports))

abbrev pub class_rows : Viewed → LanInView → List Row
class_rows v lan = option_map_or (λ id. class_row v lan id ∷ []) lan.lag []

abbrev pub classes_rows : Viewed → List Row
classes_rows v = flat_map (class_rows v) v.lans
