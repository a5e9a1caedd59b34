-- The ports that carry a VID stand by bridge and number.
use Rattle.std.proofs.Common.{◌≡◌, ℕ, zero, suc, ◌<◌, List, [], ◌∷◌, map, length, get_or, sym, subst, arith, Less}
use Rattle.std.specs.List.{AllByRecursion}
use Rattle.mst_ids.specs.Names.{port_cmp}
use Rattle.mst_tables.specs.Tables.{Net}
use Rattle.mst_view.specs.View.{LogicalPort, view_ports}
use Rattle.mst_view.specs.Viewed.{named_port}
use Rattle.mst_view.specs.declared.in_view.PortInView.{PortInView}
use Rattle.mst_vlan.specs.forest.Apart.{Apart}
use Rattle.mst_vlan.specs.forest.Outcome.{Outcome}
use Rattle.mst_vlan.specs.roles.Active.{active_ports}
use Rattle.mst_vlan.specs.roles.Roles.{forwards_for}
use Rattle.mst_vlan.specs.Reach.{is_member}
use Rattle.mst_vlan.proofs.forest_lemmas.Lists.{apart_filtered}
use Rattle.mst_vlan.proofs.forest_lemmas.Views.{ports_rise}
use Rattle.mst_path.specs.Paths.{carrying}
use Rattle.mst_path.specs.Places.{IsRising}

abbrev Rise : LogicalPort → LogicalPort → Type 0
Rise p q = port_cmp p.name q.name ≡ Less

carrying_rise : (net : Net) (o : Outcome) (vid : ℕ) → Apart Rise (carrying net o vid)
carrying_rise net o vid = apart_filtered Rise (is_member net vid) (active_ports net o vid) (apart_filtered Rise (forwards_for net o vid) (view_ports net) (ports_rise net))

each_at : (P : LogicalPort → Type 0) (ports : List PortInView) → AllByRecursion P (map named_port ports) → (i : ℕ) → i < length ports → (d : PortInView) → P (named_port (get_or ports i d))
each_at P [] h i l d = absurd (omega arith)
each_at P (p ∷ ports) h zero l d = h.0
each_at P (p ∷ ports) h (suc i) l d = each_at P ports h.1 i (omega arith) d

rise_at : (ports : List PortInView) → Apart Rise (map named_port ports) → IsRising ports
rise_at [] h i j l k d = absurd (omega arith)
rise_at (p ∷ ports) h i zero l k d = absurd (omega arith)
rise_at (p ∷ ports) h zero (suc j) l k d = each_at (Rise (named_port p)) ports h.0 j (omega arith) d
rise_at (p ∷ ports) h (suc i) (suc j) l k d = rise_at ports h.1 i j (omega arith) (omega arith) d

pub rising : (net : Net) (o : Outcome) (vid : ℕ) (ports : List PortInView) → map named_port ports ≡ carrying net o vid → IsRising ports
rising net o vid ports e = rise_at ports (subst (Apart Rise) (sym e) (carrying_rise net o vid))
