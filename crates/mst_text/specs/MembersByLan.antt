-- The members of each logical LAN.
use Rattle.std.specs.Prelude.{◌≡◌, ℕ, List, map}
use Rattle.mst_view.specs.Viewed.{Viewed}
use Rattle.mst_text.specs.KeptByLan.{kept_at}
use Rattle.mst_text.specs.LagView.{lans_in, up_of, ports_in, lan_of, port_of}
use Rattle.mst_text.specs.declared.by_lan.LanMembers.{LanMembers}

-- the names of the members that are up, of all members and of their ports
pub record AreLanMembers (v : Viewed) (m : LanMembers) : Type 0 where
  pub up : (lan : List ℕ) → kept_at m.up lan ≡ map lan_of (up_of (lans_in lan v.member_lans))
  pub lans : (lan : List ℕ) → kept_at m.lans lan ≡ map lan_of (lans_in lan v.member_lans)
  pub ports : (lan : List ℕ) → kept_at m.ports lan ≡ map port_of (ports_in lan v.member_ports)
