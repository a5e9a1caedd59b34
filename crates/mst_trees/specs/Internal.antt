-- The internal ports of a view, known to be so.
use Rattle.std.specs.Prelude.{◌≡◌, ℕ, List, Option}
use Rattle.mst_ids.specs.declared.name.PortName.{PortName}
use Rattle.mst_net.specs.tables.Tables.{Net, Numbers}
use Rattle.mst_view.specs.Viewed.{Viewed}
use Rattle.mst_view.specs.declared.in_view.PortInView.{PortInView}
use Rattle.mst_forest.specs.Agrees.{AreOf, internal_ports_of}

-- they are so of some network and some designated ports
pub record KnownInternal (v : Viewed) (internal : List PortInView) : Type 0 where
  pub net : Net
  pub numbers : Numbers
  pub region_ids : List (ℕ × ℕ)
  pub of : AreOf net numbers v region_ids
  pub designated : List ℕ → Option PortName
  pub is : internal ≡ internal_ports_of net designated v
