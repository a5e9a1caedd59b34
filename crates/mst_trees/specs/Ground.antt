-- What the MSTIs of a network after an edit are made of.
use Rattle.std.specs.Prelude.{◌≡◌, ℕ, List, []}
use Rattle.std.specs.BTreeMap.{BTreeMap}
use Rattle.mst_vector.specs.declared.msti.MstiPort.{MstiPort}
use Rattle.mst_forest.specs.topology.Topology.{TreePort}
use Rattle.mst_settle.specs.Differences.{Wirings}
use Rattle.mst_view.specs.Viewed.{Viewed}
use Rattle.mst_view.specs.declared.in_view.PortInView.{PortInView}
use Rattle.mst_trees.specs.Internal.{KnownInternal}
use Rattle.mst_trees.specs.Ranked.{Ranked, ranked_bridges}
use Rattle.mst_trees.specs.Wirings.{AreOwn, own_in, msti_wires}

-- its view, the internal ports of that, and the wiring of the MSTIs before
pub record Ground : Type 0 where
  pub view : Viewed
  pub internal : List PortInView
  pub from : List (TreePort ℕ ℕ ℕ MstiPort)

-- the wirings from which and to which trees go
abbrev pub rewiring_of : Ground → Wirings MstiPort
rewiring_of g = record { from = g.from; to = msti_wires g.internal }

-- with its bridges, the settings that ports have in one tree alone, the wirings from the one before to that of the internal ports, and
-- one of no ports
pub record AreGround (v : Viewed) (bridges : List Ranked) (internal : List PortInView) (settings : List (ℕ × BTreeMap ℕ MstiPort)) (rewiring : Wirings MstiPort) (nothing : List (TreePort ℕ ℕ ℕ MstiPort)) : Type 0 where
  pub known : KnownInternal v internal
  pub ranked : bridges ≡ ranked_bridges v
  pub own : (tree : ℕ) → AreOwn v internal tree (own_in settings tree)
  pub to : rewiring.to ≡ msti_wires internal
  pub none : nothing ≡ []
