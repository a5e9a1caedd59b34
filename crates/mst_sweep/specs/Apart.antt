-- Bridges that a change takes apart: the enabled ports linked them before, and don't afterwards.
use Rattle.std.specs.Prelude.{◌≡◌, ℕ, true, List}
use Rattle.std.specs.List.{Contains}
use Rattle.mst_graph.specs.Walks.{Walk, bridge_at}
use Rattle.mst_net.specs.tables.Tables.{Net}
use Rattle.mst_view.specs.View.{LogicalPort, view_ports}
use Rattle.mst_vlan.specs.roles.Active.{port_ends, IsEnabled}
use Rattle.mst_vlan.specs.Reach.{bridges_on, is_member}

-- every logical port is a member of the VLAN
abbrev pub AllAreMembers : Net → ℕ → Type 0
AllAreMembers net vid = (p : LogicalPort) → Contains (view_ports net) p → is_member net vid p ≡ true

-- a walk of enabled ports links two bridges
abbrev pub AreLinked : Net → List ℕ → List ℕ → Type 0
AreLinked net x y = Walk port_ends (IsEnabled net) (bridge_at x) (bridge_at y)

-- two bridges that are on in both networks are linked in the one, and not in the other
pub record ComeApart (a b : Net) : Type 0 where
  pub first : List ℕ
  pub second : List ℕ
  pub first_on : Contains (bridges_on a) first
  pub second_on : Contains (bridges_on a) second
  pub first_stays : Contains (bridges_on b) first
  pub second_stays : Contains (bridges_on b) second
  pub linked : AreLinked a first second
  pub apart : AreLinked b first second → ⊥
