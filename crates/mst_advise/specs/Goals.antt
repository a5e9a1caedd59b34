-- What is wanted of a network, as a line of a policy expects it.
use Rattle.std.specs.Prelude.{true, false, List, [], ◌∷◌, None}
use Rattle.mst_ids.specs.declared.name.PortName.{PortName}
use Rattle.mst_policy.specs.Items.{port_item}
use Rattle.mst_policy.specs.declared.expectation.Expectation.{Expectation}
use Rattle.mst_policy.specs.declared.expectation.Expectation.TheVariants as expect
use Rattle.mst_policy.specs.declared.expectation.Roles.{Roles}
use Rattle.mst_policy.specs.declared.item.NameItem.TheVariants.{Is}
use Rattle.mst_policy.specs.declared.item.PortItem.{PortItem}
use Rattle.mst_policy.specs.declared.item.PortsOf.TheVariants.{One}
use Rattle.mst_advise.specs.declared.goal.Goal.{Goal}
use Rattle.mst_advise.specs.declared.goal.Goal.TheVariants.{Root, Forward}

-- exactly this port
abbrev pub this_port : PortName → List PortItem
this_port p = port_item (Is p.bridge) (One p.number) ∷ []

-- the roles in which a port forwards
abbrev pub forwarding : Roles
forwarding = record { root = true; designated = true; alternate = false; backup = false; master = true; disabled = false }

-- B is the one root of the tree in its region; a port forwards in the tree
abbrev pub expectation_of : Goal → Expectation
expectation_of (Root tree bridge) = expect.Root tree bridge None
expectation_of (Forward tree port) = expect.Role tree (this_port port) forwarding
