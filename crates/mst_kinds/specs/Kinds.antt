-- The kinds of rows: of each its first word, and what stands behind it.
use Rattle.std.specs.Prelude.{List, [], ◌∷◌}
use Rattle.mst_kinds.specs.declared.mark.Mark.{Mark}
use Rattle.mst_kinds.specs.declared.part.Part.{Part}
use Rattle.mst_kinds.specs.declared.mark.Mark.TheVariants as mark
use Rattle.mst_kinds.specs.declared.key.Key.TheVariants as key
use Rattle.mst_kinds.specs.declared.part.Part.TheVariants as part
use Rattle.mst_kinds.specs.declared.kind.Kind.{Kind}
use Rattle.mst_kinds.specs.declared.kind.Kind.TheVariants as kind
use Rattle.mst_kinds.specs.declared.query.Query.{Query}
use Rattle.mst_kinds.specs.declared.query.Query.TheVariants as query
use Rattle.mst_kinds.specs.declared.tree_line.TreeLine.{TreeLine}
use Rattle.mst_kinds.specs.declared.tree_line.TreeLine.TheVariants as tree_line
use Rattle.mst_kinds.specs.declared.vlan_line.VlanLine.{VlanLine}
use Rattle.mst_kinds.specs.declared.vlan_line.VlanLine.TheVariants as vlan_line
use Rattle.mst_kinds.specs.declared.region_line.RegionLine.{RegionLine}
use Rattle.mst_kinds.specs.declared.region_line.RegionLine.TheVariants as region_line
use Rattle.mst_kinds.specs.declared.note_line.NoteLine.{NoteLine}
use Rattle.mst_kinds.specs.declared.note_line.NoteLine.TheVariants as note_line
use Rattle.mst_kinds.specs.declared.change_line.ChangeLine.{ChangeLine}
use Rattle.mst_kinds.specs.declared.change_line.ChangeLine.TheVariants as change_line
use Rattle.mst_kinds.specs.declared.bridge_command.BridgeCommand.{BridgeCommand}
use Rattle.mst_kinds.specs.declared.bridge_command.BridgeCommand.TheVariants as bridge_command
use Rattle.mst_kinds.specs.declared.port_command.PortCommand.{PortCommand}
use Rattle.mst_kinds.specs.declared.port_command.PortCommand.TheVariants as port_command
use Rattle.mst_kinds.specs.declared.explain_line.ExplainLine.{ExplainLine}
use Rattle.mst_kinds.specs.declared.explain_line.ExplainLine.TheVariants as explain_line
use Rattle.mst_kinds.specs.declared.contest_line.ContestLine.{ContestLine}
use Rattle.mst_kinds.specs.declared.contest_line.ContestLine.TheVariants as contest_line
use Rattle.mst_kinds.specs.declared.sweep_line.SweepLine.{SweepLine}
use Rattle.mst_kinds.specs.declared.sweep_line.SweepLine.TheVariants as sweep_line
use Rattle.mst_kinds.specs.declared.summary_line.SummaryLine.{SummaryLine}
use Rattle.mst_kinds.specs.declared.summary_line.SummaryLine.TheVariants as summary_line
use Rattle.mst_kinds.specs.declared.capture_line.CaptureLine.{CaptureLine}
use Rattle.mst_kinds.specs.declared.capture_line.CaptureLine.TheVariants as capture_line
use Rattle.mst_kinds.specs.declared.refusal_line.RefusalLine.{RefusalLine}
use Rattle.mst_kinds.specs.declared.refusal_line.RefusalLine.TheVariants as refusal_line
use Rattle.mst_kinds.specs.declared.ask_line.AskLine.{AskLine}
use Rattle.mst_kinds.specs.declared.ask_line.AskLine.TheVariants as ask_line
use Rattle.mst_kinds.specs.declared.verify_line.VerifyLine.{VerifyLine}
use Rattle.mst_kinds.specs.declared.verify_line.VerifyLine.TheVariants as verify_line
use Rattle.mst_kinds.specs.declared.step_line.StepLine.{StepLine}
use Rattle.mst_kinds.specs.declared.step_line.StepLine.TheVariants as step_line
use Rattle.mst_kinds.specs.declared.advise_line.AdviseLine.{AdviseLine}
use Rattle.mst_kinds.specs.declared.advise_line.AdviseLine.TheVariants as advise_line
use Rattle.mst_kinds.specs.declared.path_line.PathLine.{PathLine}
use Rattle.mst_kinds.specs.declared.path_line.PathLine.TheVariants as path_line

-- ---- a query, with its words
abbrev pub first_of_query : Query → Mark
first_of_query query.ShowTree = mark.ShowTree
first_of_query query.ShowPlan = mark.ShowPlan
first_of_query query.ShowVlan = mark.ShowVlan
first_of_query query.ShowLag = mark.ShowLag
first_of_query query.ShowRegions = mark.ShowRegions
first_of_query query.ShowMstconfid = mark.ShowMstconfid
first_of_query query.ShowNotes = mark.ShowNotes
first_of_query query.Changes = mark.Changes
first_of_query query.Save = mark.Save
first_of_query query.Explain = mark.Explain
first_of_query query.ExplainIn = mark.Explain
first_of_query query.Diff = mark.Diff
first_of_query query.Sweep = mark.Sweep
first_of_query query.SweepPart = mark.Sweep
first_of_query query.SweepRisks = mark.Sweep
first_of_query query.SweepPairs = mark.Sweep
first_of_query query.SweepPairsPart = mark.Sweep
first_of_query query.Summary = mark.Summary
first_of_query query.Check = mark.Check
first_of_query query.Verify = mark.Verify
first_of_query query.Steps = mark.Steps
first_of_query query.Edits = mark.Edits
first_of_query query.AdviseRoot = mark.Advise
first_of_query query.AdviseForward = mark.Advise
first_of_query query.Digest = mark.Digest
first_of_query query.Path = mark.Path
first_of_query query.PathAlways = mark.Path

abbrev pub parts_of_query : Query → List Part
-- `showtree T`
parts_of_query query.ShowTree = part.Key key.Tree ∷ []
-- `showplan`
parts_of_query query.ShowPlan = []
-- `showvlan V`
parts_of_query query.ShowVlan = part.Key key.Vid ∷ []
-- `showlag`
parts_of_query query.ShowLag = []
-- `showregions`
parts_of_query query.ShowRegions = []
-- `showmstconfid B`
parts_of_query query.ShowMstconfid = part.Key key.Bridge ∷ []
-- `shownotes`
parts_of_query query.ShowNotes = []
-- `changes`
parts_of_query query.Changes = []
-- `save`
parts_of_query query.Save = []
-- `explain B P`
parts_of_query query.Explain = part.Key key.Bridge ∷ part.Key key.Port ∷ []
-- `explain B P TREE`
parts_of_query query.ExplainIn = part.Key key.Bridge ∷ part.Key key.Port ∷ part.Key key.Tree ∷ []
-- `diff`
parts_of_query query.Diff = []
-- `sweep`
parts_of_query query.Sweep = []
-- `sweep K/N`
parts_of_query query.SweepPart = part.Key key.Part ∷ part.Key key.PartCount ∷ []
-- `sweep pairs`
parts_of_query query.SweepPairs = part.Said key.Of mark.Pairs ∷ []
-- `sweep risks`
parts_of_query query.SweepRisks = part.Said key.Of mark.Risks ∷ []
-- `sweep pairs K/N`
parts_of_query query.SweepPairsPart = part.Said key.Of mark.Pairs ∷ part.Key key.Part ∷ part.Key key.PartCount ∷ []
-- `summary`
parts_of_query query.Summary = []
-- `check`
parts_of_query query.Check = []
-- `verify`
parts_of_query query.Verify = []
-- `steps`
parts_of_query query.Steps = []
-- `edits`
parts_of_query query.Edits = []
-- `advise root T B`
parts_of_query query.AdviseRoot = part.Said key.Goal mark.Root ∷ part.Key key.Tree ∷ part.Key key.Bridge ∷ []
-- `advise forward T B P`
parts_of_query query.AdviseForward = part.Said key.Goal mark.Forward ∷ part.Key key.Tree ∷ part.Key key.Bridge ∷ part.Key key.Port ∷ []
-- `digest`
parts_of_query query.Digest = []
-- `path VID A B`
parts_of_query query.Path = part.Key key.Vid ∷ part.Key key.From ∷ part.Key key.To ∷ []
-- `path VID A B always`
parts_of_query query.PathAlways = part.Key key.Vid ∷ part.Key key.From ∷ part.Key key.To ∷ part.Said key.Scope mark.Always ∷ []

-- ---- a line of the text of a tree
abbrev pub first_of_tree_line : TreeLine → Mark
first_of_tree_line tree_line.Heading = mark.Tree
first_of_tree_line tree_line.BridgeOff = mark.Bridge
first_of_tree_line tree_line.BridgeInCist = mark.Bridge
first_of_tree_line tree_line.BridgeInMsti = mark.Bridge
first_of_tree_line tree_line.PortDisabled = mark.Port
first_of_tree_line tree_line.PortInCist = mark.Port
first_of_tree_line tree_line.PortInMsti = mark.Port

abbrev pub parts_of_tree_line : TreeLine → List Part
-- `tree T`
parts_of_tree_line tree_line.Heading = part.Key key.Tree ∷ []
-- `bridge B off`
parts_of_tree_line tree_line.BridgeOff = part.Above key.Tree ∷ part.Key key.Bridge ∷ part.Said key.Power mark.Off ∷ []
-- `bridge B ID root R ext ERC regional RR int IRC from D PD at PB`
parts_of_tree_line tree_line.BridgeInCist = part.Above key.Tree ∷ part.Key key.Bridge ∷ part.Key key.BridgeId ∷ part.Mark mark.Root ∷ part.Key key.RootId ∷ part.Above key.Root ∷ part.Mark mark.Ext ∷ part.Key key.Ext ∷ part.Mark mark.Regional ∷ part.Key key.RegionalId ∷ part.Above key.Regional ∷ part.Mark mark.Int ∷ part.Key key.Int ∷ part.Mark mark.From ∷ part.Key key.DesignatedId ∷ part.Above key.DesignatedBridge ∷ part.Key key.DesignatedPortId ∷ part.Mark mark.At ∷ part.Key key.ReceiverId ∷ []
-- `bridge B ID regional RR int IRC from D PD at PB`
parts_of_tree_line tree_line.BridgeInMsti = part.Above key.Tree ∷ part.Key key.Bridge ∷ part.Key key.BridgeId ∷ part.Mark mark.Regional ∷ part.Key key.RegionalId ∷ part.Above key.Regional ∷ part.Mark mark.Int ∷ part.Key key.Int ∷ part.Mark mark.From ∷ part.Key key.DesignatedId ∷ part.Above key.DesignatedBridge ∷ part.Key key.DesignatedPortId ∷ part.Mark mark.At ∷ part.Key key.ReceiverId ∷ []
-- `port B P LAN ROLE`
parts_of_tree_line tree_line.PortDisabled = part.Above key.Tree ∷ part.Key key.Bridge ∷ part.Key key.Port ∷ part.Key key.Lan ∷ part.Key key.Role ∷ []
-- `port B P LAN PID ext EXT int INT ROLE`
parts_of_tree_line tree_line.PortInCist = part.Above key.Tree ∷ part.Key key.Bridge ∷ part.Key key.Port ∷ part.Key key.Lan ∷ part.Key key.PortId ∷ part.Mark mark.Ext ∷ part.Key key.Ext ∷ part.Mark mark.Int ∷ part.Key key.Int ∷ part.Key key.Role ∷ []
-- `port B P LAN PID int INT ROLE`
parts_of_tree_line tree_line.PortInMsti = part.Above key.Tree ∷ part.Key key.Bridge ∷ part.Key key.Port ∷ part.Key key.Lan ∷ part.Key key.PortId ∷ part.Mark mark.Int ∷ part.Key key.Int ∷ part.Key key.Role ∷ []

-- ---- a line of what VLANs reach
abbrev pub first_of_vlan_line : VlanLine → Mark
first_of_vlan_line vlan_line.Heading = mark.Vlan
first_of_vlan_line vlan_line.Active = mark.Active
first_of_vlan_line vlan_line.Island = mark.Island

abbrev pub parts_of_vlan_line : VlanLine → List Part
-- `vlan VIDS`
parts_of_vlan_line vlan_line.Heading = part.Key key.Vids ∷ []
-- `active B:P [B:P] ..`
parts_of_vlan_line vlan_line.Active = part.Above key.Vids ∷ part.Key key.Active ∷ []
-- `island bridges B .. lans L ..`
parts_of_vlan_line vlan_line.Island = part.Above key.Vids ∷ part.Mark mark.Bridges ∷ part.Key key.Bridges ∷ part.Mark mark.Lans ∷ part.Key key.Lans ∷ []

-- ---- a line of regions, of an MST configuration or of a class of links
abbrev pub first_of_region_line : RegionLine → Mark
first_of_region_line region_line.Mstp = mark.Region
first_of_region_line region_line.Rstp = mark.Region
first_of_region_line region_line.Configuration = mark.Mstconfid
first_of_region_line region_line.Msti = mark.Msti
first_of_region_line region_line.Lag = mark.Lag

abbrev pub parts_of_region_line : RegionLine → List Part
-- `region mstp CNAME REV DIGEST bridges B ..`
parts_of_region_line region_line.Mstp = part.Above key.Region ∷ part.Said key.RegionKind mark.Mstp ∷ part.Key key.Name ∷ part.Key key.Revision ∷ part.Key key.Digest ∷ part.Mark mark.Bridges ∷ part.Key key.Bridges ∷ []
-- `region rstp bridges B`
parts_of_region_line region_line.Rstp = part.Above key.Region ∷ part.Said key.RegionKind mark.Rstp ∷ part.Mark mark.Bridges ∷ part.Key key.Bridges ∷ []
-- `mstconfid B name CNAME revision REV digest DIGEST`
parts_of_region_line region_line.Configuration = part.Key key.Bridge ∷ part.Mark mark.Name ∷ part.Key key.Name ∷ part.Mark mark.Revision ∷ part.Key key.Revision ∷ part.Mark mark.Digest ∷ part.Key key.Digest ∷ []
-- `msti T vids VIDS`
parts_of_region_line region_line.Msti = part.Above key.Bridge ∷ part.Key key.Tree ∷ part.Mark mark.Vids ∷ part.Key key.Vids ∷ []
-- `lag LAN LAGID speed S up L,.. lans L,.. ports B:P,..`
parts_of_region_line region_line.Lag = part.Key key.Lan ∷ part.Key key.LagId ∷ part.Mark mark.Speed ∷ part.Key key.Speed ∷ part.Mark mark.Up ∷ part.Commas key.Up ∷ part.Mark mark.Lans ∷ part.Commas key.Lans ∷ part.Mark mark.Ports ∷ part.Commas key.Ports ∷ []

-- ---- a note
abbrev pub first_of_note_line : NoteLine → Mark
first_of_note_line note_line.Hops = mark.Note
first_of_note_line note_line.Age = mark.Note
first_of_note_line note_line.ExternalCost = mark.Note
first_of_note_line note_line.InternalCost = mark.Note
first_of_note_line note_line.Restricted = mark.Note

abbrev pub parts_of_note_line : NoteLine → List Part
-- `note hops T B depth D limit H`
parts_of_note_line note_line.Hops = part.Said key.Note mark.Hops ∷ part.Key key.Tree ∷ part.Key key.Bridge ∷ part.Mark mark.Depth ∷ part.Key key.Depth ∷ part.Mark mark.Limit ∷ part.Key key.Limit ∷ []
-- `note age B depth D limit M`
parts_of_note_line note_line.Age = part.Said key.Note mark.Age ∷ part.Above key.Tree ∷ part.Key key.Bridge ∷ part.Mark mark.Depth ∷ part.Key key.Depth ∷ part.Mark mark.Limit ∷ part.Key key.Limit ∷ []
-- `note cost T B ext C`
parts_of_note_line note_line.ExternalCost = part.Said key.Note mark.Cost ∷ part.Key key.Tree ∷ part.Key key.Bridge ∷ part.Mark mark.Ext ∷ part.Key key.Ext ∷ []
-- `note cost T B int C`
parts_of_note_line note_line.InternalCost = part.Said key.Note mark.Cost ∷ part.Key key.Tree ∷ part.Key key.Bridge ∷ part.Mark mark.Int ∷ part.Key key.Int ∷ []
-- `note restricted B P`
parts_of_note_line note_line.Restricted = part.Said key.Note mark.Restricted ∷ part.Key key.Bridge ∷ part.Key key.Port ∷ []

-- ---- a line of how two networks differ
abbrev pub first_of_change_line : ChangeLine → Mark
first_of_change_line change_line.Bridge = mark.Bridge
first_of_change_line change_line.Port = mark.Port
first_of_change_line change_line.Region = mark.Region
first_of_change_line change_line.Root = mark.Root
first_of_change_line change_line.Reach = mark.Reach
first_of_change_line change_line.Counts = mark.Diff

abbrev pub parts_of_change_line : ChangeLine → List Part
-- `bridge T B V -> V`
parts_of_change_line change_line.Bridge = part.Key key.Tree ∷ part.Key key.Bridge ∷ part.Key key.OldVector ∷ part.Mark mark.Arrow ∷ part.Key key.NewVector ∷ []
-- `port T B P ROLE -> ROLE`
parts_of_change_line change_line.Port = part.Key key.Tree ∷ part.Key key.Bridge ∷ part.Key key.Port ∷ part.Key key.OldRole ∷ part.Mark mark.Arrow ∷ part.Key key.NewRole ∷ []
-- `region B NAME REV FIRST -> NAME REV FIRST`
parts_of_change_line change_line.Region = part.Key key.Bridge ∷ part.Key key.OldRegion ∷ part.Mark mark.Arrow ∷ part.Key key.NewRegion ∷ []
-- `root T B -> B`
parts_of_change_line change_line.Root = part.Key key.Tree ∷ part.Key key.OldRoot ∷ part.Mark mark.Arrow ∷ part.Key key.NewRoot ∷ []
-- `reach VIDS B,.. .. -> B,.. ..`
parts_of_change_line change_line.Reach = part.Key key.Vids ∷ part.Key key.OldIslands ∷ part.Mark mark.Arrow ∷ part.Key key.NewIslands ∷ []
-- `diff regions N roots N ports N vlans N`
parts_of_change_line change_line.Counts = part.Mark mark.Regions ∷ part.Key key.RegionCount ∷ part.Mark mark.Roots ∷ part.Key key.RootCount ∷ part.Mark mark.Ports ∷ part.Key key.PortCount ∷ part.Mark mark.Vlans ∷ part.Key key.VlanCount ∷ []

-- ---- a line of a saved network that is of a bridge, and its first line
abbrev pub first_of_bridge_command : BridgeCommand → Mark
first_of_bridge_command bridge_command.Version = mark.Mstplan
first_of_bridge_command bridge_command.Add = mark.AddBridge
first_of_bridge_command bridge_command.Off = mark.Bridge
first_of_bridge_command bridge_command.Rstp = mark.Kind
first_of_bridge_command bridge_command.SystemPriority = mark.SetSysPri
first_of_bridge_command bridge_command.Configuration = mark.SetMstconfid
first_of_bridge_command bridge_command.Msti = mark.SetVid2Mstid
first_of_bridge_command bridge_command.MaxHops = mark.SetMaxHops
first_of_bridge_command bridge_command.MaxAge = mark.SetMaxAge
first_of_bridge_command bridge_command.Priority = mark.SetTreePrio
first_of_bridge_command bridge_command.Delete = mark.DelBridge
first_of_bridge_command bridge_command.On = mark.Bridge
first_of_bridge_command bridge_command.Mstp = mark.Kind

abbrev pub parts_of_bridge_command : BridgeCommand → List Part
-- `mstplan 2`
parts_of_bridge_command bridge_command.Version = part.Key key.Version ∷ []
-- `addbridge B MAC`
parts_of_bridge_command bridge_command.Add = part.Key key.Bridge ∷ part.Key key.Mac ∷ []
-- `bridge B off`
parts_of_bridge_command bridge_command.Off = part.Key key.Bridge ∷ part.Said key.Power mark.Off ∷ []
-- `kind B rstp`
parts_of_bridge_command bridge_command.Rstp = part.Key key.Bridge ∷ part.Said key.BridgeKind mark.Rstp ∷ []
-- `setsyspri B SYS`
parts_of_bridge_command bridge_command.SystemPriority = part.Key key.Bridge ∷ part.Key key.SystemPriority ∷ []
-- `setmstconfid B REV CNAME`
parts_of_bridge_command bridge_command.Configuration = part.Key key.Bridge ∷ part.Key key.Revision ∷ part.Key key.Name ∷ []
-- `setvid2mstid B TREE VIDS`
parts_of_bridge_command bridge_command.Msti = part.Key key.Bridge ∷ part.Key key.Tree ∷ part.Key key.Vids ∷ []
-- `setmaxhops B LIM`
parts_of_bridge_command bridge_command.MaxHops = part.Key key.Bridge ∷ part.Key key.MaxHops ∷ []
-- `setmaxage B LIM`
parts_of_bridge_command bridge_command.MaxAge = part.Key key.Bridge ∷ part.Key key.MaxAge ∷ []
-- `settreeprio B TREE PRIO`
parts_of_bridge_command bridge_command.Priority = part.Key key.Bridge ∷ part.Key key.Tree ∷ part.Key key.Priority ∷ []
-- `delbridge B`
parts_of_bridge_command bridge_command.Delete = part.Key key.Bridge ∷ []
-- `bridge B on`
parts_of_bridge_command bridge_command.On = part.Key key.Bridge ∷ part.Said key.Power mark.On ∷ []
-- `kind B mstp`
parts_of_bridge_command bridge_command.Mstp = part.Key key.Bridge ∷ part.Said key.BridgeKind mark.Mstp ∷ []

-- ---- a line of a saved network that is of a port or of a LAN
abbrev pub first_of_port_command : PortCommand → Mark
first_of_port_command port_command.Add = mark.AddPort
first_of_port_command port_command.Key = mark.SetKey
first_of_port_command port_command.ExternalCost = mark.SetPortPathCost
first_of_port_command port_command.InternalCost = mark.SetTreePortCost
first_of_port_command port_command.Priority = mark.SetTreePortPrio
first_of_port_command port_command.Vlans = mark.SetPortVlans
first_of_port_command port_command.NoVlans = mark.SetPortVlans
first_of_port_command port_command.Restricted = mark.SetPortRestrRole
first_of_port_command port_command.Plug = mark.Plug
first_of_port_command port_command.AddLan = mark.AddLan
first_of_port_command port_command.LanDown = mark.Lan
first_of_port_command port_command.Speed = mark.Speed
first_of_port_command port_command.Delete = mark.DelPort
first_of_port_command port_command.AllVlans = mark.SetPortVlans
first_of_port_command port_command.Unrestricted = mark.SetPortRestrRole
first_of_port_command port_command.Unplug = mark.Unplug
first_of_port_command port_command.DeleteLan = mark.DelLan
first_of_port_command port_command.LanUp = mark.Lan

abbrev pub parts_of_port_command : PortCommand → List Part
-- `addport B P`
parts_of_port_command port_command.Add = part.Key key.Bridge ∷ part.Key key.Port ∷ []
-- `setkey B P KEY`
parts_of_port_command port_command.Key = part.Key key.Bridge ∷ part.Key key.Port ∷ part.Key key.AggregationKey ∷ []
-- `setportpathcost B P COST`
parts_of_port_command port_command.ExternalCost = part.Key key.Bridge ∷ part.Key key.Port ∷ part.Key key.Ext ∷ []
-- `settreeportcost B P TREE COST`
parts_of_port_command port_command.InternalCost = part.Key key.Bridge ∷ part.Key key.Port ∷ part.Key key.Tree ∷ part.Key key.Int ∷ []
-- `settreeportprio B P TREE PRIO`
parts_of_port_command port_command.Priority = part.Key key.Bridge ∷ part.Key key.Port ∷ part.Key key.Tree ∷ part.Key key.PortPriority ∷ []
-- `setportvlans B P VIDS`
parts_of_port_command port_command.Vlans = part.Key key.Bridge ∷ part.Key key.Port ∷ part.Key key.Vids ∷ []
-- `setportvlans B P none`
parts_of_port_command port_command.NoVlans = part.Key key.Bridge ∷ part.Key key.Port ∷ part.Said key.Vlans mark.None ∷ part.Above key.Vids ∷ []
-- `setportrestrrole B P yes`
parts_of_port_command port_command.Restricted = part.Key key.Bridge ∷ part.Key key.Port ∷ part.Said key.Restricted mark.Yes ∷ []
-- `plug B P L`
parts_of_port_command port_command.Plug = part.Key key.Bridge ∷ part.Key key.Port ∷ part.Key key.Lan ∷ []
-- `addlan L`
parts_of_port_command port_command.AddLan = part.Key key.Lan ∷ []
-- `lan L down`
parts_of_port_command port_command.LanDown = part.Key key.Lan ∷ part.Said key.State mark.Down ∷ []
-- `speed L KBPS`
parts_of_port_command port_command.Speed = part.Key key.Lan ∷ part.Key key.Speed ∷ []
-- `delport B P`
parts_of_port_command port_command.Delete = part.Key key.Bridge ∷ part.Key key.Port ∷ []
-- `setportvlans B P all`
parts_of_port_command port_command.AllVlans = part.Key key.Bridge ∷ part.Key key.Port ∷ part.Said key.Vlans mark.All ∷ part.Above key.Vids ∷ []
-- `setportrestrrole B P no`
parts_of_port_command port_command.Unrestricted = part.Key key.Bridge ∷ part.Key key.Port ∷ part.Said key.Restricted mark.No ∷ []
-- `unplug B P`
parts_of_port_command port_command.Unplug = part.Key key.Bridge ∷ part.Key key.Port ∷ []
-- `dellan L`
parts_of_port_command port_command.DeleteLan = part.Key key.Lan ∷ []
-- `lan L up`
parts_of_port_command port_command.LanUp = part.Key key.Lan ∷ part.Said key.State mark.Up ∷ []

-- ---- a line of why a port has its role
abbrev pub first_of_explain_line : ExplainLine → Mark
first_of_explain_line explain_line.Port = mark.Explain
first_of_explain_line explain_line.Restricted = mark.Restricted
first_of_explain_line explain_line.Boundary = mark.Boundary
first_of_explain_line explain_line.BridgeOff = mark.Off
first_of_explain_line explain_line.LanDown = mark.Down

abbrev pub parts_of_explain_line : ExplainLine → List Part
-- `explain T B:P LAN ROLE`
parts_of_explain_line explain_line.Port = part.Key key.Tree ∷ part.Port ∷ part.Key key.Lan ∷ part.Key key.Role ∷ []
-- `restricted`
parts_of_explain_line explain_line.Restricted = part.Above key.Tree ∷ part.AbovePort ∷ []
-- `boundary ROLE designated B:P`
parts_of_explain_line explain_line.Boundary = part.Above key.Tree ∷ part.AbovePort ∷ part.Key key.Role ∷ part.Mark mark.Designated ∷ part.Key key.Designated ∷ []
-- `off B`
parts_of_explain_line explain_line.BridgeOff = part.Above key.Tree ∷ part.AbovePort ∷ part.Key key.OffBridge ∷ []
-- `down L`
parts_of_explain_line explain_line.LanDown = part.Above key.Tree ∷ part.AbovePort ∷ part.Key key.DownLan ∷ []

-- ---- a line of what won over what, for the role of a port
abbrev pub first_of_contest_line : ContestLine → Mark
first_of_contest_line contest_line.DesignatedAlone = mark.Designated
first_of_contest_line contest_line.DesignatedOver = mark.Designated
first_of_contest_line contest_line.DesignatedByCost = mark.Designated
first_of_contest_line contest_line.DesignatedById = mark.Designated
first_of_contest_line contest_line.RootAlone = mark.Root
first_of_contest_line contest_line.RootOver = mark.Root
first_of_contest_line contest_line.RootByCost = mark.Root
first_of_contest_line contest_line.RootById = mark.Root

abbrev pub parts_of_contest_line : ContestLine → List Part
-- `designated W alone`
parts_of_contest_line contest_line.DesignatedAlone = part.Above key.Tree ∷ part.AbovePort ∷ part.Key key.Winner ∷ part.Mark mark.Alone ∷ []
-- `designated W over X`, where no component differs
parts_of_contest_line contest_line.DesignatedOver = part.Above key.Tree ∷ part.AbovePort ∷ part.Key key.Winner ∷ part.Mark mark.Over ∷ part.Key key.Loser ∷ []
-- `designated W over X FIELD w x`, of a cost
parts_of_contest_line contest_line.DesignatedByCost = part.Above key.Tree ∷ part.AbovePort ∷ part.Key key.Winner ∷ part.Mark mark.Over ∷ part.Key key.Loser ∷ part.Key key.Field ∷ part.Key key.Value ∷ part.Key key.LoserValue ∷ []
-- `designated W over X FIELD w x`, of an identifier
parts_of_contest_line contest_line.DesignatedById = part.Above key.Tree ∷ part.AbovePort ∷ part.Key key.Winner ∷ part.Mark mark.Over ∷ part.Key key.Loser ∷ part.Key key.Field ∷ part.Key key.ValueId ∷ part.Key key.LoserId ∷ []
-- `root W alone`
parts_of_contest_line contest_line.RootAlone = part.Above key.Tree ∷ part.AbovePort ∷ part.Key key.Winner ∷ part.Mark mark.Alone ∷ []
-- `root W over X`, where no component differs
parts_of_contest_line contest_line.RootOver = part.Above key.Tree ∷ part.AbovePort ∷ part.Key key.Winner ∷ part.Mark mark.Over ∷ part.Key key.Loser ∷ []
-- `root W over X FIELD w x`, of a cost
parts_of_contest_line contest_line.RootByCost = part.Above key.Tree ∷ part.AbovePort ∷ part.Key key.Winner ∷ part.Mark mark.Over ∷ part.Key key.Loser ∷ part.Key key.Field ∷ part.Key key.Value ∷ part.Key key.LoserValue ∷ []
-- `root W over X FIELD w x`, of an identifier
parts_of_contest_line contest_line.RootById = part.Above key.Tree ∷ part.AbovePort ∷ part.Key key.Winner ∷ part.Mark mark.Over ∷ part.Key key.Loser ∷ part.Key key.Field ∷ part.Key key.ValueId ∷ part.Key key.LoserId ∷ []

-- ---- a line of what failures do
abbrev pub first_of_sweep_line : SweepLine → Mark
first_of_sweep_line sweep_line.Lan = mark.Lan
first_of_sweep_line sweep_line.Bridge = mark.Bridge
first_of_sweep_line sweep_line.Risk = mark.Risk
first_of_sweep_line sweep_line.Cut = mark.Cut
first_of_sweep_line sweep_line.Counts = mark.Sweep
first_of_sweep_line sweep_line.Pair = mark.Pair
first_of_sweep_line sweep_line.CutByPair = mark.Cut
first_of_sweep_line sweep_line.PairCounts = mark.Sweep
first_of_sweep_line sweep_line.RiskCounts = mark.Sweep

abbrev pub parts_of_sweep_line : SweepLine → List Part
-- `lan L roots T,.. ports N cut VIDS`
parts_of_sweep_line sweep_line.Lan = part.Above key.Failure ∷ part.Key key.Lan ∷ part.Mark mark.Roots ∷ part.Commas key.Trees ∷ part.Mark mark.Ports ∷ part.Key key.PortCount ∷ part.Mark mark.Cut ∷ part.Key key.Vids ∷ []
-- `bridge B roots T,.. ports N cut VIDS`
parts_of_sweep_line sweep_line.Bridge = part.Above key.Failure ∷ part.Key key.Bridge ∷ part.Mark mark.Roots ∷ part.Commas key.Trees ∷ part.Mark mark.Ports ∷ part.Key key.PortCount ∷ part.Mark mark.Cut ∷ part.Key key.Vids ∷ []
-- `risk NAME roots T,.. ports N cut VIDS`
parts_of_sweep_line sweep_line.Risk = part.Above key.Failure ∷ part.Key key.Risk ∷ part.Mark mark.Roots ∷ part.Commas key.Trees ∷ part.Mark mark.Ports ∷ part.Key key.PortCount ∷ part.Mark mark.Cut ∷ part.Key key.Vids ∷ []
-- `cut VIDS parts B,.. ..`
parts_of_sweep_line sweep_line.Cut = part.Above key.Failure ∷ part.Key key.Vids ∷ part.Mark mark.Parts ∷ part.Key key.Parts ∷ []
-- `sweep lans N bridges N cuts N`
parts_of_sweep_line sweep_line.Counts = part.Mark mark.Lans ∷ part.Key key.LanCount ∷ part.Mark mark.Bridges ∷ part.Key key.BridgeCount ∷ part.Mark mark.Cuts ∷ part.Key key.CutCount ∷ []
-- `pair lan L bridge B cut VIDS`
parts_of_sweep_line sweep_line.Pair = part.Key key.Failure ∷ part.Key key.OtherFailure ∷ part.Mark mark.Cut ∷ part.Key key.Vids ∷ []
-- `cut VIDS parts B,.. ..`, behind a pair
parts_of_sweep_line sweep_line.CutByPair = part.Above key.Failure ∷ part.Above key.OtherFailure ∷ part.Key key.Vids ∷ part.Mark mark.Parts ∷ part.Key key.Parts ∷ []
-- `sweep pairs N cuts N`
parts_of_sweep_line sweep_line.PairCounts = part.Mark mark.Pairs ∷ part.Key key.PairCount ∷ part.Mark mark.Cuts ∷ part.Key key.CutCount ∷ []
-- `sweep risks N cuts N`
parts_of_sweep_line sweep_line.RiskCounts = part.Mark mark.Risks ∷ part.Key key.RiskCount ∷ part.Mark mark.Cuts ∷ part.Key key.CutCount ∷ []

-- ---- a line of a summary
abbrev pub first_of_summary_line : SummaryLine → Mark
first_of_summary_line summary_line.Counts = mark.Bridges
first_of_summary_line summary_line.Root = mark.Tree
first_of_summary_line summary_line.RootAlone = mark.Tree
first_of_summary_line summary_line.Blocked = mark.Blocked
first_of_summary_line summary_line.Vlan = mark.Vlan
first_of_summary_line summary_line.Carries = mark.Carries
first_of_summary_line summary_line.CarriesAll = mark.Carries
first_of_summary_line summary_line.LookRegion = mark.Look
first_of_summary_line summary_line.LookTable = mark.Look
first_of_summary_line summary_line.LookLan = mark.Look
first_of_summary_line summary_line.LookVlans = mark.Look
first_of_summary_line summary_line.Digest = mark.Digest

abbrev pub parts_of_summary_line : SummaryLine → List Part
-- `bridges N on N ports N enabled N regions N trees N`
parts_of_summary_line summary_line.Counts = part.Key key.BridgeCount ∷ part.Mark mark.On ∷ part.Key key.OnCount ∷ part.Mark mark.Ports ∷ part.Key key.PortCount ∷ part.Mark mark.Enabled ∷ part.Key key.EnabledCount ∷ part.Mark mark.Regions ∷ part.Key key.RegionCount ∷ part.Mark mark.Trees ∷ part.Key key.TreeCount ∷ []
-- `tree T root B PRIO of N next B PRIO`
parts_of_summary_line summary_line.Root = part.Key key.Tree ∷ part.Mark mark.Root ∷ part.Key key.Root ∷ part.Key key.Priority ∷ part.Mark mark.Of ∷ part.Key key.BridgeCount ∷ part.Mark mark.Next ∷ part.Key key.Next ∷ part.Key key.NextPriority ∷ []
-- `tree T root B PRIO of N next -`
parts_of_summary_line summary_line.RootAlone = part.Key key.Tree ∷ part.Mark mark.Root ∷ part.Key key.Root ∷ part.Key key.Priority ∷ part.Mark mark.Of ∷ part.Key key.BridgeCount ∷ part.Mark mark.Next ∷ part.Key key.Next ∷ []
-- `blocked T B:P,..`
parts_of_summary_line summary_line.Blocked = part.Key key.Tree ∷ part.Commas key.Ports ∷ []
-- `vlan VIDS islands N`
parts_of_summary_line summary_line.Vlan = part.Key key.Vids ∷ part.Mark mark.Islands ∷ part.Key key.IslandCount ∷ []
-- `carries LAN VIDS`
parts_of_summary_line summary_line.Carries = part.Key key.Lan ∷ part.Key key.Vids ∷ []
-- `carries * L,..`
parts_of_summary_line summary_line.CarriesAll = part.Mark mark.Every ∷ part.Commas key.Lans ∷ []
-- `look region CNAME B,.. CNAME B,..`
parts_of_summary_line summary_line.LookRegion = part.Said key.Look mark.Region ∷ part.Key key.Name ∷ part.Commas key.Bridges ∷ part.Key key.OtherName ∷ part.Commas key.OtherBridges ∷ []
-- `look region NAME REV B table without VIDS`
parts_of_summary_line summary_line.LookTable = part.Said key.Look mark.Region ∷ part.Key key.Name ∷ part.Key key.Revision ∷ part.Key key.Bridge ∷ part.Mark mark.Table ∷ part.Mark mark.Without ∷ part.Key key.Vids ∷ []
-- `look lan L speed S next S`
parts_of_summary_line summary_line.LookLan = part.Said key.Look mark.Lan ∷ part.Key key.Lan ∷ part.Mark mark.Speed ∷ part.Key key.Speed ∷ part.Mark mark.Next ∷ part.Key key.NextSpeed ∷ []
-- `look vlans B:P VIDS C:Q VIDS`
parts_of_summary_line summary_line.LookVlans = part.Said key.Look mark.Vlans ∷ part.Port ∷ part.Key key.Vids ∷ part.Key key.OtherPort ∷ part.Key key.OtherVids ∷ []
-- `digest DIGEST`
parts_of_summary_line summary_line.Digest = part.Key key.Digest ∷ []

-- ---- a line of what a capture has
abbrev pub first_of_capture_line : CaptureLine → Mark
first_of_capture_line capture_line.Agrees = mark.Capture
first_of_capture_line capture_line.Number = mark.Capture
first_of_capture_line capture_line.Text = mark.Capture
first_of_capture_line capture_line.MstiNumber = mark.Capture
first_of_capture_line capture_line.MstiText = mark.Capture
first_of_capture_line capture_line.Unplanned = mark.Capture
first_of_capture_line capture_line.Repeated = mark.Capture
first_of_capture_line capture_line.Missing = mark.Capture
first_of_capture_line capture_line.Unread = mark.Capture
first_of_capture_line capture_line.Counts = mark.Check

abbrev pub parts_of_capture_line : CaptureLine → List Part
-- `capture N B:P agrees`
parts_of_capture_line capture_line.Agrees = part.Key key.Line ∷ part.Port ∷ part.Said key.Result mark.Agrees ∷ []
-- `capture N B:P FIELD plan X capture Y`, of a number
parts_of_capture_line capture_line.Number = part.Key key.Line ∷ part.Port ∷ part.Told key.TreeKind mark.Cist ∷ part.Above key.Tree ∷ part.Key key.Field ∷ part.Mark mark.Plan ∷ part.Key key.Plan ∷ part.Mark mark.Capture ∷ part.Key key.Captured ∷ []
-- `capture N B:P FIELD plan X capture Y`, of an identifier, a name or a digest
parts_of_capture_line capture_line.Text = part.Key key.Line ∷ part.Port ∷ part.Told key.TreeKind mark.Cist ∷ part.Above key.Tree ∷ part.Key key.Field ∷ part.Mark mark.Plan ∷ part.Key key.PlanText ∷ part.Mark mark.Capture ∷ part.Key key.CapturedText ∷ []
-- `capture N B:P msti T FIELD plan X capture Y`, of a number
parts_of_capture_line capture_line.MstiNumber = part.Key key.Line ∷ part.Port ∷ part.Said key.TreeKind mark.Msti ∷ part.Key key.Tree ∷ part.Key key.Field ∷ part.Mark mark.Plan ∷ part.Key key.Plan ∷ part.Mark mark.Capture ∷ part.Key key.Captured ∷ []
-- `capture N B:P msti T FIELD plan X capture Y`, of an identifier
parts_of_capture_line capture_line.MstiText = part.Key key.Line ∷ part.Port ∷ part.Said key.TreeKind mark.Msti ∷ part.Key key.Tree ∷ part.Key key.Field ∷ part.Mark mark.Plan ∷ part.Key key.PlanText ∷ part.Mark mark.Capture ∷ part.Key key.CapturedText ∷ []
-- `capture N B:P msti T unplanned`
parts_of_capture_line capture_line.Unplanned = part.Key key.Line ∷ part.Port ∷ part.Said key.TreeKind mark.Msti ∷ part.Key key.Tree ∷ part.Said key.Result mark.Unplanned ∷ []
-- `capture N B:P msti T repeated`
parts_of_capture_line capture_line.Repeated = part.Key key.Line ∷ part.Port ∷ part.Said key.TreeKind mark.Msti ∷ part.Key key.Tree ∷ part.Said key.Result mark.Repeated ∷ []
-- `capture N B:P msti T missing`
parts_of_capture_line capture_line.Missing = part.Key key.Line ∷ part.Port ∷ part.Said key.TreeKind mark.Msti ∷ part.Key key.Tree ∷ part.Said key.Result mark.Missing ∷ []
-- `capture N CODE TEXT`
parts_of_capture_line capture_line.Unread = part.Key key.Line ∷ part.Key key.Error ∷ part.Key key.Text ∷ []
parts_of_capture_line capture_line.Counts = part.Mark mark.Captures ∷ part.Key key.CaptureCount ∷ part.Mark mark.Agree ∷ part.Key key.AgreeCount ∷ []

-- ---- a line that says what is refused
abbrev pub first_of_refusal_line : RefusalLine → Mark
first_of_refusal_line refusal_line.Line = mark.Line
first_of_refusal_line refusal_line.Hinted = mark.Line
first_of_refusal_line refusal_line.OldLine = mark.Old
first_of_refusal_line refusal_line.NewLine = mark.New
first_of_refusal_line refusal_line.Explain = mark.Explain
first_of_refusal_line refusal_line.Dot = mark.Dot
first_of_refusal_line refusal_line.Policy = mark.Policy
first_of_refusal_line refusal_line.Change = mark.Change
first_of_refusal_line refusal_line.Advise = mark.Advise
first_of_refusal_line refusal_line.StepPolicy = mark.Policy
first_of_refusal_line refusal_line.StepChange = mark.Change
first_of_refusal_line refusal_line.Path = mark.Path

abbrev pub parts_of_refusal_line : RefusalLine → List Part
-- `line N CODE TEXT`
parts_of_refusal_line refusal_line.Line = part.Key key.Line ∷ part.Key key.Error ∷ part.Key key.Text ∷ []
-- `line N CODE TEXT`, with a hint
parts_of_refusal_line refusal_line.Hinted = part.Key key.Line ∷ part.Key key.Error ∷ part.Key key.Text ∷ part.Above key.Hint ∷ []
-- `old line N CODE TEXT`
parts_of_refusal_line refusal_line.OldLine = part.Told key.Side mark.Old ∷ part.Mark mark.Line ∷ part.Key key.Line ∷ part.Key key.Error ∷ part.Key key.Text ∷ []
-- `new line N CODE TEXT`
parts_of_refusal_line refusal_line.NewLine = part.Told key.Side mark.New ∷ part.Mark mark.Line ∷ part.Key key.Line ∷ part.Key key.Error ∷ part.Key key.Text ∷ []
-- `explain CODE TEXT`
parts_of_refusal_line refusal_line.Explain = part.Key key.Error ∷ part.Key key.Text ∷ []
-- `dot CODE TEXT`
parts_of_refusal_line refusal_line.Dot = part.Key key.Error ∷ part.Key key.Text ∷ []
-- `policy N CODE TEXT`
parts_of_refusal_line refusal_line.Policy = part.Key key.Line ∷ part.Key key.Error ∷ part.Key key.Text ∷ []
-- `change N CODE TEXT`
parts_of_refusal_line refusal_line.Change = part.Key key.Line ∷ part.Key key.Error ∷ part.Key key.Text ∷ []
-- `advise CODE TEXT`
parts_of_refusal_line refusal_line.Advise = part.Key key.Error ∷ part.Key key.Text ∷ []
-- `policy N CODE TEXT`, behind a step
parts_of_refusal_line refusal_line.StepPolicy = part.Above key.Step ∷ part.Key key.Line ∷ part.Key key.Error ∷ part.Key key.Text ∷ []
-- `change N CODE TEXT`, behind a step
parts_of_refusal_line refusal_line.StepChange = part.Above key.Step ∷ part.Key key.Line ∷ part.Key key.Error ∷ part.Key key.Text ∷ []
-- `path CODE TEXT`
parts_of_refusal_line refusal_line.Path = part.Key key.Error ∷ part.Key key.Text ∷ []

-- ---- a line of a standing planner
abbrev pub first_of_ask_line : AskLine → Mark
first_of_ask_line ask_line.Undone = mark.Undone
first_of_ask_line ask_line.Done = mark.Done

abbrev pub parts_of_ask_line : AskLine → List Part
-- `undone LINE`
parts_of_ask_line ask_line.Undone = part.Key key.Text ∷ []
-- `done STATUS`
parts_of_ask_line ask_line.Done = part.Key key.Status ∷ []

-- ---- a line of whether a network does what a policy promises
abbrev pub first_of_verify_line : VerifyLine → Mark
first_of_verify_line verify_line.OtherRoot = mark.Fails
first_of_verify_line verify_line.NoRoot = mark.Fails
first_of_verify_line verify_line.OtherNext = mark.Fails
first_of_verify_line verify_line.Region = mark.Fails
first_of_verify_line verify_line.Role = mark.Fails
first_of_verify_line verify_line.Reach = mark.Fails
first_of_verify_line verify_line.Apart = mark.Fails
first_of_verify_line verify_line.Leaves = mark.Fails
first_of_verify_line verify_line.Together = mark.Fails
first_of_verify_line verify_line.Leaf = mark.Fails
first_of_verify_line verify_line.Depth = mark.Fails
first_of_verify_line verify_line.Carries = mark.Fails
first_of_verify_line verify_line.Avoids = mark.Fails
first_of_verify_line verify_line.TooManyHops = mark.Fails
first_of_verify_line verify_line.NotVia = mark.Fails
first_of_verify_line verify_line.Hops = mark.Fails
first_of_verify_line verify_line.Age = mark.Fails
first_of_verify_line verify_line.ExternalCost = mark.Fails
first_of_verify_line verify_line.InternalCost = mark.Fails
first_of_verify_line verify_line.Same = mark.Same
first_of_verify_line verify_line.Counts = mark.Verify

abbrev pub parts_of_verify_line : VerifyLine → List Part
-- `fails N PLACE root T R of M`
parts_of_verify_line verify_line.OtherRoot = part.Key key.Line ∷ part.Key key.Failure ∷ part.Said key.Expectation mark.Root ∷ part.Key key.Tree ∷ part.Key key.Root ∷ part.Mark mark.Of ∷ part.Key key.BridgeCount ∷ []
-- `fails N PLACE root T -`
parts_of_verify_line verify_line.NoRoot = part.Key key.Line ∷ part.Key key.Failure ∷ part.Said key.Expectation mark.Root ∷ part.Key key.Tree ∷ part.Key key.Root ∷ []
-- `fails N PLACE root T B next D`
parts_of_verify_line verify_line.OtherNext = part.Key key.Line ∷ part.Key key.Failure ∷ part.Said key.Expectation mark.Root ∷ part.Key key.Tree ∷ part.Key key.Root ∷ part.Mark mark.Next ∷ part.Key key.Next ∷ []
-- `fails N PLACE region parts B,.. ..`
parts_of_verify_line verify_line.Region = part.Key key.Line ∷ part.Key key.Failure ∷ part.Said key.Expectation mark.Region ∷ part.Mark mark.Parts ∷ part.Key key.Parts ∷ []
-- `fails N PLACE role T B:P,.. ROLE`
parts_of_verify_line verify_line.Role = part.Key key.Line ∷ part.Key key.Failure ∷ part.Said key.Expectation mark.Role ∷ part.Key key.Tree ∷ part.Commas key.Ports ∷ part.Key key.Role ∷ []
-- `fails N PLACE reach VIDS parts B,.. ..`
parts_of_verify_line verify_line.Reach = part.Key key.Line ∷ part.Key key.Failure ∷ part.Said key.Expectation mark.Reach ∷ part.Key key.Vids ∷ part.Mark mark.Parts ∷ part.Key key.Parts ∷ []
-- `fails N PLACE apart VIDS joined B,.. ..`
parts_of_verify_line verify_line.Apart = part.Key key.Line ∷ part.Key key.Failure ∷ part.Said key.Expectation mark.Apart ∷ part.Key key.Vids ∷ part.Mark mark.Joined ∷ part.Key key.Joined ∷ []
-- `fails N PLACE leaves VIDS joined B,.. ..`
parts_of_verify_line verify_line.Leaves = part.Key key.Line ∷ part.Key key.Failure ∷ part.Said key.Expectation mark.Leaves ∷ part.Key key.Vids ∷ part.Mark mark.Joined ∷ part.Key key.Joined ∷ []
-- `fails N PLACE together VIDS parts B,.. ..`
parts_of_verify_line verify_line.Together = part.Key key.Line ∷ part.Key key.Failure ∷ part.Said key.Expectation mark.Together ∷ part.Key key.Vids ∷ part.Mark mark.Parts ∷ part.Key key.Parts ∷ []
-- `fails N PLACE leaf T B parent of C,..`
parts_of_verify_line verify_line.Leaf = part.Key key.Line ∷ part.Key key.Failure ∷ part.Said key.Expectation mark.Leaf ∷ part.Key key.Tree ∷ part.Key key.Bridge ∷ part.Mark mark.Parent ∷ part.Mark mark.Of ∷ part.Commas key.Bridges ∷ []
-- `fails N PLACE depth T D B,..`
parts_of_verify_line verify_line.Depth = part.Key key.Line ∷ part.Key key.Failure ∷ part.Said key.Expectation mark.Depth ∷ part.Key key.Tree ∷ part.Key key.Depth ∷ part.Commas key.Bridges ∷ []
-- `fails N PLACE carries L without VIDS`
parts_of_verify_line verify_line.Carries = part.Key key.Line ∷ part.Key key.Failure ∷ part.Said key.Expectation mark.Carries ∷ part.Key key.Lan ∷ part.Mark mark.Without ∷ part.Key key.Vids ∷ []
-- `fails N PLACE avoids L with VIDS`
parts_of_verify_line verify_line.Avoids = part.Key key.Line ∷ part.Key key.Failure ∷ part.Said key.Expectation mark.Avoids ∷ part.Key key.Lan ∷ part.Mark mark.With ∷ part.Key key.Vids ∷ []
-- `fails N PLACE hops VIDS D A,B`
parts_of_verify_line verify_line.TooManyHops = part.Key key.Line ∷ part.Key key.Failure ∷ part.Said key.Expectation mark.Hops ∷ part.Key key.Vids ∷ part.Key key.HopCount ∷ part.Commas key.Bridges ∷ []
-- `fails N PLACE via VIDS by A,..,B`
parts_of_verify_line verify_line.NotVia = part.Key key.Line ∷ part.Key key.Failure ∷ part.Said key.Expectation mark.Via ∷ part.Key key.Vids ∷ part.Mark mark.By ∷ part.Commas key.Bridges ∷ []
-- `fails N PLACE note hops T B depth D limit H`
parts_of_verify_line verify_line.Hops = part.Key key.Line ∷ part.Key key.Failure ∷ part.Told key.Expectation mark.Fits ∷ part.Mark mark.Note ∷ part.Said key.Note mark.Hops ∷ part.Key key.Tree ∷ part.Key key.Bridge ∷ part.Mark mark.Depth ∷ part.Key key.Depth ∷ part.Mark mark.Limit ∷ part.Key key.Limit ∷ []
-- `fails N PLACE note age B depth D limit M`
parts_of_verify_line verify_line.Age = part.Key key.Line ∷ part.Key key.Failure ∷ part.Told key.Expectation mark.Fits ∷ part.Mark mark.Note ∷ part.Said key.Note mark.Age ∷ part.Above key.Tree ∷ part.Key key.Bridge ∷ part.Mark mark.Depth ∷ part.Key key.Depth ∷ part.Mark mark.Limit ∷ part.Key key.Limit ∷ []
-- `fails N PLACE note cost T B ext C`
parts_of_verify_line verify_line.ExternalCost = part.Key key.Line ∷ part.Key key.Failure ∷ part.Told key.Expectation mark.Fits ∷ part.Mark mark.Note ∷ part.Said key.Note mark.Cost ∷ part.Key key.Tree ∷ part.Key key.Bridge ∷ part.Mark mark.Ext ∷ part.Key key.Ext ∷ []
-- `fails N PLACE note cost T B int C`
parts_of_verify_line verify_line.InternalCost = part.Key key.Line ∷ part.Key key.Failure ∷ part.Told key.Expectation mark.Fits ∷ part.Mark mark.Note ∷ part.Said key.Note mark.Cost ∷ part.Key key.Tree ∷ part.Key key.Bridge ∷ part.Mark mark.Int ∷ part.Key key.Int ∷ []
-- `same N failures M`
parts_of_verify_line verify_line.Same = part.Key key.Line ∷ part.Mark mark.Failures ∷ part.Key key.FailureCount ∷ []
-- `verify expectations N hold M`
parts_of_verify_line verify_line.Counts = part.Mark mark.Expectations ∷ part.Key key.ExpectationCount ∷ part.Mark mark.Hold ∷ part.Key key.HoldCount ∷ part.Above key.Promises ∷ []

-- the same of a line of a policy behind a step: in front the number of that step, of the record alone
abbrev pub parts_behind_step : VerifyLine → List Part
parts_behind_step line = part.Above key.Step ∷ parts_of_verify_line line

-- ---- a line of what the steps of a change do
abbrev pub first_of_step_line : StepLine → Mark
first_of_step_line step_line.Step = mark.Step
first_of_step_line step_line.Cut = mark.Cut
first_of_step_line step_line.Start = mark.Start
first_of_step_line step_line.Mends = mark.Mends
first_of_step_line step_line.Turns = mark.Turns
first_of_step_line step_line.Restarts = mark.Restarts
first_of_step_line step_line.Counts = mark.Steps
first_of_step_line step_line.JudgedCounts = mark.Steps

abbrev pub parts_of_step_line : StepLine → List Part
-- `step K lines N-M roots T,.. ports N moved VIDS cut VIDS joined VIDS`
parts_of_step_line step_line.Step = part.Key key.Step ∷ part.Mark mark.Lines ∷ part.Key key.Lines ∷ part.Mark mark.Roots ∷ part.Commas key.Trees ∷ part.Mark mark.Ports ∷ part.Key key.PortCount ∷ part.Mark mark.Moved ∷ part.Key key.MovedVids ∷ part.Mark mark.Cut ∷ part.Key key.CutVids ∷ part.Mark mark.Joined ∷ part.Key key.JoinedVids ∷ []
-- `cut VIDS parts B,.. ..`, behind a step
parts_of_step_line step_line.Cut = part.Above key.Step ∷ part.Key key.Vids ∷ part.Mark mark.Parts ∷ part.Key key.Parts ∷ []
-- `start unkept S`
parts_of_step_line step_line.Start = part.Above key.Step ∷ part.Mark mark.Unkept ∷ part.Key key.UnkeptCount ∷ []
-- `mends N`
parts_of_step_line step_line.Mends = part.Above key.Step ∷ part.Key key.Line ∷ []
-- `turns T,.. B,..`
parts_of_step_line step_line.Turns = part.Above key.Step ∷ part.Commas key.Trees ∷ part.Commas key.Bridges ∷ []
-- `restarts B:P,..`
parts_of_step_line step_line.Restarts = part.Above key.Step ∷ part.Commas key.Ports ∷ []
-- `steps K moving M cutting N`
parts_of_step_line step_line.Counts = part.Key key.StepCount ∷ part.Mark mark.Moving ∷ part.Key key.MovingCount ∷ part.Mark mark.Cutting ∷ part.Key key.CuttingCount ∷ []
-- `steps K moving M cutting N failing F unkept U`
parts_of_step_line step_line.JudgedCounts = part.Key key.StepCount ∷ part.Mark mark.Moving ∷ part.Key key.MovingCount ∷ part.Mark mark.Cutting ∷ part.Key key.CuttingCount ∷ part.Mark mark.Failing ∷ part.Key key.FailingCount ∷ part.Mark mark.Unkept ∷ part.Key key.UnkeptCount ∷ []

-- ---- a line of which settings bring about what is wanted
abbrev pub first_of_advise_line : AdviseLine → Mark
first_of_advise_line advise_line.Priority = mark.Edit
first_of_advise_line advise_line.ExternalCost = mark.Edit
first_of_advise_line advise_line.InternalCost = mark.Edit
first_of_advise_line advise_line.PortPriority = mark.Edit
first_of_advise_line advise_line.Does = mark.Does
first_of_advise_line advise_line.Cut = mark.Cut
first_of_advise_line advise_line.Counts = mark.Advise
first_of_advise_line advise_line.None = mark.Advise
first_of_advise_line advise_line.BecauseOff = mark.Because
first_of_advise_line advise_line.BecauseDown = mark.Because
first_of_advise_line advise_line.BecauseApart = mark.Because
first_of_advise_line advise_line.BecauseRestricted = mark.Because
first_of_advise_line advise_line.BecauseTried = mark.Because

abbrev pub parts_of_advise_line : AdviseLine → List Part
-- `edit settreeprio B T PRIO`
parts_of_advise_line advise_line.Priority = part.Said key.Command mark.SetTreePrio ∷ part.Key key.Bridge ∷ part.Key key.Tree ∷ part.Key key.Priority ∷ []
-- `edit setportpathcost B P COST`
parts_of_advise_line advise_line.ExternalCost = part.Said key.Command mark.SetPortPathCost ∷ part.Key key.Bridge ∷ part.Key key.Port ∷ part.Key key.Ext ∷ []
-- `edit settreeportcost B P T COST`
parts_of_advise_line advise_line.InternalCost = part.Said key.Command mark.SetTreePortCost ∷ part.Key key.Bridge ∷ part.Key key.Port ∷ part.Key key.Tree ∷ part.Key key.Int ∷ []
-- `edit settreeportprio B P T PRIO`
parts_of_advise_line advise_line.PortPriority = part.Said key.Command mark.SetTreePortPrio ∷ part.Key key.Bridge ∷ part.Key key.Port ∷ part.Key key.Tree ∷ part.Key key.PortPriority ∷ []
-- `does roots T,.. ports N moved VIDS cut VIDS joined VIDS`
parts_of_advise_line advise_line.Does = part.Mark mark.Roots ∷ part.Commas key.Trees ∷ part.Mark mark.Ports ∷ part.Key key.PortCount ∷ part.Mark mark.Moved ∷ part.Key key.MovedVids ∷ part.Mark mark.Cut ∷ part.Key key.CutVids ∷ part.Mark mark.Joined ∷ part.Key key.JoinedVids ∷ []
-- `cut VIDS parts B,.. ..`, behind what the edits do
parts_of_advise_line advise_line.Cut = part.Key key.Vids ∷ part.Mark mark.Parts ∷ part.Key key.Parts ∷ []
-- `advise edits N`
parts_of_advise_line advise_line.Counts = part.Mark mark.Edits ∷ part.Key key.EditCount ∷ []
-- `advise none`
parts_of_advise_line advise_line.None = part.Said key.Result mark.None ∷ []
-- `because off B`
parts_of_advise_line advise_line.BecauseOff = part.Said key.Because mark.Off ∷ part.Key key.OffBridge ∷ []
-- `because down L`
parts_of_advise_line advise_line.BecauseDown = part.Said key.Because mark.Down ∷ part.Key key.DownLan ∷ []
-- `because apart B,..`
parts_of_advise_line advise_line.BecauseApart = part.Said key.Because mark.Apart ∷ part.Commas key.Bridges ∷ []
-- `because restricted`
parts_of_advise_line advise_line.BecauseRestricted = part.Said key.Because mark.Restricted ∷ []
-- `because tried N`
parts_of_advise_line advise_line.BecauseTried = part.Said key.Because mark.Tried ∷ part.Key key.TrialCount ∷ []

-- ---- a line of the path between two bridges
abbrev pub first_of_path_line : PathLine → Mark
first_of_path_line path_line.Path = mark.Path
first_of_path_line path_line.None = mark.Path
first_of_path_line path_line.Hop = mark.Hop
first_of_path_line path_line.Lan = mark.Lan
first_of_path_line path_line.Bridge = mark.Bridge
first_of_path_line path_line.NoneByLan = mark.Lan
first_of_path_line path_line.NoneByBridge = mark.Bridge
first_of_path_line path_line.Counts = mark.Path

abbrev pub parts_of_path_line : PathLine → List Part
-- `path VID A B hops N`
parts_of_path_line path_line.Path = part.Key key.Vid ∷ part.Key key.From ∷ part.Key key.To ∷ part.Mark mark.Hops ∷ part.Key key.HopCount ∷ []
-- `path VID A B none`
parts_of_path_line path_line.None = part.Key key.Vid ∷ part.Key key.From ∷ part.Key key.To ∷ part.Said key.Result mark.None ∷ []
-- `hop K B:P L C:Q`
parts_of_path_line path_line.Hop = part.Above key.Vid ∷ part.Above key.From ∷ part.Above key.To ∷ part.Key key.Hop ∷ part.Port ∷ part.Key key.Lan ∷ part.Key key.OtherPort ∷ []
-- `lan L hops N by A,..,B`
parts_of_path_line path_line.Lan = part.Above key.Vid ∷ part.Above key.From ∷ part.Above key.To ∷ part.Above key.Failure ∷ part.Key key.Lan ∷ part.Mark mark.Hops ∷ part.Key key.HopCount ∷ part.Mark mark.By ∷ part.Commas key.Bridges ∷ []
-- `bridge B hops N by A,..,B`
parts_of_path_line path_line.Bridge = part.Above key.Vid ∷ part.Above key.From ∷ part.Above key.To ∷ part.Above key.Failure ∷ part.Key key.Bridge ∷ part.Mark mark.Hops ∷ part.Key key.HopCount ∷ part.Mark mark.By ∷ part.Commas key.Bridges ∷ []
-- `lan L none`
parts_of_path_line path_line.NoneByLan = part.Above key.Vid ∷ part.Above key.From ∷ part.Above key.To ∷ part.Above key.Failure ∷ part.Key key.Lan ∷ part.Said key.Result mark.None ∷ []
-- `bridge B none`
parts_of_path_line path_line.NoneByBridge = part.Above key.Vid ∷ part.Above key.From ∷ part.Above key.To ∷ part.Above key.Failure ∷ part.Key key.Bridge ∷ part.Said key.Result mark.None ∷ []
-- `path failures N other N none N`
parts_of_path_line path_line.Counts = part.Above key.Vid ∷ part.Above key.From ∷ part.Above key.To ∷ part.Mark mark.Failures ∷ part.Key key.FailureCount ∷ part.Mark mark.Other ∷ part.Key key.OtherCount ∷ part.Mark mark.None ∷ part.Key key.NoneCount ∷ []

-- ---- all kinds
abbrev pub first_of : Kind → Mark
first_of (kind.Query line) = first_of_query line
first_of (kind.Tree line) = first_of_tree_line line
first_of (kind.Vlan line) = first_of_vlan_line line
first_of (kind.Region line) = first_of_region_line line
first_of (kind.Note line) = first_of_note_line line
first_of (kind.Change line) = first_of_change_line line
first_of (kind.OfBridge line) = first_of_bridge_command line
first_of (kind.OfPort line) = first_of_port_command line
first_of (kind.Explain line) = first_of_explain_line line
first_of (kind.Contest line) = first_of_contest_line line
first_of (kind.Sweep line) = first_of_sweep_line line
first_of (kind.Summary line) = first_of_summary_line line
first_of (kind.Capture line) = first_of_capture_line line
first_of (kind.Refusal line) = first_of_refusal_line line
first_of (kind.Ask line) = first_of_ask_line line
first_of (kind.Verify line) = first_of_verify_line line
first_of (kind.StepVerify line) = first_of_verify_line line
first_of (kind.Step line) = first_of_step_line line
first_of (kind.Advise line) = first_of_advise_line line
first_of (kind.Path line) = first_of_path_line line

abbrev pub parts_of : Kind → List Part
parts_of (kind.Query line) = parts_of_query line
parts_of (kind.Tree line) = parts_of_tree_line line
parts_of (kind.Vlan line) = parts_of_vlan_line line
parts_of (kind.Region line) = parts_of_region_line line
parts_of (kind.Note line) = parts_of_note_line line
parts_of (kind.Change line) = parts_of_change_line line
parts_of (kind.OfBridge line) = parts_of_bridge_command line
parts_of (kind.OfPort line) = parts_of_port_command line
parts_of (kind.Explain line) = parts_of_explain_line line
parts_of (kind.Contest line) = parts_of_contest_line line
parts_of (kind.Sweep line) = parts_of_sweep_line line
parts_of (kind.Summary line) = parts_of_summary_line line
parts_of (kind.Capture line) = parts_of_capture_line line
parts_of (kind.Refusal line) = parts_of_refusal_line line
parts_of (kind.Ask line) = parts_of_ask_line line
parts_of (kind.Verify line) = parts_of_verify_line line
parts_of (kind.StepVerify line) = parts_behind_step line
parts_of (kind.Step line) = parts_of_step_line line
parts_of (kind.Advise line) = parts_of_advise_line line
parts_of (kind.Path line) = parts_of_path_line line
