-- The commands: the word of each, the arguments that follow it, and what it says.
use Rattle.std.specs.Prelude.{ℕ, Bool, List, [], ◌∷◌, Result, Option, codes, find, map}
use Rattle.std.specs.Result.{is_ok}
use Rattle.mst_ids.specs.declared.name.PortName.{PortName}
use Rattle.mst_lang.specs.Arguments.{is_text, name, mac, port_number, bridge_priority, port_priority, cost, sixteen_bits, limit, speed, conf_name, power, kind, lan_state, yes_or_no, tree, vid, vids, members}
use Rattle.mst_lang.specs.declared.form.Argument.{Argument}
use Rattle.mst_lang.specs.declared.form.Argument.TheVariants.{BridgeName, LanName, MacAddress, PortNumber, TreeNumber, BridgePriority, PortPriority, PathCost, PortKey, SystemPriority, Revision, HopLimit, AgeLimit, SpeedNumber, ConfigurationName, OnOrOff, BridgeKind, UpOrDown, YesOrNo, OneVid, VidList, MemberList}
use Rattle.mst_lang.specs.declared.form.Form.{Form}
use Rattle.mst_lang.specs.declared.line.Version.{Version}
use Rattle.mst_lang.specs.declared.line.Version.TheVariants.{V1, V2}
use Rattle.mst_lang.specs.declared.line.Kind as kinds
use Rattle.mst_lang.specs.declared.line.Power as powers
use Rattle.mst_lang.specs.declared.line.LanState as states
use Rattle.mst_lang.specs.declared.line.Line.{Line}
use Rattle.mst_lang.specs.declared.line.Line.TheVariants as lines
use Rattle.mst_lang.specs.declared.line.Edit.TheVariants as edits
use Rattle.mst_lang.specs.declared.line.BridgeChange.{BridgeChange}
use Rattle.mst_lang.specs.declared.line.BridgeChange.TheVariants as bridges
use Rattle.mst_lang.specs.declared.line.PortChange.{PortChange}
use Rattle.mst_lang.specs.declared.line.PortChange.TheVariants as ports
use Rattle.mst_lang.specs.declared.line.LanChange.{LanChange}
use Rattle.mst_lang.specs.declared.line.LanChange.TheVariants as lans
use Rattle.mst_lang.specs.declared.line.TreeChange.{TreeChange}
use Rattle.mst_lang.specs.declared.line.TreeChange.TheVariants as trees
use Rattle.mst_lang.specs.declared.line.Query.TheVariants as queries
use Rattle.mst_lang.specs.declared.line.Command.{Command}
use Rattle.mst_lang.specs.declared.line.Command.TheVariants.{AddBridge, DelBridge, Bridge, Kind, AddPort, DelPort, AddLan, DelLan, Lan, Speed, Plug, Unplug, SetKey, SetSysPri, SetTreePrio, SetTreePortPrio, SetPortPathCost, SetPortRestrRole, SetTreePortCost, SetMstConfId, SetVidToMstId, SetMaxHops, SetMaxAge, SetPortVlans, ShowPlan, ShowLag, ShowRegions, ShowNotes, ShowTree, ShowVlan, ShowMstConfId, Mark, Changes, Save, Digest}
use Rattle.mst_lang.specs.declared.line.Fault.{Fault}

-- ---- kinds of arguments
-- what a word stands for in the place of an argument of each kind
abbrev pub ValueOf : Argument → Type 0
ValueOf BridgeName = List ℕ
ValueOf LanName = List ℕ
ValueOf MacAddress = ℕ
ValueOf PortNumber = ℕ
ValueOf TreeNumber = ℕ
ValueOf BridgePriority = ℕ
ValueOf PortPriority = ℕ
ValueOf PathCost = Option ℕ
ValueOf PortKey = ℕ
ValueOf SystemPriority = ℕ
ValueOf Revision = ℕ
ValueOf HopLimit = ℕ
ValueOf AgeLimit = ℕ
ValueOf SpeedNumber = ℕ
ValueOf ConfigurationName = List ℕ
ValueOf OnOrOff = powers.Power
ValueOf BridgeKind = kinds.Kind
ValueOf UpOrDown = states.LanState
ValueOf YesOrNo = Bool
ValueOf OneVid = ℕ
ValueOf VidList = List Bool
ValueOf MemberList = List Bool

-- that value, or the fault of a word that isn't in its form
abbrev pub value_as : Version → (argument : Argument) → List ℕ → Result (ValueOf argument) Fault
value_as version BridgeName = name
value_as version LanName = name
value_as version MacAddress = mac
value_as version PortNumber = port_number
value_as version TreeNumber = tree
value_as version BridgePriority = bridge_priority version
value_as version PortPriority = port_priority version
value_as version PathCost = cost
value_as version PortKey = sixteen_bits
value_as version SystemPriority = sixteen_bits
value_as version Revision = sixteen_bits
value_as version HopLimit = limit
value_as version AgeLimit = limit
value_as version SpeedNumber = speed
value_as version ConfigurationName = conf_name
value_as version OnOrOff = power
value_as version BridgeKind = kind
value_as version UpOrDown = lan_state
value_as version YesOrNo = yes_or_no
value_as version OneVid = vid
value_as version VidList = vids
value_as version MemberList = members

-- whether a word is in the form of an argument
abbrev pub is_right : Version → Argument → List ℕ → Bool
is_right version argument word = is_ok (value_as version argument word)

-- ---- commands
-- a line that is made of the values of some arguments, one after another
abbrev pub Makes : List Argument → Type 0
Makes [] = Line
Makes (argument ∷ form) = ValueOf argument → Makes form

-- a command: its word, the arguments that follow, and what it says of their values
pub record Rule : Type 0 where
  pub word : List ℕ
  pub arguments : List Argument
  pub says : Makes arguments

abbrev pub takes : List ℕ → (arguments : List Argument) → Makes arguments → Rule
takes word arguments says = record { word = word; arguments = arguments; says = says }

-- a port by its bridge and its number
abbrev pub port : List ℕ → ℕ → PortName
port bridge number = record { bridge = bridge; number = number }

-- a line that sets something of a bridge, of a port, of a LAN, or by tree or VID
abbrev pub set_bridge : List ℕ → BridgeChange → Line
set_bridge bridge change = lines.Edit (edits.SetBridge bridge change)

abbrev pub set_port : List ℕ → ℕ → PortChange → Line
set_port bridge number change = lines.Edit (edits.SetPort (port bridge number) change)

abbrev pub set_lan : List ℕ → LanChange → Line
set_lan lan change = lines.Edit (edits.SetLan lan change)

abbrev pub set_tree : TreeChange → Line
set_tree change = lines.Edit (edits.SetByTree change)

abbrev pub rule_of : Command → Rule
rule_of AddBridge = takes (codes "addbridge") (BridgeName ∷ MacAddress ∷ []) (λ b m. lines.Edit (edits.AddBridge b m))
rule_of DelBridge = takes (codes "delbridge") (BridgeName ∷ []) (λ b. lines.Edit (edits.DelBridge b))
rule_of Bridge = takes (codes "bridge") (BridgeName ∷ OnOrOff ∷ []) (λ b v. set_bridge b (bridges.Power v))
rule_of Kind = takes (codes "kind") (BridgeName ∷ BridgeKind ∷ []) (λ b v. set_bridge b (bridges.Kind v))
rule_of AddPort = takes (codes "addport") (BridgeName ∷ PortNumber ∷ []) (λ b p. lines.Edit (edits.AddPort (port b p)))
rule_of DelPort = takes (codes "delport") (BridgeName ∷ PortNumber ∷ []) (λ b p. lines.Edit (edits.DelPort (port b p)))
rule_of AddLan = takes (codes "addlan") (LanName ∷ []) (λ l. lines.Edit (edits.AddLan l))
rule_of DelLan = takes (codes "dellan") (LanName ∷ []) (λ l. lines.Edit (edits.DelLan l))
rule_of Lan = takes (codes "lan") (LanName ∷ UpOrDown ∷ []) (λ l v. set_lan l (lans.State v))
rule_of Speed = takes (codes "speed") (LanName ∷ SpeedNumber ∷ []) (λ l v. set_lan l (lans.Speed v))
rule_of Plug = takes (codes "plug") (BridgeName ∷ PortNumber ∷ LanName ∷ []) (λ b p l. lines.Edit (edits.Plug (port b p) l))
rule_of Unplug = takes (codes "unplug") (BridgeName ∷ PortNumber ∷ []) (λ b p. lines.Edit (edits.Unplug (port b p)))
rule_of SetKey = takes (codes "setkey") (BridgeName ∷ PortNumber ∷ PortKey ∷ []) (λ b p v. set_port b p (ports.Key v))
rule_of SetSysPri = takes (codes "setsyspri") (BridgeName ∷ SystemPriority ∷ []) (λ b v. set_bridge b (bridges.SystemPriority v))
rule_of SetTreePrio = takes (codes "settreeprio") (BridgeName ∷ TreeNumber ∷ BridgePriority ∷ []) (λ b t v. set_tree (trees.Priority b t v))
rule_of SetTreePortPrio = takes (codes "settreeportprio") (BridgeName ∷ PortNumber ∷ TreeNumber ∷ PortPriority ∷ []) (λ b p t v. set_tree (trees.PortPriority (port b p) t v))
rule_of SetPortPathCost = takes (codes "setportpathcost") (BridgeName ∷ PortNumber ∷ PathCost ∷ []) (λ b p v. set_port b p (ports.PathCost v))
rule_of SetPortRestrRole = takes (codes "setportrestrrole") (BridgeName ∷ PortNumber ∷ YesOrNo ∷ []) (λ b p v. set_port b p (ports.RestrictedRole v))
rule_of SetTreePortCost = takes (codes "settreeportcost") (BridgeName ∷ PortNumber ∷ TreeNumber ∷ PathCost ∷ []) (λ b p t v. set_tree (trees.PortCost (port b p) t v))
rule_of SetMstConfId = takes (codes "setmstconfid") (BridgeName ∷ Revision ∷ ConfigurationName ∷ []) (λ b r n. set_bridge b (bridges.Configuration r n))
rule_of SetVidToMstId = takes (codes "setvid2mstid") (BridgeName ∷ TreeNumber ∷ VidList ∷ []) (λ b t v. set_tree (trees.Table b t v))
rule_of SetMaxHops = takes (codes "setmaxhops") (BridgeName ∷ HopLimit ∷ []) (λ b v. set_bridge b (bridges.MaxHops v))
rule_of SetMaxAge = takes (codes "setmaxage") (BridgeName ∷ AgeLimit ∷ []) (λ b v. set_bridge b (bridges.MaxAge v))
rule_of SetPortVlans = takes (codes "setportvlans") (BridgeName ∷ PortNumber ∷ MemberList ∷ []) (λ b p v. set_tree (trees.Vlans (port b p) v))
rule_of ShowPlan = takes (codes "showplan") [] (lines.Query queries.ShowPlan)
rule_of ShowLag = takes (codes "showlag") [] (lines.Query queries.ShowLag)
rule_of ShowRegions = takes (codes "showregions") [] (lines.Query queries.ShowRegions)
rule_of ShowNotes = takes (codes "shownotes") [] (lines.Query queries.ShowNotes)
rule_of ShowTree = takes (codes "showtree") (TreeNumber ∷ []) (λ t. lines.Query (queries.ShowTree t))
rule_of ShowVlan = takes (codes "showvlan") (OneVid ∷ []) (λ v. lines.Query (queries.ShowVlan v))
rule_of ShowMstConfId = takes (codes "showmstconfid") (BridgeName ∷ []) (λ b. lines.Query (queries.ShowConfiguration b))
rule_of Mark = takes (codes "mark") [] lines.Mark
rule_of Changes = takes (codes "changes") [] (lines.Query queries.Changes)
rule_of Save = takes (codes "save") [] (lines.Query queries.Save)
rule_of Digest = takes (codes "digest") [] (lines.Query queries.Digest)

-- every command, in the order in which they are told
abbrev pub all_commands : List Command
all_commands =
    AddBridge ∷ DelBridge ∷ Bridge ∷ Kind ∷ AddPort ∷ DelPort ∷ AddLan ∷ DelLan ∷ Lan ∷ Speed ∷ Plug ∷ Unplug ∷ SetKey ∷ SetSysPri ∷ SetTreePrio ∷ SetTreePortPrio ∷ SetPortPathCost
    ∷ SetPortRestrRole ∷ SetTreePortCost ∷ SetMstConfId ∷ SetVidToMstId ∷ SetMaxHops ∷ SetMaxAge ∷ SetPortVlans ∷ ShowPlan ∷ ShowLag ∷ ShowRegions ∷ ShowNotes ∷ ShowTree ∷ ShowVlan
    ∷ ShowMstConfId ∷ Mark ∷ Changes ∷ Save ∷ Digest ∷ []

-- the words that are commands
abbrev pub commands : List (List ℕ × Command)
commands = map (λ command. ((rule_of command).word, command)) all_commands

abbrev pub command_of : List ℕ → Option Command
command_of word = find (λ command. is_text (rule_of command).word word) all_commands

-- the arguments of a command, in their order
abbrev pub form_of : Command → List Argument
form_of command = (rule_of command).arguments

-- a command as the table of the code has it: its word, itself, its arguments
abbrev pub Row : Type 0
Row = List ℕ × Command × List Argument

abbrev pub row_of : Command → Row
row_of command = ((rule_of command).word, command, (rule_of command).arguments)

abbrev pub written : Form → Row
written form = (form.word.now, form.command, form.arguments.now)

-- ---- how an argument is told
-- the word that stands for it in a form
abbrev pub word_of : Argument → List ℕ
word_of BridgeName = codes "B"
word_of LanName = codes "L"
word_of MacAddress = codes "MAC"
word_of PortNumber = codes "P"
word_of TreeNumber = codes "TREE"
word_of BridgePriority = codes "PRIO"
word_of PortPriority = codes "PRIO"
word_of PathCost = codes "COST"
word_of PortKey = codes "KEY"
word_of SystemPriority = codes "SYS"
word_of Revision = codes "REV"
word_of HopLimit = codes "LIM"
word_of AgeLimit = codes "LIM"
word_of SpeedNumber = codes "KBPS"
word_of ConfigurationName = codes "CNAME"
word_of OnOrOff = codes "on|off"
word_of BridgeKind = codes "mstp|rstp"
word_of UpOrDown = codes "up|down"
word_of YesOrNo = codes "yes|no"
word_of OneVid = codes "VID"
word_of VidList = codes "VIDS"
word_of MemberList = codes "VIDS|all|none"

-- which words are in its form
abbrev pub range_of : Version → Argument → List ℕ
range_of version BridgeName = codes "B is 1 to 16 letters, digits, _, - and ., the first a letter or a digit"
range_of version LanName = codes "L is 1 to 16 letters, digits, _, - and ., the first a letter or a digit"
range_of version MacAddress = codes "MAC is six pairs of hexadecimal digits with : or - between"
range_of version PortNumber = codes "P is 1 to 4095"
range_of version TreeNumber = codes "TREE is 0 to 4094"
range_of V1 BridgePriority = codes "PRIO is 0 to 15, in steps of 4096"
range_of V2 BridgePriority = codes "PRIO is 0 to 61440, a multiple of 4096"
range_of V1 PortPriority = codes "PRIO is 0 to 15, in steps of 16"
range_of V2 PortPriority = codes "PRIO is 0 to 240, a multiple of 16"
range_of version PathCost = codes "COST is 0 to 200000000"
range_of version PortKey = codes "KEY is 0 to 65535"
range_of version SystemPriority = codes "SYS is 0 to 65535"
range_of version Revision = codes "REV is 0 to 65535"
range_of version HopLimit = codes "LIM is 6 to 40"
range_of version AgeLimit = codes "LIM is 6 to 40"
range_of version SpeedNumber = codes "KBPS is 1 to 9999999999, in kb/s"
range_of version ConfigurationName = codes "CNAME is 1 to 32 bytes"
range_of version OnOrOff = codes "it is on or off"
range_of version BridgeKind = codes "it is mstp or rstp"
range_of version UpOrDown = codes "it is up or down"
range_of version YesOrNo = codes "it is yes or no"
range_of version OneVid = codes "VID is 1 to 4094"
range_of version VidList = codes "VIDS is VIDs of 1 to 4094 as in 1-9,20"
range_of version MemberList = codes "VIDS is VIDs of 1 to 4094 as in 1-9,20"
