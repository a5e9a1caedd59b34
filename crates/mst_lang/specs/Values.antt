-- The values of arguments as the code holds them: each with a mark that says of which type it is.
use Rattle.std.specs.Prelude.{ℕ, List, [], ◌∷◌, Result, Ok, Err, Option, Some, None}
use Rattle.std.specs.Option.{option_and_then, ok_or}
use Rattle.mst_lang.specs.Arguments.{lesser, with}
use Rattle.mst_lang.specs.Forms.{ValueOf, value_as, Makes, rule_of}
use Rattle.mst_lang.specs.declared.form.Argument.{Argument}
use Rattle.mst_lang.specs.declared.form.Argument.TheVariants.{BridgeName, LanName, MacAddress, PortNumber, TreeNumber, BridgePriority, PortPriority, PathCost, PortKey, SystemPriority, Revision, HopLimit, AgeLimit, SpeedNumber, ConfigurationName, OnOrOff, BridgeKind, UpOrDown, YesOrNo, OneVid, VidList, MemberList}
use Rattle.mst_lang.specs.declared.line.Version.{Version}
use Rattle.mst_lang.specs.declared.line.Line.{Line}
use Rattle.mst_lang.specs.declared.line.Command.{Command}
use Rattle.mst_lang.specs.declared.line.Command.TheVariants.{AddBridge}
use Rattle.mst_lang.specs.declared.line.Fault.{Fault}
use Rattle.mst_lang.specs.declared.line.Fault.TheVariants.{E01}
use Rattle.mst_lang.specs.declared.value.Value.{Value}
use Rattle.mst_lang.specs.declared.value.Value.TheVariants as values

-- a value of an argument of each kind, marked
abbrev pub marked : (argument : Argument) → ValueOf argument → Value
marked BridgeName = values.Name
marked LanName = values.Name
marked MacAddress = values.Mac
marked PortNumber = values.Number
marked TreeNumber = values.Tree
marked BridgePriority = values.Priority
marked PortPriority = values.Priority
marked PathCost = values.Cost
marked PortKey = values.SixteenBits
marked SystemPriority = values.SixteenBits
marked Revision = values.SixteenBits
marked HopLimit = values.MaxHops
marked AgeLimit = values.MaxAge
marked SpeedNumber = values.Speed
marked ConfigurationName = values.ConfName
marked OnOrOff = values.Power
marked BridgeKind = values.Kind
marked UpOrDown = values.LanState
marked YesOrNo = values.Yes
marked OneVid = values.Vid
marked VidList = values.Vids
marked MemberList = values.Vids

-- and without the mark, if it is that of the kind
abbrev pub unmarked : (argument : Argument) → Value → Option (ValueOf argument)
unmarked BridgeName (values.Name name) = Some name
unmarked LanName (values.Name name) = Some name
unmarked MacAddress (values.Mac mac) = Some mac
unmarked PortNumber (values.Number number) = Some number
unmarked TreeNumber (values.Tree tree) = Some tree
unmarked BridgePriority (values.Priority priority) = Some priority
unmarked PortPriority (values.Priority priority) = Some priority
unmarked PathCost (values.Cost cost) = Some cost
unmarked PortKey (values.SixteenBits number) = Some number
unmarked SystemPriority (values.SixteenBits number) = Some number
unmarked Revision (values.SixteenBits number) = Some number
unmarked HopLimit (values.MaxHops limit) = Some limit
unmarked AgeLimit (values.MaxAge limit) = Some limit
unmarked SpeedNumber (values.Speed speed) = Some speed
unmarked ConfigurationName (values.ConfName name) = Some name
unmarked OnOrOff (values.Power power) = Some power
unmarked BridgeKind (values.Kind kind) = Some kind
unmarked UpOrDown (values.LanState state) = Some state
unmarked YesOrNo (values.Yes holds) = Some holds
unmarked OneVid (values.Vid vid) = Some vid
unmarked VidList (values.Vids vids) = Some vids
unmarked MemberList (values.Vids vids) = Some vids
unmarked argument value = None

-- what a word stands for, marked. The first clause is there so that a proof sees each kind alone
abbrev pub value_of : Version → Argument → List ℕ → Result Value Fault
value_of version BridgeName word = with (Ok (marked BridgeName)) (value_as version BridgeName word)
value_of version argument word = with (Ok (marked argument)) (value_as version argument word)

-- what is made of marked values, if they are those of the arguments
abbrev pub filled_with : (form : List Argument) → Makes form → List Value → Option Line
filled_with [] line [] = Some line
filled_with [] line (value ∷ values) = None
filled_with (argument ∷ form) make [] = None
filled_with (argument ∷ form) make (value ∷ values) = option_and_then (λ a. filled_with form (make a) values) (unmarked argument value)

-- what a command makes of them. Here too each command is seen alone
abbrev pub made : Command → List Value → Option Line
made AddBridge values = filled_with (rule_of AddBridge).arguments (rule_of AddBridge).says values
made command values = filled_with (rule_of command).arguments (rule_of command).says values

-- the line that a command makes of them, E01 where they are others, or their least fault
abbrev pub made_by : Command → Result (List Value) Fault → Result Line Fault
made_by command (Ok values) = ok_or (made command values) E01
made_by command (Err fault) = Err fault

-- a fault, or the lesser one of another value
abbrev pub lesser_with : Fault → Result Value Fault → Fault
lesser_with fault (Ok value) = fault
lesser_with fault (Err other) = lesser fault other
