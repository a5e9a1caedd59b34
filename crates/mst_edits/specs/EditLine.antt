-- The line of version 2 that says an edit.
use Rattle.std.specs.Prelude.{◌≢◌, ⊤, ℕ, ◌*◌, List, [], ◌∷◌, ◌++◌, Bool, true, false, Option, None, Some, codes, decimal, if◌then◌else◌}
use Rattle.std.specs.List.{flat_map}
use Rattle.std.specs.Bool.{beq}
use Rattle.std.specs.Cmp.Lexicographic.{pointwise}
use Rattle.mst_ids.specs.Texts.{mac_text}
use Rattle.mst_ids.specs.Vids.{set_where, vids_text}
use Rattle.mst_ids.specs.declared.name.PortName.{PortName}
use Rattle.mst_ids.specs.Words.{after_space}
use Rattle.mst_lang.specs.declared.line.Edit.{Edit}
use Rattle.mst_lang.specs.declared.line.Edit.TheVariants.{AddBridge, DelBridge, SetBridge, AddPort, DelPort, SetPort, AddLan, DelLan, SetLan, Plug, Unplug, SetByTree}
use Rattle.mst_lang.specs.declared.line.BridgeChange.{BridgeChange}
use Rattle.mst_lang.specs.declared.line.BridgeChange.TheVariants.{Power as PowerOf, Kind as KindOf, SystemPriority, Configuration, MaxHops, MaxAge}
use Rattle.mst_lang.specs.declared.line.PortChange.{PortChange}
use Rattle.mst_lang.specs.declared.line.PortChange.TheVariants.{Key, PathCost, RestrictedRole}
use Rattle.mst_lang.specs.declared.line.LanChange.{LanChange}
use Rattle.mst_lang.specs.declared.line.LanChange.TheVariants.{State, Speed}
use Rattle.mst_lang.specs.declared.line.TreeChange.{TreeChange}
use Rattle.mst_lang.specs.declared.line.TreeChange.TheVariants.{Priority, PortPriority, PortCost, Table, Vlans}
use Rattle.mst_lang.specs.declared.line.Kind.{Kind}
use Rattle.mst_lang.specs.declared.line.Kind.TheVariants.{Mstp, Rstp}
use Rattle.mst_lang.specs.declared.line.Power.{Power}
use Rattle.mst_lang.specs.declared.line.Power.TheVariants.{On, Off}
use Rattle.mst_lang.specs.declared.line.LanState.{LanState}
use Rattle.mst_lang.specs.declared.line.LanState.TheVariants.{Up, Down}

abbrev pub kind_text : Kind → List ℕ
kind_text Mstp = codes "mstp"
kind_text Rstp = codes "rstp"

abbrev pub power_text : Power → List ℕ
power_text On = codes "on"
power_text Off = codes "off"

abbrev pub state_text : LanState → List ℕ
state_text Up = codes "up"
state_text Down = codes "down"

abbrev pub yes_text : Bool → List ℕ
yes_text true = codes "yes"
yes_text false = codes "no"

-- an automatic cost is 0
abbrev pub cost_text : Option ℕ → List ℕ
cost_text None = codes "0"
cost_text (Some cost) = decimal cost

-- no VID
abbrev pub no_vids : List Bool
no_vids = set_where (λ _. false)

-- VLANs, `none` where there are none
abbrev pub vlans_text : List Bool → List ℕ
vlans_text vids = if pointwise beq vids no_vids then codes "none" else vids_text vids

-- the words of a line that sets something of a bridge, of a port, of a LAN, or by tree or VID
abbrev pub bridge_words : List ℕ → BridgeChange → List (List ℕ)
bridge_words bridge (PowerOf power) = codes "bridge" ∷ bridge ∷ power_text power ∷ []
bridge_words bridge (KindOf kind) = codes "kind" ∷ bridge ∷ kind_text kind ∷ []
bridge_words bridge (SystemPriority priority) = codes "setsyspri" ∷ bridge ∷ decimal priority ∷ []
bridge_words bridge (Configuration revision name) = codes "setmstconfid" ∷ bridge ∷ decimal revision ∷ name ∷ []
bridge_words bridge (MaxHops limit) = codes "setmaxhops" ∷ bridge ∷ decimal limit ∷ []
bridge_words bridge (MaxAge limit) = codes "setmaxage" ∷ bridge ∷ decimal limit ∷ []

abbrev pub port_words : PortName → PortChange → List (List ℕ)
port_words port (Key key) = codes "setkey" ∷ port.bridge ∷ decimal port.number ∷ decimal key ∷ []
port_words port (PathCost cost) = codes "setportpathcost" ∷ port.bridge ∷ decimal port.number ∷ cost_text cost ∷ []
port_words port (RestrictedRole restricted) = codes "setportrestrrole" ∷ port.bridge ∷ decimal port.number ∷ yes_text restricted ∷ []

abbrev pub lan_words : List ℕ → LanChange → List (List ℕ)
lan_words lan (State state) = codes "lan" ∷ lan ∷ state_text state ∷ []
lan_words lan (Speed speed) = codes "speed" ∷ lan ∷ decimal speed ∷ []

-- a step of a bridge's priority is written as 4096, one of a port's as 16
abbrev pub tree_words : TreeChange → List (List ℕ)
tree_words (Priority bridge tree priority) = codes "settreeprio" ∷ bridge ∷ decimal tree ∷ decimal (priority * 4096) ∷ []
tree_words (PortPriority port tree priority) = codes "settreeportprio" ∷ port.bridge ∷ decimal port.number ∷ decimal tree ∷ decimal (priority * 16) ∷ []
tree_words (PortCost port tree cost) = codes "settreeportcost" ∷ port.bridge ∷ decimal port.number ∷ decimal tree ∷ cost_text cost ∷ []
tree_words (Table bridge tree vids) = codes "setvid2mstid" ∷ bridge ∷ decimal tree ∷ vids_text vids ∷ []
tree_words (Vlans port vids) = codes "setportvlans" ∷ port.bridge ∷ decimal port.number ∷ vlans_text vids ∷ []

-- the words of the line of an edit
abbrev pub words_of : Edit → List (List ℕ)
words_of (AddBridge bridge mac) = codes "addbridge" ∷ bridge ∷ mac_text mac ∷ []
words_of (DelBridge bridge) = codes "delbridge" ∷ bridge ∷ []
words_of (SetBridge bridge change) = bridge_words bridge change
words_of (AddPort port) = codes "addport" ∷ port.bridge ∷ decimal port.number ∷ []
words_of (DelPort port) = codes "delport" ∷ port.bridge ∷ decimal port.number ∷ []
words_of (SetPort port change) = port_words port change
words_of (AddLan lan) = codes "addlan" ∷ lan ∷ []
words_of (DelLan lan) = codes "dellan" ∷ lan ∷ []
words_of (SetLan lan change) = lan_words lan change
words_of (Plug port lan) = codes "plug" ∷ port.bridge ∷ decimal port.number ∷ lan ∷ []
words_of (Unplug port) = codes "unplug" ∷ port.bridge ∷ decimal port.number ∷ []
words_of (SetByTree change) = tree_words change

-- words with one space between two of them
abbrev pub spaced : List (List ℕ) → List ℕ
spaced [] = []
spaced (word ∷ words) = word ++ flat_map after_space words

-- the line, without its end
abbrev pub line_of : Edit → List ℕ
line_of edit = spaced (words_of edit)

-- an edit that a line can say: no line maps no VID
abbrev pub IsSayable : Edit → Type 0
IsSayable (SetByTree (Table bridge tree vids)) = vids ≢ no_vids
IsSayable _ = ⊤
