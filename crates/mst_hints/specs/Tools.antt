-- What is said where words of other tools stand in a line, or words of this program.
use Rattle.std.specs.Prelude.{ℕ, Bool, List, [], ◌∷◌, Option, codes, find, is_some}
use Rattle.std.specs.Option.{option_map, option_or}
use Rattle.std.specs.List.{list_any}
use Rattle.mst_lang.specs.Arguments.{is_text}
use Rattle.mst_lang.specs.Words.{words}

-- words that ask for the same, and what is said where one of them stands
abbrev pub Saying : Type 0
Saying = List ℕ × List ℕ

-- of words of this program, and of those of a policy's lines, where one of them stands first in a line
unfoldable pub own_sayings : List Saying
own_sayings =
    (codes "run", codes "run is a word of the program: mstplan run FILE") ∷
    (codes "check", codes "check is a word of the program: mstplan check FILE CAPTURES") ∷
    (codes "explain", codes "explain is a word of the program: mstplan explain FILE B P TREE") ∷
    (codes "diff", codes "diff is a word of the program: mstplan diff OLD NEW") ∷
    (codes "sweep", codes "sweep is a word of the program: mstplan sweep FILE") ∷
    (codes "summary", codes "summary is a word of the program: mstplan summary FILE") ∷
    (codes "dot", codes "dot is a word of the program: mstplan dot FILE TREE") ∷
    (codes "ask", codes "ask is a word of the program: mstplan ask FILE") ∷
    (codes "verify", codes "verify is a word of the program: mstplan verify FILE POLICY") ∷
    (codes "steps", codes "steps is a word of the program: mstplan steps FILE CHANGE") ∷
    (codes "edits", codes "edits is a word of the program: mstplan edits OLD NEW") ∷
    (codes "advise", codes "advise is a word of the program: mstplan advise FILE root TREE B") ∷
    (codes "path", codes "path is a word of the program: mstplan path FILE VID A B") ∷
    (codes "mstplan", codes "mstplan 2 is the first line of a script of version 2, and stands in no other") ∷
    (codes "root region role reach apart together leaves leaf depth hops via carries avoids fits after always finally risk", codes "that is a line of a policy: mstplan verify FILE POLICY") ∷
    []

-- of words of other tools, wherever one of them stands
unfoldable pub sayings : List Saying
sayings =
    (codes "show display print", codes "showplan, showtree TREE, showvlan VID, showregions, showlag and shownotes show") ∷
    (codes "showroles showports", codes "showtree TREE shows each port with its role, showplan those of all trees") ∷
    (codes "guard root-guard restricted-role restrictedrole", codes "setportrestrrole B P yes|no is a root guard") ∷
    (codes "priority bridge-priority port-priority root setpriority setprio setportprio", codes "settreeprio B TREE PRIO sets a bridge's priority, settreeportprio B P TREE PRIO a port's") ∷
    (codes "cost path-cost external-cost internal-cost setcost setpathcost setportcost", codes "setportpathcost B P COST sets a port's external cost, settreeportcost B P TREE COST its internal one") ∷
    (codes "instance msti", codes "setvid2mstid B TREE VIDS maps VIDs to a tree") ∷
    (codes "channel-group port-channel lacp bond setlag", codes "setkey B P KEY gives the ports of a bundle one key on each side") ∷
    (codes "switchport tagged untagged allowed allow vid pvid", codes "setportvlans B P VIDS|all|none sets the VLANs that a port is a member of") ∷
    (codes "vlan vlans setvlan", codes "setvid2mstid B TREE VIDS maps VIDs to a tree, setportvlans B P VIDS|all|none sets those that a port is a member of") ∷
    (codes "addvlan delvlan", codes "no VLAN is made: setportvlans B P VIDS|all|none sets those that a port is a member of, setvid2mstid B TREE VIDS maps VIDs to a tree") ∷
    (codes "name revision configuration config-name config-revision configuration-name region-name region-configuration setname setrevision", codes "setmstconfid B REV CNAME sets the revision and the name of a bridge's configuration") ∷
    (codes "mode force-version", codes "kind B mstp|rstp sets a bridge's kind") ∷
    (codes "max-hops max-age", codes "setmaxhops B LIM and setmaxage B LIM set a bridge's limits") ∷
    (codes "hello-time forward-time forward-delay settimer setforwarddelay sethellotime portfast bpduguard edge edge-port", codes "a plan has no timers and no edge ports") ∷
    (codes "shutdown disable", codes "unplug B P takes a port out of its LAN, plug B P L puts it in, lan L up|down switches a LAN") ∷
    (codes "hostname sysname addbr add-br", codes "addbridge B MAC adds a bridge") ∷
    (codes "addif add-port master port", codes "addport B P adds a port, plug B P L puts it into a LAN") ∷
    (codes "add create", codes "addbridge B MAC adds a bridge, addport B P a port, addlan L a LAN") ∷
    (codes "ip brctl ovs-vsctl", codes "addbridge B MAC adds a bridge, addport B P a port, addlan L a LAN, and plug B P L puts a port in") ∷
    (codes "link cable connect", codes "a link is a LAN: addlan L, and plug B P L for each of its ends") ∷
    (codes "rename", codes "a name stays: what has another one is added anew, and the old one taken away") ∷
    (codes "undo no delete del remove rm", codes "a later line sets anew what an earlier one set; delbridge B, delport B P, dellan L and unplug B P take away") ∷
    (codes "write copy", codes "save prints a script that makes the network") ∷
    (codes "include", codes "a script has no other one in it") ∷
    (codes "//", codes "a comment begins with #") ∷
    (codes "fail what what-if", codes "lan L down and bridge B off make a failure, mstplan sweep FILE tells what each of them does") ∷
    (codes "interface interfaces configure enable exit quit end commit", codes "there are no modes: each line has a command with its bridge and port, and the last line ends the script") ∷
    (codes "spanning-tree stp set help ?", codes "mstplan --help ends with all commands of a script") ∷
    []

-- whether a word is one of those that ask for something
abbrev pub is_among : List ℕ → List ℕ → Bool
is_among asking word = list_any (is_text word) (words asking)

-- the first saying of a table that one of these words has
abbrev pub saying_in : List Saying → List (List ℕ) → Option (List ℕ)
saying_in table words = option_map (λ saying. saying.1) (find (λ saying. list_any (is_among saying.0) words) table)

-- what is said of a line's first word and of those behind it
abbrev pub saying_among : List ℕ → List (List ℕ) → Option (List ℕ)
saying_among word behind = option_or (saying_in own_sayings (word ∷ [])) (saying_in sayings (word ∷ behind))

-- whether a word by itself asks for something
abbrev pub asks : List ℕ → Bool
asks word = is_some (saying_among word [])
