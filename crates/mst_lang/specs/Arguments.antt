-- The arguments of commands: what a word of each form stands for, or the fault of another word.
use Rattle.std.specs.Prelude.{ℕ, ◌/◌, ◌%◌, Bool, ◌&&◌, ◌==◌, true, false, List, nat_le, nat_eq, Result, Ok, Err, Option, Some, None, if◌then◌else◌, codes}
use Rattle.std.specs.Option.{option_map_or, ok_or}
use Rattle.std.specs.Cmp.Lexicographic.{pointwise}
use Rattle.mst_ids.specs.Texts.{is_name, is_conf_name, mac_value}
use Rattle.mst_ids.specs.Vids.{decimal_value, is_numeral, is_vid, set_where, vids_value}
use Rattle.mst_lang.specs.declared.line.Version.{Version}
use Rattle.mst_lang.specs.declared.line.Version.TheVariants.{V1, V2}
use Rattle.mst_lang.specs.declared.line.Kind.{Kind}
use Rattle.mst_lang.specs.declared.line.Kind.TheVariants.{Mstp, Rstp}
use Rattle.mst_lang.specs.declared.line.Power.{Power}
use Rattle.mst_lang.specs.declared.line.Power.TheVariants.{On, Off}
use Rattle.mst_lang.specs.declared.line.LanState.{LanState}
use Rattle.mst_lang.specs.declared.line.LanState.TheVariants.{Up, Down}
use Rattle.mst_lang.specs.declared.line.Fault.{Fault}
use Rattle.mst_lang.specs.declared.line.Fault.TheVariants.{E01, E02, E03}

abbrev pub is_text : List ℕ → List ℕ → Bool
is_text = pointwise nat_eq

-- the word itself where it is in its form
abbrev pub text_of : (List ℕ → Bool) → Fault → List ℕ → Result (List ℕ) Fault
text_of is_form fault word = if is_form word then Ok word else Err fault

-- which of two words it is
abbrev pub choice_of : {A : Type 0} → List ℕ × A → List ℕ × A → Fault → List ℕ → Result A Fault
choice_of one other fault word = if is_text word one.0 then Ok one.1 else (if is_text word other.0 then Ok other.1 else Err fault)

-- 1 to 10 decimal digits, with leading zeros or without
abbrev pub number_value : List ℕ → Option ℕ
number_value word = if is_numeral word then Some (decimal_value word) else None

-- a number from the least to the most
abbrev pub number_of : ℕ → ℕ → Fault → List ℕ → Result ℕ Fault
number_of low high fault word = option_map_or (λ n. if nat_le low n && nat_le n high then Ok n else Err fault) (number_value word) (Err fault)

-- ---- values and faults together
-- the lesser of two faults
abbrev pub lesser : Fault → Fault → Fault
lesser E01 _ = E01
lesser _ E01 = E01
lesser E02 _ = E02
lesser _ E02 = E02
lesser E03 E03 = E03

-- what is made of a value, or the lesser fault
abbrev pub with : {A B : Type 0} → Result (A → B) Fault → Result A Fault → Result B Fault
with (Ok make) (Ok a) = Ok (make a)
with (Ok make) (Err fault) = Err fault
with (Err fault) (Ok a) = Err fault
with (Err fault) (Err other) = Err (lesser fault other)

-- ---- arguments whose fault is E02
-- B and L: a name of a bridge or a LAN
abbrev pub name : List ℕ → Result (List ℕ) Fault
name = text_of is_name E02

-- MAC: a MAC address
abbrev pub mac : List ℕ → Result ℕ Fault
mac word = ok_or (mac_value word) E02

-- P: the number of a port
abbrev pub port_number : List ℕ → Result ℕ Fault
port_number = number_of 1 4095 E02

-- PRIO: a priority of 0 to 15 steps, each written as so much
abbrev pub priority : ℕ → List ℕ → Result ℕ Fault
priority step word = option_map_or (λ n. if n % step == 0 && nat_le (n / step) 15 then Ok (n / step) else Err E02) (number_value word) (Err E02)

-- a step of a bridge's priority is written as 1 in version 1, as 4096 in version 2
abbrev pub bridge_step : Version → ℕ
bridge_step V1 = 1
bridge_step V2 = 4096

-- and one of a port's as 1 and as 16
abbrev pub port_step : Version → ℕ
port_step V1 = 1
port_step V2 = 16

abbrev pub bridge_priority : Version → List ℕ → Result ℕ Fault
bridge_priority version = priority (bridge_step version)

abbrev pub port_priority : Version → List ℕ → Result ℕ Fault
port_priority version = priority (port_step version)

-- COST: a path cost, or 0 for the automatic one
abbrev pub cost_of : ℕ → Option ℕ
cost_of n = if n == 0 then None else Some n

abbrev pub cost : List ℕ → Result (Option ℕ) Fault
cost word = with (Ok cost_of) (number_of 0 200_000_000 E02 word)

-- KEY, SYS and REV: an aggregation key, a system priority, a revision
abbrev pub sixteen_bits : List ℕ → Result ℕ Fault
sixteen_bits = number_of 0 65535 E02

-- LIM: a limit of hops or of age
abbrev pub limit : List ℕ → Result ℕ Fault
limit = number_of 6 40 E02

-- KBPS: a speed in kb/s
abbrev pub speed : List ℕ → Result ℕ Fault
speed = number_of 1 9_999_999_999 E02

-- CNAME: the name of a configuration
abbrev pub conf_name : List ℕ → Result (List ℕ) Fault
conf_name = text_of is_conf_name E02

-- `on` or `off`, `mstp` or `rstp`, `up` or `down`
abbrev pub power : List ℕ → Result Power Fault
power = choice_of (codes "on", On) (codes "off", Off) E02

abbrev pub kind : List ℕ → Result Kind Fault
kind = choice_of (codes "mstp", Mstp) (codes "rstp", Rstp) E02

abbrev pub lan_state : List ℕ → Result LanState Fault
lan_state = choice_of (codes "up", Up) (codes "down", Down) E02

-- `yes` or `no`
abbrev pub yes_or_no : List ℕ → Result Bool Fault
yes_or_no = choice_of (codes "yes", true) (codes "no", false) E02

-- ---- arguments whose fault is E03
-- TREE: a tree
abbrev pub tree : List ℕ → Result ℕ Fault
tree = number_of 0 4094 E03

-- VID: a VLAN's identifier
abbrev pub vid : List ℕ → Result ℕ Fault
vid = number_of 1 4094 E03

-- VIDS: a list of VIDs
abbrev pub vids : List ℕ → Result (List Bool) Fault
vids word = ok_or (vids_value word) E03

-- VIDS, or `all` or `none` in its place
abbrev pub members : List ℕ → Result (List Bool) Fault
members word = if is_text word (codes "all") then Ok (set_where is_vid) else (if is_text word (codes "none") then Ok (set_where (λ _. false)) else vids word)
