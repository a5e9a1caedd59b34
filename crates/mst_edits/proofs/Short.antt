-- The lines of edits are short.
use Rattle.std.proofs.Common.{◌≡◌, ℕ, ◌*◌, ◌^◌, ◌<◌, ◌≤◌, Bool, true, false, List, [], ◌∷◌, ◌++◌, length, decimal, Option, Some, None, refl, arith, length-append}
use Rattle.std.specs.Prelude.{◌==◌, nat_le, nat_lt, ⊤, if◌then◌else◌}
use Rattle.std.specs.Option.{ForSome}
use Rattle.std.specs.List.{list_all, AllByRecursion, flat_map}
use Rattle.std.specs.Char.{is_ascii_alphanumeric}
use Rattle.std.proofs.lemmas.Bool.{and_parts, leb-true, ltb-true}
use Rattle.std.proofs.lemmas.Fmt.{length-decimal-le}
use Rattle.mst_ids.specs.Texts.{is_name_byte, is_conf_name, is_conf_name_byte, mac_text}
use Rattle.mst_ids.specs.Vids.{run_text}
use Rattle.mst_ids.proofs.ConfNameLemmas.{is_conf_name-mac_text}
use Rattle.mst_ids.specs.Words.{after_space}
use Rattle.mst_lang.specs.Ranges.{InRange, IsName}
use Rattle.mst_lang.specs.declared.line.Edit.{Edit}
use Rattle.mst_lang.specs.declared.line.Edit.TheVariants.{AddBridge, DelBridge, SetBridge, AddPort, DelPort, SetPort, AddLan, DelLan, SetLan, Plug, Unplug, SetByTree}
use Rattle.mst_lang.specs.declared.line.BridgeChange.TheVariants.{Power as PowerOf, Kind as KindOf, SystemPriority, Configuration, MaxHops, MaxAge}
use Rattle.mst_lang.specs.declared.line.PortChange.TheVariants.{Key, PathCost, RestrictedRole}
use Rattle.mst_lang.specs.declared.line.LanChange.TheVariants.{State, Speed}
use Rattle.mst_lang.specs.declared.line.TreeChange.TheVariants.{Priority, PortPriority, PortCost, Table, Vlans}
use Rattle.mst_lang.specs.declared.line.Kind.{Kind}
use Rattle.mst_lang.specs.declared.line.Kind.TheVariants.{Mstp, Rstp}
use Rattle.mst_lang.specs.declared.line.Power.{Power}
use Rattle.mst_lang.specs.declared.line.Power.TheVariants.{On, Off}
use Rattle.mst_lang.specs.declared.line.LanState.{LanState}
use Rattle.mst_lang.specs.declared.line.LanState.TheVariants.{Up, Down}
use Rattle.mst_edits.specs.EditLine.{spaced, words_of, line_of, kind_text, power_text, state_text, yes_text, cost_text}

abbrev pub AreShort : List (List ℕ) → Type 0
AreShort ws = AllByRecursion (λ (w : List ℕ). length w ≤ 32) ws

pub spaced_short : (ws : List (List ℕ)) → AreShort ws → length (spaced ws) ≤ 33 * length ws
spaced_short [] h = omega arith
spaced_short (w ∷ ws) h = let rest = others ws h.1 in omega (arith, rest, h.0, length-append w (flat_map after_space ws))
  where
    others : (ws : List (List ℕ)) → AreShort ws → length (flat_map after_space ws) ≤ 33 * length ws
    others [] h = omega arith
    others (w ∷ ws) h = let rest = others ws h.1 in omega (arith, rest, h.0, length-append (32 ∷ w) (flat_map after_space ws))

pub name_short : (text : List ℕ) → IsName text → length text ≤ 32
name_short [] h = omega arith
name_short (b ∷ bs) h =
    let first = and_parts (is_ascii_alphanumeric b) _ h in
    let rest = and_parts (nat_lt (length bs) 16) (list_all is_name_byte bs) first.1 in
    let few = ltb-true (length bs) 16 rest.0 in
    omega arith

pub number_short : (n : ℕ) → n < 10 ^ 10 → length (decimal n) ≤ 32
number_short n h = let k = length-decimal-le 10 n (omega arith) h (omega arith) in omega arith

conf_name_short : (text : List ℕ) → is_conf_name text ≡ true → length text ≤ 32
conf_name_short text h =
    let long = and_parts (nat_le 1 (length text)) _ h in
    let all = and_parts (nat_le (length text) 32) (list_all is_conf_name_byte text) long.1 in
    leb-true (length text) 32 all.0

mac_short : (mac : ℕ) → mac < 2 ^ 48 → length (mac_text mac) ≤ 32
mac_short mac h = conf_name_short (mac_text mac) (is_conf_name-mac_text mac h)

power_short : (power : Power) → length (power_text power) ≤ 32
power_short On = omega arith
power_short Off = omega arith

kind_short : (kind : Kind) → length (kind_text kind) ≤ 32
kind_short Mstp = omega arith
kind_short Rstp = omega arith

state_short : (state : LanState) → length (state_text state) ≤ 32
state_short Up = omega arith
state_short Down = omega arith

yes_short : (yes : Bool) → length (yes_text yes) ≤ 32
yes_short true = omega arith
yes_short false = omega arith

cost_short : (cost : Option ℕ) → ForSome cost (λ c. (1 ≤ c) × (c ≤ 200_000_000)) → length (cost_text cost) ≤ 32
cost_short None h = omega arith
cost_short (Some c) h = let fits = h c refl in number_short c (omega (arith, fits.1))

pub run_short : (run : ℕ × ℕ) → run.0 ≤ 4094 → run.1 ≤ 4094 → length (run_text run) ≤ 32
run_short run first last = by (run.0 == run.1)
  where
    a : length (decimal run.0) ≤ 4
    a = length-decimal-le 4 run.0 (omega arith) (omega arith) (omega arith)

    b : length (decimal run.1) ≤ 4
    b = length-decimal-le 4 run.1 (omega arith) (omega arith) (omega arith)

    by : (t : Bool) → length (if t then decimal run.0 else decimal run.0 ++ 45 ∷ decimal run.1) ≤ 32
    by true = omega (arith, a)
    by false = omega (arith, a, b, length-append (decimal run.0) (45 ∷ decimal run.1))

-- the words of an edit, lists of VIDs aside
abbrev pub HasNoList : Edit → Type 0
HasNoList (SetByTree (Table bridge tree vids)) = ⊥
HasNoList (SetByTree (Vlans port vids)) = ⊥
HasNoList _ = ⊤

short_words : (e : Edit) → InRange e → HasNoList e → AreShort (words_of e)
short_words (AddBridge bridge mac) in_range no_list = (omega arith, (name_short bridge in_range.names, (mac_short mac in_range.values, tt)))
short_words (DelBridge bridge) in_range no_list = (omega arith, (name_short bridge in_range.names, tt))
short_words (SetBridge bridge (PowerOf power)) in_range no_list = (omega arith, (name_short bridge in_range.names, (power_short power, tt)))
short_words (SetBridge bridge (KindOf kind)) in_range no_list = (omega arith, (name_short bridge in_range.names, (kind_short kind, tt)))
short_words (AddPort port) in_range no_list = (omega arith, (name_short port.bridge in_range.names.0, (number_short port.number (omega (arith, in_range.names.2)), tt)))
short_words (DelPort port) in_range no_list = (omega arith, (name_short port.bridge in_range.names.0, (number_short port.number (omega (arith, in_range.names.2)), tt)))
short_words (AddLan lan) in_range no_list = (omega arith, (name_short lan in_range.names, tt))
short_words (DelLan lan) in_range no_list = (omega arith, (name_short lan in_range.names, tt))
short_words (SetLan lan (State state)) in_range no_list = (omega arith, (name_short lan in_range.names, (state_short state, tt)))
short_words (SetLan lan (Speed speed)) in_range no_list = (omega arith, (name_short lan in_range.names, (number_short speed (omega (arith, in_range.values.1)), tt)))
short_words (Plug port lan) in_range no_list = (omega arith, (name_short port.bridge in_range.names.0.0, (number_short port.number (omega (arith, in_range.names.0.2)), (name_short lan in_range.names.1, tt))))
short_words (Unplug port) in_range no_list = (omega arith, (name_short port.bridge in_range.names.0, (number_short port.number (omega (arith, in_range.names.2)), tt)))
short_words (SetPort port (Key key)) in_range no_list = (omega arith, (name_short port.bridge in_range.names.0, (number_short port.number (omega (arith, in_range.names.2)), (number_short key (omega (arith, in_range.values)), tt))))
short_words (SetBridge bridge (SystemPriority priority)) in_range no_list = (omega arith, (name_short bridge in_range.names, (number_short priority (omega (arith, in_range.values)), tt)))
short_words (SetByTree (Priority bridge tree priority)) in_range no_list = (omega arith, (name_short bridge in_range.names, (number_short tree (omega (arith, in_range.values.0)), (number_short (priority * 4096) (omega (arith, in_range.values.1)), tt))))
short_words (SetByTree (PortPriority port tree priority)) in_range no_list = (omega arith, (name_short port.bridge in_range.names.0, (number_short port.number (omega (arith, in_range.names.2)), (number_short tree (omega (arith, in_range.values.0)), (number_short (priority * 16) (omega (arith, in_range.values.1)), tt)))))
short_words (SetPort port (PathCost cost)) in_range no_list = (omega arith, (name_short port.bridge in_range.names.0, (number_short port.number (omega (arith, in_range.names.2)), (cost_short cost in_range.values, tt))))
short_words (SetPort port (RestrictedRole restricted)) in_range no_list = (omega arith, (name_short port.bridge in_range.names.0, (number_short port.number (omega (arith, in_range.names.2)), (yes_short restricted, tt))))
short_words (SetByTree (PortCost port tree cost)) in_range no_list = (omega arith, (name_short port.bridge in_range.names.0, (number_short port.number (omega (arith, in_range.names.2)), (number_short tree (omega (arith, in_range.values.0)), (cost_short cost in_range.values.1, tt)))))
short_words (SetBridge bridge (Configuration revision name)) in_range no_list = (omega arith, (name_short bridge in_range.names, (number_short revision (omega (arith, in_range.values.0)), (conf_name_short name in_range.values.1, tt))))
short_words (SetByTree (Table bridge tree vids)) in_range no_list = absurd no_list
short_words (SetBridge bridge (MaxHops limit)) in_range no_list = (omega arith, (name_short bridge in_range.names, (number_short limit (omega (arith, in_range.values.1)), tt)))
short_words (SetBridge bridge (MaxAge limit)) in_range no_list = (omega arith, (name_short bridge in_range.names, (number_short limit (omega (arith, in_range.values.1)), tt)))
short_words (SetByTree (Vlans port vids)) in_range no_list = absurd no_list

few_words : (e : Edit) → length (words_of e) ≤ 5
few_words (AddBridge bridge mac) = omega arith
few_words (DelBridge bridge) = omega arith
few_words (SetBridge bridge (PowerOf power)) = omega arith
few_words (SetBridge bridge (KindOf kind)) = omega arith
few_words (AddPort port) = omega arith
few_words (DelPort port) = omega arith
few_words (AddLan lan) = omega arith
few_words (DelLan lan) = omega arith
few_words (SetLan lan (State state)) = omega arith
few_words (SetLan lan (Speed speed)) = omega arith
few_words (Plug port lan) = omega arith
few_words (Unplug port) = omega arith
few_words (SetPort port (Key key)) = omega arith
few_words (SetBridge bridge (SystemPriority priority)) = omega arith
few_words (SetByTree (Priority bridge tree priority)) = omega arith
few_words (SetByTree (PortPriority port tree priority)) = omega arith
few_words (SetPort port (PathCost cost)) = omega arith
few_words (SetPort port (RestrictedRole restricted)) = omega arith
few_words (SetByTree (PortCost port tree cost)) = omega arith
few_words (SetBridge bridge (Configuration revision name)) = omega arith
few_words (SetByTree (Table bridge tree vids)) = omega arith
few_words (SetBridge bridge (MaxHops limit)) = omega arith
few_words (SetBridge bridge (MaxAge limit)) = omega arith
few_words (SetByTree (Vlans port vids)) = omega arith

pub edit_short : (e : Edit) → InRange e → HasNoList e → length (line_of e) ≤ 4096
edit_short e in_range no_list = let short = spaced_short (words_of e) (short_words e in_range no_list) in let few = few_words e in omega (arith, short, few)
