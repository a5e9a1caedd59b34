-- The arguments of expectations: what a word of each form stands for, or the fault of another word. Names, trees and VIDs are
-- those of scripts.
use Rattle.std.specs.Prelude.{ℕ, ◌+◌, ◌-◌, ◌==◌, Bool, List, [], ◌∷◌, length, take, drop, position, nat_eq, Result, Ok, Err, Option, Some, None, if◌then◌else◌, codes}
use Rattle.std.specs.List.{list_all, list_any, slice_split, ends_with}
use Rattle.std.specs.Option.{option_map, option_map_or, option_and_then, option_zip, ok_or}
use Rattle.std.specs.Result.{result_ok}
use Rattle.mst_lang.specs.Words.{one_of, two_of, three_of, four_of}
use Rattle.mst_lang.specs.Arguments.{is_text, number_of, name, port_number}
use Rattle.mst_lang.specs.declared.line.Fault.{Fault}
use Rattle.mst_lang.specs.declared.line.Fault.TheVariants.{E01, E02}
use Rattle.mst_policy.specs.Items.{port_item}
use Rattle.mst_policy.specs.declared.item.NameItem.{NameItem}
use Rattle.mst_policy.specs.declared.item.NameItem.TheVariants.{Is, Begins, Any}
use Rattle.mst_policy.specs.declared.item.PortsOf.{PortsOf}
use Rattle.mst_policy.specs.declared.item.PortsOf.TheVariants.{One, All}
use Rattle.mst_policy.specs.declared.item.PortItem.{PortItem}
use Rattle.mst_policy.specs.declared.expectation.Roles.{Roles}

-- ---- values and faults together
-- the lesser of the faults of two arguments, which are E02 and E03
abbrev pub lesser : Fault → Fault → Fault
lesser E02 _ = E02
lesser _ E02 = E02
lesser fault _ = fault

-- what is made of an argument's value, or the lesser fault
abbrev pub with : {A B : Type 0} → Result (A → B) Fault → Result A Fault → Result B Fault
with (Ok make) (Ok a) = Ok (make a)
with (Ok make) (Err fault) = Err fault
with (Err fault) (Ok a) = Err fault
with (Err fault) (Err other) = Err (lesser fault other)

-- ---- lists
-- the items of a list: what stands between its commas
abbrev pub items_of : List ℕ → List (List ℕ)
items_of word = slice_split (λ b. b == 44) word

-- the values of all items, if each of them has one
abbrev pub all_values : {A : Type 0} → (List ℕ → Option A) → List (List ℕ) → Option (List A)
all_values value [] = Some []
all_values value (item ∷ items) = option_and_then (λ first. option_map (λ others. first ∷ others) (all_values value items)) (value item)

-- ---- NAMES: names, and beginnings of names with `*` behind
-- what stands before a `*` at the end, if one is there
abbrev pub before_star : List ℕ → Option (List ℕ)
before_star item = if ends_with nat_eq item (codes "*") then Some (take (length item - 1) item) else None

-- the names with a beginning: nothing is the beginning of every name
abbrev pub beginning : List ℕ → Option NameItem
beginning [] = Some Any
beginning front = option_map Begins (result_ok (name front))

-- a beginning where a `*` stands behind it, else a name
abbrev pub name_item : List ℕ → Option NameItem
name_item item = option_map_or beginning (before_star item) (option_map Is (result_ok (name item)))

-- the items of a list, if all are such
abbrev pub names_value : List ℕ → Option (List NameItem)
names_value word = all_values name_item (items_of word)

abbrev pub names : List ℕ → Result (List NameItem) Fault
names word = ok_or (names_value word) E02

-- ---- PORTS: each is an item of names, `:`, and the number of a port or `*`
-- which ports of a bridge are meant
abbrev pub ports_of : List ℕ → Option PortsOf
ports_of word = if is_text word (codes "*") then Some All else option_map One (result_ok (port_number word))

-- what stands before the first colon of an item and what stands after it, if it has one
abbrev pub halves_of : List ℕ → Option (List ℕ × List ℕ)
halves_of item = option_map (λ colon. (take colon item, drop (colon + 1) item)) (position (λ b. b == 58) item)

-- an item of names and which ports, if both are such
abbrev pub port_item_value : List ℕ → Option PortItem
port_item_value item =
    option_and_then (λ halves. option_map (λ both. port_item both.0 both.1) (option_zip (name_item halves.0) (ports_of halves.1))) (halves_of item)

abbrev pub ports_value : List ℕ → Option (List PortItem)
ports_value word = all_values port_item_value (items_of word)

abbrev pub ports : List ℕ → Result (List PortItem) Fault
ports word = ok_or (ports_value word) E02

-- ---- ROLES: roles by their names
abbrev pub role_names : List (List ℕ)
role_names = codes "Root" ∷ codes "Designated" ∷ codes "Alternate" ∷ codes "Backup" ∷ codes "Master" ∷ codes "Disabled" ∷ []

-- whether a word is one of some
abbrev pub is_among : List (List ℕ) → List ℕ → Bool
is_among words word = list_any (λ other. is_text other word) words

-- which roles are among some words
abbrev pub roles_among : List (List ℕ) → Roles
roles_among items = record {
  root = is_among items (codes "Root");
  designated = is_among items (codes "Designated");
  alternate = is_among items (codes "Alternate");
  backup = is_among items (codes "Backup");
  master = is_among items (codes "Master");
  disabled = is_among items (codes "Disabled");
}

-- words that are all roles, in any order, each as often as one likes
abbrev pub roles_value : List ℕ → Option Roles
roles_value word = if list_all (is_among role_names) (items_of word) then Some (roles_among (items_of word)) else None

abbrev pub roles : List ℕ → Result Roles Fault
roles word = ok_or (roles_value word) E02

-- ---- N: a number of steps or of hops
abbrev pub steps : List ℕ → Result ℕ Fault
steps = number_of 0 1024 E02

-- ---- an expectation with no, one, two, three or four arguments: E01 where it has another number of words, else the least fault of
-- its arguments, else what is made of their values
abbrev pub none_of : {A : Type 0} → A → List (List ℕ) → Result A Fault
none_of made [] = Ok made
none_of made _ = Err E01

abbrev pub one : {A B : Type 0} → (List ℕ → Result A Fault) → (A → B) → List (List ℕ) → Result B Fault
one f make words = option_map_or (λ a. with (Ok make) (f a)) (one_of words) (Err E01)

abbrev pub two : {A B C : Type 0} → (List ℕ → Result A Fault) → (List ℕ → Result B Fault) → (A → B → C) → List (List ℕ) → Result C Fault
two f g make words = option_map_or (λ w. with (with (Ok make) (f w.0)) (g w.1)) (two_of words) (Err E01)

abbrev pub three : {A B C D : Type 0} → (List ℕ → Result A Fault) → (List ℕ → Result B Fault) → (List ℕ → Result C Fault) → (A → B → C → D) → List (List ℕ) → Result D Fault
three f g h make words = option_map_or (λ w. with (with (with (Ok make) (f w.0)) (g w.1)) (h w.2)) (three_of words) (Err E01)

abbrev pub four : {A B C D E : Type 0} → (List ℕ → Result A Fault) → (List ℕ → Result B Fault) → (List ℕ → Result C Fault) → (List ℕ → Result D Fault) → (A → B → C → D → E) → List (List ℕ) → Result E Fault
four f g h k make words = option_map_or (λ w. with (with (with (with (Ok make) (f w.0)) (g w.1)) (h w.2)) (k w.3)) (four_of words) (Err E01)
