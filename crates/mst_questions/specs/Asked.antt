-- Which port is to be explained, which part of a sweep to be told, and what is wanted of a network: what words ask for.
use Rattle.std.specs.Prelude.{ℕ, ◌+◌, ◌==◌, ◌&&◌, ◌||◌, not, Bool, false, List, take, drop, position, Option, None, Some, Result, Ok, Err, codes}
use Rattle.std.specs.Char.{is_ascii_digit}
use Rattle.std.specs.List.{list_all}
use Rattle.std.specs.Option.{option_map, option_and_then}
use Rattle.std.specs.Str.{bytes_eq}
use Rattle.mst_lang.specs.Arguments.{name, number_value, port_number, tree}
use Rattle.mst_lang.specs.declared.line.Fault.{Fault}
use Rattle.mst_advise.specs.declared.goal.Goal.{Goal}
use Rattle.mst_advise.specs.declared.goal.Goal.TheVariants as goal
use Rattle.mst_advise.specs.sweeping.sweep.SweepParts.{PartOf, part_at}
use Rattle.mst_questions.specs.declared.asked.Asked.{Asked}

-- the tree that a word stands for in a script, if there is a word
abbrev pub some_of : Result ℕ Fault → Result (Option ℕ) Fault
some_of (Ok n) = Ok (Some n)
some_of (Err fault) = Err fault

abbrev pub asked_tree : Option (List ℕ) → Result (Option ℕ) Fault
asked_tree None = Ok None
asked_tree (Some word) = some_of (tree word)

-- a bridge, the number of its port and a tree, or the first fault of them
abbrev pub asked_in : Result (List ℕ) Fault → Result ℕ Fault → Result (Option ℕ) Fault → Result Asked Fault
asked_in (Err fault) number tree = Err fault
asked_in (Ok bridge) (Err fault) tree = Err fault
asked_in (Ok bridge) (Ok number) (Err fault) = Err fault
asked_in (Ok bridge) (Ok number) (Ok tree) = Ok (record { port = record { bridge = bridge; number = number }; tree = tree })

-- what the words B, P and TREE ask for, if they have the forms that a script's have. Else it is the fault of a script: E02
-- for B and P, which comes first, and E03 for TREE
abbrev pub asked_of : List ℕ → List ℕ → Option (List ℕ) → Result Asked Fault
asked_of bridge port tree = asked_in (name bridge) (port_number port) (asked_tree tree)

-- what stands before the first `/` of a word and what stands after it, if it has one
abbrev pub halves_of : List ℕ → Option (List ℕ × List ℕ)
halves_of word = option_map (λ slash. (take slash word, drop (slash + 1) word)) (position (λ b. b == 47) word)

-- the part that two numbers name: its own, and how many there are
abbrev pub part_named : Option ℕ → Option ℕ → Option PartOf
part_named number count = option_and_then (λ k. option_and_then (λ n. part_at k n) count) number

-- the part of a sweep that a word K/N names, of two numbers that have the form of a script's
abbrev pub part_value : List ℕ → Option PartOf
part_value word = option_and_then (λ halves. part_named (number_value halves.0) (number_value halves.1)) (halves_of word)

-- a word is of digits and `/` alone: it was to be a part, whether or not it names one
abbrev pub is_of_part : ℕ → Bool
is_of_part b = is_ascii_digit b || b == 47

abbrev pub is_like_part : List ℕ → Bool
is_like_part word = list_all is_of_part word

-- a word behind a script names a policy, by the one behind it: there is none, and it is neither `pairs` nor was to be a part
abbrev pub is_policy_word : List ℕ → Bool
is_policy_word word = not (bytes_eq word (codes "pairs")) && not (is_like_part word)

abbrev pub names_policy : Option (List ℕ) → Option (List ℕ) → Bool
names_policy (Some word) None = is_policy_word word
names_policy _ behind = false

-- that a bridge is the root of a tree, or the first fault of these words
abbrev pub root_in : Result (List ℕ) Fault → Result ℕ Fault → Result Goal Fault
root_in (Err fault) tree = Err fault
root_in (Ok bridge) (Err fault) = Err fault
root_in (Ok bridge) (Ok tree) = Ok (goal.Root tree bridge)

abbrev pub root_of : List ℕ → List ℕ → Result Goal Fault
root_of number bridge = root_in (name bridge) (tree number)

-- that a port forwards in a tree, or the first fault of these words
abbrev pub forward_in : Result (List ℕ) Fault → Result ℕ Fault → Result ℕ Fault → Result Goal Fault
forward_in (Err fault) port tree = Err fault
forward_in (Ok bridge) (Err fault) tree = Err fault
forward_in (Ok bridge) (Ok port) (Err fault) = Err fault
forward_in (Ok bridge) (Ok port) (Ok tree) = Ok (goal.Forward tree (record { bridge = bridge; number = port }))

abbrev pub forward_of : List ℕ → List ℕ → List ℕ → Result Goal Fault
forward_of number bridge port = forward_in (name bridge) (port_number port) (tree number)
