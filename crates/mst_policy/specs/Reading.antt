-- What a line of a policy says, or the least fault of it.
use Rattle.std.specs.Prelude.{ℕ, Bool, true, false, List, [], ◌∷◌, length, nat_lt, Result, Ok, Err, Option, Some, None, if◌then◌else◌, codes}
use Rattle.std.specs.Option.{option_map, option_map_or}
use Rattle.std.specs.List.{list_all}
use Rattle.mst_lang.specs.Words.{words, is_plain}
use Rattle.mst_lang.specs.Arguments.{is_text, name}
use Rattle.mst_lang.specs.Reading.{is_comment}
use Rattle.mst_lang.specs.declared.line.Fault.{Fault}
use Rattle.mst_lang.specs.declared.line.Fault.TheVariants.{E01, E02}
use Rattle.mst_policy.specs.Arguments.{with, names, names_value}
use Rattle.mst_policy.specs.Forms.{expected}
use Rattle.mst_policy.specs.declared.expectation.Scope.{Scope}
use Rattle.mst_policy.specs.declared.expectation.Scope.TheVariants.{Now, AfterLan, AfterBridge, AfterRisk, Always}
use Rattle.mst_policy.specs.declared.expectation.Expectation.{Expectation}
use Rattle.mst_policy.specs.declared.expectation.Promise.{Promise}
use Rattle.mst_policy.specs.declared.item.NameItem.{NameItem}
use Rattle.mst_policy.specs.declared.risk.RiskItems.{RiskItems}
use Rattle.mst_policy.specs.declared.risk.RiskItems.TheVariants.{Lans, Bridges}
use Rattle.mst_policy.specs.declared.risk.RiskLine.{RiskLine}
use Rattle.mst_policy.specs.declared.risk.Said.{Said}
use Rattle.mst_policy.specs.declared.risk.Said.TheVariants as says

-- ---- promises
-- what is expected in a scope
abbrev pub promise : Scope → Expectation → Promise
promise scope expectation = record { is_final = false; scope = scope; expectation = expectation }

-- the same of the end alone
abbrev pub in_the_end : Promise → Promise
in_the_end promise = record promise { is_final = true }

-- ---- scopes

-- what is expected in a scope, which is there if its list is one. Words that are no expectation are E01, whatever is wrong with
-- the list, and that is E02, whatever else is wrong with the expectation
abbrev pub in_scope : Option Scope → Result Expectation Fault → Result Promise Fault
in_scope None (Err E01) = Err E01
in_scope None _ = Err E02
in_scope (Some scope) expectation = with (Ok (promise scope)) expectation

-- whether words are of what is meant to be cut. That stands by itself: neither a scope nor `finally` is in front of it
abbrev pub is_leaving : List (List ℕ) → Bool
is_leaving [] = false
is_leaving (word ∷ others) = is_text word (codes "leaves")

-- what words expect that stand behind a scope
abbrev pub behind_scope : List (List ℕ) → Result Expectation Fault
behind_scope words = if is_leaving words then Err E01 else expected words

-- what a word behind `after` makes of a list: failures of LANs, failures of bridges, or risks
abbrev pub after_what : List ℕ → Option (List NameItem → Scope)
after_what kind =
    if is_text kind (codes "lan") then Some AfterLan
    else (if is_text kind (codes "bridge") then Some AfterBridge else (if is_text kind (codes "risk") then Some AfterRisk else None))

-- the words behind `after`: of what it is, which of these are meant, and an expectation
abbrev pub after : List (List ℕ) → Result Promise Fault
after (kind ∷ list ∷ others) = option_map_or (λ scope. in_scope (option_map scope (names_value list)) (behind_scope others)) (after_what kind) (Err E01)
after _ = Err E01

-- what words promise: an expectation, in the scope that the first of them says, if it says one
abbrev pub scoped : List ℕ → List (List ℕ) → Result Promise Fault
scoped word others =
    if is_text word (codes "after") then after others
    else (if is_text word (codes "always") then in_scope (Some Always) (behind_scope others) else in_scope (Some Now) (expected (word ∷ others)))

-- ---- the end
-- what words promise of the end alone
abbrev pub of_the_end : List ℕ → List (List ℕ) → Result Promise Fault
of_the_end word others = with (Ok in_the_end) (scoped word others)

-- the words behind `finally`
abbrev pub finally : List (List ℕ) → Result Promise Fault
finally [] = Err E01
finally (word ∷ others) = if is_leaving (word ∷ others) then Err E01 else of_the_end word others

-- what the words of a line promise: `finally` is the first of them, or none. What is meant to be cut is of the end alone without that word, too
abbrev pub promised : List ℕ → List (List ℕ) → Result Promise Fault
promised word others =
    if is_text word (codes "finally") then finally others else (if is_leaving (word ∷ others) then of_the_end word others else scoped word others)

-- ---- risks
-- what a word behind the name of a risk makes of a list: what fails of LANs, or of bridges
abbrev pub risk_items : List ℕ → Option (List NameItem → RiskItems)
risk_items kind = if is_text kind (codes "lan") then Some Lans else (if is_text kind (codes "bridge") then Some Bridges else None)

abbrev pub risk_line : (List NameItem → RiskItems) → List ℕ → List NameItem → RiskLine
risk_line items name list = record { name = name; items = items list }

-- the words behind `risk`: its name, of what it is, and which of these fail
abbrev pub risk_of : List (List ℕ) → Result RiskLine Fault
risk_of (word ∷ kind ∷ list ∷ []) = option_map_or (λ items. with (with (Ok (risk_line items)) (name word)) (names list)) (risk_items kind) (Err E01)
risk_of _ = Err E01

-- ---- lines
-- what the words of a line say: `risk` is the first of them, with nothing in front, or they promise
abbrev pub said : List ℕ → List (List ℕ) → Result Said Fault
said word others = if is_text word (codes "risk") then with (Ok says.Risk) (risk_of others) else with (Ok says.Promise) (promised word others)

-- a line by its words: nothing where it has none, or is a comment, whatever bytes that holds; else all its bytes are plain
abbrev pub worded : Bool → List (List ℕ) → Result (Option Said) Fault
worded plain [] = if plain then Ok None else Err E01
worded plain (word ∷ others) = if is_comment word then Ok None else (if plain then with (Ok Some) (said word others) else Err E01)

-- a line of at most 4,096 bytes
abbrev pub reading : List ℕ → Result (Option Said) Fault
reading line = if nat_lt 4096 (length line) then Err E01 else worded (list_all is_plain line) (words line)
