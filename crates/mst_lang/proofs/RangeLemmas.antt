-- The values of an edit that a line says are in their ranges.
use Rattle.std.proofs.Common.{◌≡◌, ℕ, ◌/◌, ◌%◌, ◌<◌, ◌≤◌, ◌^◌, Bool, true, false, List, [], ◌∷◌, length, Option, Some, None, Ok, Err, refl, arith}
use Rattle.std.specs.Prelude.{Result, ◌==◌, ◌&&◌, nat_lt, nat_le, codes, IfOk, IfSome, if◌then◌else◌, ⊤}
use Rattle.std.specs.Option.{ForSome, option_map_or, ok_or}
use Rattle.std.specs.List.{list_all}
use Rattle.std.proofs.lemmas.Bool.{eqb-false, and_parts, leb-true}
use Rattle.std.proofs.lemmas.Result.{IfOk-at_ok}
use Rattle.mst_ids.specs.Texts.{is_name, is_conf_name, mac_value}
use Rattle.mst_ids.specs.Vids.{IsVidSet, is_vid, set_where, vids_value}
use Rattle.mst_ids.proofs.VidRangeLemmas.{is_vid_set, vids_value-IsVidSet}
use Rattle.mst_lang.specs.Words.{words, is_plain}
use Rattle.mst_lang.specs.Arguments.{is_text, text_of, choice_of, number_value, number_of, with, mac, priority, bridge_step, port_step, cost_of, cost, vids, members}
use Rattle.mst_lang.specs.Forms.{ValueOf, value_as, Makes, rule_of, command_of}
use Rattle.mst_lang.specs.Ranges.{InRange}
use Rattle.mst_lang.specs.Reading.{filled, says_as, is_comment, worded, reading_as}
use Rattle.mst_lang.specs.declared.form.Argument.{Argument}
use Rattle.mst_lang.specs.declared.form.Argument.TheVariants.{BridgeName, LanName, MacAddress, PortNumber, TreeNumber, BridgePriority, PortPriority, PathCost, PortKey, SystemPriority, Revision, HopLimit, AgeLimit, SpeedNumber, ConfigurationName, OnOrOff, BridgeKind, UpOrDown, YesOrNo, OneVid, VidList, MemberList}
use Rattle.mst_lang.specs.declared.line.Version.{Version}
use Rattle.mst_lang.specs.declared.line.Edit.{Edit}
use Rattle.mst_lang.specs.declared.line.Line.{Line}
use Rattle.mst_lang.specs.declared.line.Line.TheVariants.{Edit as edit}
use Rattle.mst_lang.specs.declared.line.Command.{Command}
use Rattle.mst_lang.specs.declared.line.Command.TheVariants.{AddBridge, DelBridge, Bridge, Kind as KindOf, AddPort, DelPort, AddLan, DelLan, Lan, Speed as SpeedOf, Plug, Unplug, SetKey, SetSysPri, SetTreePrio, SetTreePortPrio, SetPortPathCost, SetPortRestrRole, SetTreePortCost, SetMstConfId, SetVidToMstId, SetMaxHops, SetMaxAge, SetPortVlans, ShowTree, ShowVlan, ShowMstConfId}
use Rattle.mst_lang.specs.declared.line.Fault.{Fault}
use Rattle.mst_lang.specs.declared.line.Fault.TheVariants.{E01, E02, E03}
use Rattle.mst_lang.proofs.MacLemmas.{between, mac_fits}

-- a line whose values are in their ranges
abbrev HasRanges : Line → Type 0
HasRanges (edit e) = InRange e
HasRanges _ = ⊤

-- a line that was read, whose values are in their ranges, or a fault
abbrev Fits : Result Line Fault → Type 0
Fits r = IfOk r HasRanges

-- ---- the forms of arguments
-- what holds of every value of a form
record Gives {A : Type 0} (form : List ℕ → Result A Fault) (P : A → Type 0) : Type 0 where
  each : (word : List ℕ) → IfOk (form word) P

-- what a test lets pass
if_passed : {A : Type 0} (P : A → Type 0) (b : Bool) (r : Result A Fault) (fault : Fault) → (b ≡ true → IfOk r P) → IfOk (if b then r else Err fault) P
if_passed P true r fault h = h refl
if_passed P false r fault h = tt

-- either of two
either : {A : Type 0} (P : A → Type 0) (b : Bool) (r s : Result A Fault) → IfOk r P → IfOk s P → IfOk (if b then r else s) P
either P true r s h i = h
either P false r s h i = i

-- a value, or the fault where there is none
value_or : {A : Type 0} (P : A → Type 0) (o : Option A) (fault : Fault) → IfSome o P → IfOk (ok_or o fault) P
value_or P None fault h = tt
value_or P (Some a) fault h = h

-- what is made of a value
made_of : {X A : Type 0} (P : A → Type 0) (f : X → Result A Fault) (o : Option X) (fault : Fault) → ((x : X) → IfOk (f x) P) → IfOk (option_map_or f o (Err fault)) P
made_of P f None fault h = tt
made_of P f (Some x) fault h = h x

-- what is made of a value and of what was made so far
with_fits : {A B : Type 0} (P : A → Type 0) (Q : B → Type 0) (r : Result (A → B) Fault) (s : Result A Fault) → IfOk r (λ make. (a : A) → P a → Q (make a)) → IfOk s P → IfOk (with r s) Q
with_fits P Q (Ok make) (Ok a) h i = h a i
with_fits P Q (Ok make) (Err fault) h i = tt
with_fits P Q (Err fault) (Ok a) h i = tt
with_fits P Q (Err fault) (Err other) h i = tt

text_gives : (is_form : List ℕ → Bool) (fault : Fault) → Gives (text_of is_form fault) (λ text. is_form text ≡ true)
text_gives is_form fault = record { each = λ word. if_passed (λ text. is_form text ≡ true) (is_form word) (Ok word) fault (λ passed. passed) }

choice_gives : {A : Type 0} (one other : List ℕ × A) (fault : Fault) → Gives (choice_of one other fault) (λ _. ⊤)
choice_gives one other fault = record { each = λ word. either (λ _. ⊤) (is_text word one.0) (Ok one.1) _ tt (if_passed (λ _. ⊤) (is_text word other.0) (Ok other.1) fault (λ _. tt)) }

number_gives : (low high : ℕ) (fault : Fault) → Gives (number_of low high fault) (λ n. (low ≤ n) × (n ≤ high))
number_gives low high fault = record {
  each = λ word.
      made_of (λ n. (low ≤ n) × (n ≤ high)) _ (number_value word) fault (λ n. if_passed (λ n. (low ≤ n) × (n ≤ high)) (nat_le low n && nat_le n high) (Ok n) fault (between low high n));
}

mac_gives : Gives mac (λ mac. mac < 2 ^ 48)
mac_gives = record { each = λ word. value_or (λ mac. mac < 2 ^ 48) (mac_value word) E02 (mac_fits word) }

-- a priority of so many steps
priority_gives : (step : ℕ) → Gives (priority step) (λ n. (0 ≤ n) × (n ≤ 15))
priority_gives step = record {
  each = λ word.
      made_of (λ n. (0 ≤ n) × (n ≤ 15)) _ (number_value word) E02 (λ n. if_passed (λ n. (0 ≤ n) × (n ≤ 15)) (n % step == 0 && nat_le (n / step) 15) (Ok (n / step)) E02 (λ passed.
      let few = leb-true (n / step) 15 (and_parts (n % step == 0) (nat_le (n / step) 15) passed).1 in (omega arith, few)));
}

-- no value is some value
no_some : {X : Type 0} (x : X) → None ≡ Some x → ⊥
no_some x h = cc

-- some value where a test fails
if_other : {X : Type 0} (b : Bool) (x y : X) → (if b then None else Some x) ≡ Some y → (b ≡ false) × (x ≡ y)
if_other true x y h = absurd (no_some y h)
if_other false x y h = (refl, cc)

abbrev IsCost : Option ℕ → Type 0
IsCost cost = ForSome cost (λ c. (1 ≤ c) × (c ≤ 200_000_000))

-- none is the automatic cost, and another is not 0
cost_in_range : (n : ℕ) → (0 ≤ n) × (n ≤ 200_000_000) → IsCost (cost_of n)
cost_in_range n within c h =
    let other = if_other (n == 0) n c h in
    let positive = eqb-false n 0 other.0 in
    let most = within.1 in
    (omega arith, omega arith)

cost_gives : Gives cost IsCost
cost_gives = record { each = λ word. with_fits (λ n. (0 ≤ n) × (n ≤ 200_000_000)) IsCost (Ok cost_of) (number_of 0 200_000_000 E02 word) cost_in_range ((number_gives 0 200_000_000 E02).each word) }

list_fits : (word : List ℕ) → IfOk (vids word) IsVidSet
list_fits word = value_or IsVidSet (vids_value word) E03 (vids_value-IsVidSet word)

vids_give : Gives vids IsVidSet
vids_give = record { each = list_fits }

members_give : Gives members IsVidSet
members_give = record {
  each = λ word.
      either IsVidSet (is_text word (codes "all")) (Ok (set_where is_vid)) _ (is_vid_set is_vid refl refl)
      (either IsVidSet (is_text word (codes "none")) (Ok (set_where (λ _. false))) (vids word) (is_vid_set (λ _. false) refl refl) (list_fits word));
}

-- what holds of every value of an argument
abbrev HoldsOf : (argument : Argument) → ValueOf argument → Type 0
HoldsOf BridgeName text = is_name text ≡ true
HoldsOf LanName text = is_name text ≡ true
HoldsOf MacAddress mac = mac < 2 ^ 48
HoldsOf PortNumber n = (1 ≤ n) × (n ≤ 4095)
HoldsOf TreeNumber n = (0 ≤ n) × (n ≤ 4094)
HoldsOf BridgePriority n = (0 ≤ n) × (n ≤ 15)
HoldsOf PortPriority n = (0 ≤ n) × (n ≤ 15)
HoldsOf PathCost cost = IsCost cost
HoldsOf PortKey n = (0 ≤ n) × (n ≤ 65535)
HoldsOf SystemPriority n = (0 ≤ n) × (n ≤ 65535)
HoldsOf Revision n = (0 ≤ n) × (n ≤ 65535)
HoldsOf HopLimit n = (6 ≤ n) × (n ≤ 40)
HoldsOf AgeLimit n = (6 ≤ n) × (n ≤ 40)
HoldsOf SpeedNumber n = (1 ≤ n) × (n ≤ 9_999_999_999)
HoldsOf ConfigurationName text = is_conf_name text ≡ true
HoldsOf OneVid n = (1 ≤ n) × (n ≤ 4094)
HoldsOf VidList vids = IsVidSet vids
HoldsOf MemberList vids = IsVidSet vids
HoldsOf argument value = ⊤

value_holds : (version : Version) (argument : Argument) → Gives (value_as version argument) (HoldsOf argument)
value_holds version BridgeName = text_gives is_name E02
value_holds version LanName = text_gives is_name E02
value_holds version MacAddress = mac_gives
value_holds version PortNumber = number_gives 1 4095 E02
value_holds version TreeNumber = number_gives 0 4094 E03
value_holds version BridgePriority = priority_gives (bridge_step version)
value_holds version PortPriority = priority_gives (port_step version)
value_holds version PathCost = cost_gives
value_holds version PortKey = number_gives 0 65535 E02
value_holds version SystemPriority = number_gives 0 65535 E02
value_holds version Revision = number_gives 0 65535 E02
value_holds version HopLimit = number_gives 6 40 E02
value_holds version AgeLimit = number_gives 6 40 E02
value_holds version SpeedNumber = number_gives 1 9_999_999_999 E02
value_holds version ConfigurationName = text_gives is_conf_name E02
value_holds version OnOrOff = choice_gives _ _ E02
value_holds version BridgeKind = choice_gives _ _ E02
value_holds version UpOrDown = choice_gives _ _ E02
value_holds version YesOrNo = choice_gives _ _ E02
value_holds version OneVid = number_gives 1 4094 E03
value_holds version VidList = vids_give
value_holds version MemberList = members_give

-- ---- each command
-- what is made of values that are in their ranges
abbrev MakesFit : (form : List Argument) → Makes form → Type 0
MakesFit [] line = HasRanges line
MakesFit (argument ∷ form) makes = (value : ValueOf argument) → HoldsOf argument value → MakesFit form (makes value)

rule_fits : (command : Command) → MakesFit (rule_of command).arguments (rule_of command).says
rule_fits AddBridge = λ b p m q. record { names = p; values = q }
rule_fits DelBridge = λ b p. record { names = p; values = tt }
rule_fits Bridge = λ b p o q. record { names = p; values = tt }
rule_fits KindOf = λ b p k q. record { names = p; values = tt }
rule_fits AddPort = λ b p n q. record { names = (p, q.0, q.1); values = tt }
rule_fits DelPort = λ b p n q. record { names = (p, q.0, q.1); values = tt }
rule_fits AddLan = λ l p. record { names = p; values = tt }
rule_fits DelLan = λ l p. record { names = p; values = tt }
rule_fits Lan = λ l p u q. record { names = p; values = tt }
rule_fits SpeedOf = λ l p k q. record { names = p; values = q }
rule_fits Plug = λ b p n q l r. record { names = ((p, q.0, q.1), r); values = tt }
rule_fits Unplug = λ b p n q. record { names = (p, q.0, q.1); values = tt }
rule_fits SetKey = λ b p n q k r. record { names = (p, q.0, q.1); values = omega (arith, r.1) }
rule_fits SetSysPri = λ b p s q. record { names = p; values = omega (arith, q.1) }
rule_fits SetTreePrio = λ b p t q s r. record { names = p; values = (q.1, r.1) }
rule_fits SetTreePortPrio = λ b p n q t r s i. record { names = (p, q.0, q.1); values = (r.1, i.1) }
rule_fits SetPortPathCost = λ b p n q c r. record { names = (p, q.0, q.1); values = r }
rule_fits SetPortRestrRole = λ b p n q y r. record { names = (p, q.0, q.1); values = tt }
rule_fits SetTreePortCost = λ b p n q t r c i. record { names = (p, q.0, q.1); values = (r.1, i) }
rule_fits SetMstConfId = λ b p v q n r. record { names = p; values = (omega (arith, q.1), r) }
rule_fits SetVidToMstId = λ b p t q v r. record { names = p; values = (q.1, r) }
rule_fits SetMaxHops = λ b p l q. record { names = p; values = q }
rule_fits SetMaxAge = λ b p l q. record { names = p; values = q }
rule_fits SetPortVlans = λ b p n q v r. record { names = (p, q.0, q.1); values = r }
rule_fits ShowTree = λ t p. tt
rule_fits ShowVlan = λ v p. tt
rule_fits ShowMstConfId = λ b p. tt
rule_fits command = tt

filled_fits : (version : Version) (form : List Argument) (r : Result (Makes form) Fault) → IfOk r (MakesFit form) → (words : List (List ℕ)) → Fits (filled version form r words)
filled_fits version [] r h [] = h
filled_fits version [] r h (word ∷ words) = tt
filled_fits version (argument ∷ form) r h [] = tt
filled_fits version (argument ∷ form) r h (word ∷ words) =
    filled_fits version form (with r (value_as version argument word)) (with_fits (HoldsOf argument) (MakesFit form) r (value_as version argument word) h ((value_holds version argument).each word)) words

says_as_fits : (version : Version) (command : Command) (words : List (List ℕ)) → Fits (says_as version command words)
says_as_fits version command words = filled_fits version (rule_of command).arguments (Ok (rule_of command).says) (rule_fits command) words

-- ---- each line
words_fit : (version : Version) (plain : Bool) (line : List (List ℕ)) → Fits (worded version plain line)
words_fit version plain [] = if_passed HasRanges plain _ E01 (λ _. tt)
words_fit version plain (word ∷ arguments) = either HasRanges (is_comment word) _ _ tt
    (if_passed HasRanges plain _ E01 (λ _. made_of HasRanges _ (command_of word) E01 (λ command. says_as_fits version command arguments)))

-- whatever edit a line says
pub edit_in_range : (version : Version) (line : List ℕ) (e : Edit) → reading_as version line ≡ Ok (edit e) → InRange e
edit_in_range version line e is = IfOk-at_ok HasRanges is
    (either HasRanges (nat_lt 4096 (length line)) (Err E01) (worded version (list_all is_plain line) (words line)) tt (words_fit version (list_all is_plain line) (words line)))
