-- The line of an edit is read as the edit.
use Rattle.std.proofs.Common.{◌≡◌, ◌≢◌, ℕ, ◌*◌, ◌^◌, ◌<◌, ◌≤◌, Bool, true, false, List, [], ◌∷◌, length, Option, Some, None, Ok, Err, refl, sym, ap, subst, ◌∙◌, decimal, arith, true≢false}
use Rattle.std.specs.Prelude.{Result, ◌==◌, ◌&&◌, ◌||◌, nat_le, nat_lt, codes, if◌then◌else◌}
use Rattle.std.specs.Option.{ForSome, ok_or}
use Rattle.std.specs.List.{list_all}
use Rattle.std.specs.Bool.{beq}
use Rattle.std.specs.Cmp.{booleans_Decides, unsigned_Decides}
use Rattle.std.specs.Cmp.Lexicographic.{pointwise, pointwise_decides}
use Rattle.std.specs.Char.{is_ascii_alphanumeric}
use Rattle.std.proofs.lemmas.Bool.{and_from, and_parts, le-leb, le-ltb, leb-true, ne_eqb, eqb-true}
use Rattle.std.proofs.lemmas.Fmt.{decimal_nonempty}
use Rattle.mst_ids.specs.Texts.{is_name, is_name_byte, is_conf_name, is_conf_name_byte, mac_text}
use Rattle.mst_ids.specs.Vids.{IsVidSet, runs_from, runs_text, vids_text, vids_value}
use Rattle.mst_ids.proofs.ConfNameLemmas.{is_conf_name-mac_text}
use Rattle.mst_lang.specs.Arguments as forms
use Rattle.mst_lang.specs.Arguments.{is_text, with}
use Rattle.mst_lang.specs.Reading.{reading_as, worded}
use Rattle.mst_lang.specs.Ranges.{InRange, IsName}
use Rattle.mst_lang.specs.declared.line.Version.TheVariants.{V2}
use Rattle.mst_lang.specs.declared.line.Line.TheVariants.{Edit as edit}
use Rattle.mst_lang.specs.declared.line.Edit.{Edit}
use Rattle.mst_lang.specs.declared.line.Edit.TheVariants.{AddBridge, DelBridge, SetBridge, AddPort, DelPort, SetPort, AddLan, DelLan, SetLan, Plug, Unplug, SetByTree}
use Rattle.mst_lang.specs.declared.line.BridgeChange.TheVariants.{Power as PowerOf, Kind as KindOf, SystemPriority, Configuration, MaxHops, MaxAge}
use Rattle.mst_lang.specs.declared.line.PortChange.TheVariants.{Key, PathCost, RestrictedRole}
use Rattle.mst_lang.specs.declared.line.LanChange.TheVariants.{State, Speed}
use Rattle.mst_lang.specs.declared.line.TreeChange.TheVariants.{Priority, PortPriority, PortCost, Table, Vlans}
use Rattle.mst_lang.specs.declared.line.Kind.{Kind}
use Rattle.mst_lang.specs.declared.line.Kind.TheVariants.{Mstp, Rstp}
use Rattle.mst_lang.specs.declared.line.Power.{Power}
use Rattle.mst_lang.specs.declared.line.Power.TheVariants.{On, Off}
use Rattle.mst_lang.specs.declared.line.LanState.{LanState}
use Rattle.mst_lang.specs.declared.line.LanState.TheVariants.{Up, Down}
use Rattle.mst_lang.specs.declared.line.Fault.{Fault}
use Rattle.mst_lang.specs.declared.line.Fault.TheVariants.{E02, E03}
use Rattle.mst_edits.specs.EditLine.{words_of, line_of, spaced, IsSayable, kind_text, power_text, state_text, yes_text, cost_text, no_vids, vlans_text}
use Rattle.mst_edits.specs.Runs.{vids_of, AreRuns}
use Rattle.mst_edit_laws.proofs.Numbers.{number_of_read, priority_read}
use Rattle.mst_edit_laws.proofs.Spaced.{IsWord, AreWords, spaced_is_plain, words_of_spaced}
use Rattle.mst_edit_laws.proofs.Macs.{mac_read}
use Rattle.mst_edits.proofs.RunLemmas.{runs_of_set, set_of_runs}
use Rattle.mst_edit_laws.proofs.VidTexts.{digits_plain, runs_read, runs_plain}

-- ---- words
if_true : {A : Type 0} (b : Bool) (x y : A) → b ≡ true → (if b then x else y) ≡ x
if_true true x y h = refl
if_true false x y h = absurd (true≢false (sym h))

if_false : {A : Type 0} (b : Bool) (x y : A) → b ≡ false → (if b then x else y) ≡ y
if_false true x y h = absurd (true≢false h)
if_false false x y h = refl

either : {Q : Type 0} (a b : Bool) → (a || b) ≡ true → (a ≡ true → Q) → (b ≡ true → Q) → Q
either true b h f g = f refl
either false b h f g = g h

in_graphic : (low high b : ℕ) → 33 ≤ low → high ≤ 126 → (nat_le low b && nat_le b high) ≡ true → is_conf_name_byte b ≡ true
in_graphic low high b least most h =
    let both = and_parts (nat_le low b) (nat_le b high) h in
    let from = leb-true low b both.0 in
    let to = leb-true b high both.1 in
    and_from (nat_le 33 b) (nat_le b 126) (le-leb 33 b (omega arith)) (le-leb b 126 (omega arith))

is_graphic : (n b : ℕ) → 33 ≤ n → n ≤ 126 → b == n ≡ true → is_conf_name_byte b ≡ true
is_graphic n b least most h = let same = eqb-true b n h in and_from (nat_le 33 b) (nat_le b 126) (le-leb 33 b (omega arith)) (le-leb b 126 (omega arith))

name_byte : (b : ℕ) → is_name_byte b ≡ true → is_conf_name_byte b ≡ true
name_byte b h =
    either (is_ascii_alphanumeric b) _ h
    (λ letter. either ((nat_le 48 b && nat_le b 57) || (nat_le 65 b && nat_le b 90)) (nat_le 97 b && nat_le b 122) letter
    (λ i. either (nat_le 48 b && nat_le b 57) (nat_le 65 b && nat_le b 90) i (in_graphic 48 57 b (omega arith) (omega arith)) (in_graphic 65 90 b (omega arith) (omega arith)))
    (in_graphic 97 122 b (omega arith) (omega arith)))
    (λ i. either (b == 95) (b == 45 || b == 46) i (is_graphic 95 b (omega arith) (omega arith))
    (λ j. either (b == 45) (b == 46) j (is_graphic 45 b (omega arith) (omega arith)) (is_graphic 46 b (omega arith) (omega arith))))

names_plain : (bs : List ℕ) → list_all is_name_byte bs ≡ true → list_all is_conf_name_byte bs ≡ true
names_plain [] h = refl
names_plain (b ∷ bs) h = let both = and_parts (is_name_byte b) (list_all is_name_byte bs) h in and_from (is_conf_name_byte b) (list_all is_conf_name_byte bs) (name_byte b both.0) (names_plain bs both.1)

name_word : (text : List ℕ) → IsName text → IsWord text
name_word [] h = absurd (true≢false (sym h))
name_word (b ∷ bs) h =
    let first = and_parts (is_ascii_alphanumeric b) _ h in
    let rest = and_parts (nat_lt (length bs) 16) (list_all is_name_byte bs) first.1 in
    record { some = omega arith; bytes = and_from (is_conf_name_byte b) (list_all is_conf_name_byte bs) (name_byte b (ap (λ t. t || (b == 95 || (b == 45 || b == 46))) first.0)) (names_plain bs rest.1) }

number_word : (n : ℕ) → n < 2 ^ 64 → IsWord (decimal n)
number_word n h = record { some = decimal_nonempty n h; bytes = digits_plain n h }

conf_name_word : (text : List ℕ) → is_conf_name text ≡ true → IsWord text
conf_name_word text h =
    let long = and_parts (nat_le 1 (length text)) _ h in
    let all = and_parts (nat_le (length text) 32) (list_all is_conf_name_byte text) long.1 in
    let some = leb-true 1 (length text) long.0 in
    record { some = omega arith; bytes = all.1 }

mac_word : (mac : ℕ) → mac < 2 ^ 48 → IsWord (mac_text mac)
mac_word mac h = conf_name_word (mac_text mac) (is_conf_name-mac_text mac h)

cost_word : (cost : Option ℕ) → ForSome cost (λ c. (1 ≤ c) × (c ≤ 200_000_000)) → IsWord (cost_text cost)
cost_word None h = record { some = omega arith; bytes = refl }
cost_word (Some c) h = let fits = h c refl in number_word c (omega (arith, fits.1))

power_word : (power : Power) → IsWord (power_text power)
power_word On = record { some = omega arith; bytes = refl }
power_word Off = record { some = omega arith; bytes = refl }

kind_word : (kind : Kind) → IsWord (kind_text kind)
kind_word Mstp = record { some = omega arith; bytes = refl }
kind_word Rstp = record { some = omega arith; bytes = refl }

state_word : (state : LanState) → IsWord (state_text state)
state_word Up = record { some = omega arith; bytes = refl }
state_word Down = record { some = omega arith; bytes = refl }

yes_word : (yes : Bool) → IsWord (yes_text yes)
yes_word true = record { some = omega arith; bytes = refl }
yes_word false = record { some = omega arith; bytes = refl }

-- ---- the line of some words, the first of them a command
read_words : (command : List ℕ) (others : List (List ℕ)) → AreWords (command ∷ others) → length (spaced (command ∷ others)) ≤ 4096 → reading_as V2 (spaced (command ∷ others)) ≡ worded V2 true (command ∷ others)
read_words command others are short =
    let line = spaced (command ∷ others) in
    let plain = spaced_is_plain (command ∷ others) are in
    let same = words_of_spaced (command ∷ others) are in
    if_false (nat_lt 4096 (length line)) _ _ (le-ltb 4096 (length line) short) ∙ (λ i. worded V2 (plain i) (same i))

line_words : (ws : List (List ℕ)) → AreWords ws → length (spaced ws) ≤ 4096 → reading_as V2 (spaced ws) ≡ worded V2 true ws
line_words [] are short = refl
line_words (command ∷ others) are short = read_words command others are short

text_is : (a b : List ℕ) → (is_text a b ≡ true → a ≡ b) × (a ≡ b → is_text a b ≡ true)
text_is a b = pointwise_decides unsigned_Decides a b

-- ---- arguments
name_read : (text : List ℕ) → IsName text → forms.name text ≡ Ok text
name_read text h = if_true (is_name text) (Ok text) (Err E02) h

port_read : (n : ℕ) → (1 ≤ n) × (n ≤ 4095) → forms.port_number (decimal n) ≡ Ok n
port_read n h = number_of_read 1 4095 n E02 h.0 h.1 (omega (arith, h.1))

tree_read : (n : ℕ) → n ≤ 4094 → forms.tree (decimal n) ≡ Ok n
tree_read n h = number_of_read 0 4094 n E03 (omega arith) h (omega arith)

sixteen_read : (n : ℕ) → n < 2 ^ 16 → forms.sixteen_bits (decimal n) ≡ Ok n
sixteen_read n h = number_of_read 0 65535 n E02 (omega arith) (omega arith) (omega arith)

limit_read : (n : ℕ) → (6 ≤ n) × (n ≤ 40) → forms.limit (decimal n) ≡ Ok n
limit_read n h = number_of_read 6 40 n E02 h.0 h.1 (omega (arith, h.1))

speed_read : (n : ℕ) → (1 ≤ n) × (n ≤ 9_999_999_999) → forms.speed (decimal n) ≡ Ok n
speed_read n h = number_of_read 1 9_999_999_999 n E02 h.0 h.1 (omega (arith, h.1))

cost_read : (cost : Option ℕ) → ForSome cost (λ c. (1 ≤ c) × (c ≤ 200_000_000)) → forms.cost (cost_text cost) ≡ Ok cost
cost_read None h = refl
cost_read (Some c) h =
    let fits = h c refl in
    ap (with (Ok forms.cost_of)) (number_of_read 0 200_000_000 c E02 (omega arith) fits.1 (omega (arith, fits.1)))
    ∙ ap Ok (if_false (c == 0) None (Some c) (ne_eqb c 0 (λ e. omega (arith, fits.0))))

bridge_priority_read : (p : ℕ) → p ≤ 15 → forms.bridge_priority V2 (decimal (p * 4096)) ≡ Ok p
bridge_priority_read p h = priority_read 4096 p (p * 4096) refl (omega arith) (omega arith) h (omega arith)

port_priority_read : (p : ℕ) → p ≤ 15 → forms.port_priority V2 (decimal (p * 16)) ≡ Ok p
port_priority_read p h = priority_read 16 p (p * 16) refl (omega arith) (omega arith) h (omega arith)

power_read : (power : Power) → forms.power (power_text power) ≡ Ok power
power_read On = refl
power_read Off = refl

kind_read : (kind : Kind) → forms.kind (kind_text kind) ≡ Ok kind
kind_read Mstp = refl
kind_read Rstp = refl

pub state_read : (state : LanState) → forms.lan_state (state_text state) ≡ Ok state
state_read Up = refl
state_read Down = refl

yes_read : (yes : Bool) → forms.yes_or_no (yes_text yes) ≡ Ok yes
yes_read true = refl
yes_read false = refl

-- ---- lists of VIDs
-- what is known of the text of some VIDs
record IsList (vids : List Bool) (text : List ℕ) : Type 0 where
  value : vids_value text ≡ Some vids
  bytes : list_all is_conf_name_byte text ≡ true

list_is : (vids : List Bool) → IsVidSet vids → vids ≢ no_vids → IsList vids (vids_text vids)
list_is vids is some = by (runs_from 0 vids) refl
  where
    by : (runs : List (ℕ × ℕ)) → runs_from 0 vids ≡ runs → IsList vids (runs_text (runs_from 0 vids))
    by [] e = absurd (some (sym (set_of_runs vids is) ∙ ap vids_of e))
    by (run ∷ runs) e =
        let are : AreRuns 1 (run ∷ runs) = subst (AreRuns 1) e (runs_of_set vids is) in
        record {
          value = ap (λ rs. vids_value (runs_text rs)) e ∙ runs_read run runs are ∙ ap Some (ap vids_of (sym e) ∙ set_of_runs vids is);
          bytes = ap (λ rs. list_all is_conf_name_byte (runs_text rs)) e ∙ runs_plain run runs 1 are;
        }

no_value : (vids : List Bool) → None ≡ Some vids → ⊥
no_value vids h = cc

list_word : (vids : List Bool) (text : List ℕ) → IsList vids text → IsWord text
list_word vids [] is = absurd (no_value vids is.value)
list_word vids (b ∷ bs) is = record { some = omega arith; bytes = is.bytes }

vids_read : (vids : List Bool) → IsVidSet vids → vids ≢ no_vids → forms.vids (vids_text vids) ≡ Ok vids
vids_read vids is some = ap (λ o. ok_or o E03) ((list_is vids is some).value)

vids_word : (vids : List Bool) → IsVidSet vids → vids ≢ no_vids → IsWord (vids_text vids)
vids_word vids is some = list_word vids (vids_text vids) (list_is vids is some)

-- a word that isn't read as a list
other_word : (vids : List Bool) (text word : List ℕ) → IsList vids text → vids_value word ≡ None → is_text text word ≡ false
other_word vids text word is none = by (is_text text word) refl
  where
    by : (b : Bool) → is_text text word ≡ b → b ≡ false
    by true e = absurd (no_value vids (sym none ∙ ap vids_value (sym ((text_is text word).0 e)) ∙ is.value))
    by false e = refl

vlans_good : (vids : List Bool) → IsVidSet vids → (forms.members (vlans_text vids) ≡ Ok vids) × IsWord (vlans_text vids)
vlans_good vids is = by (pointwise beq vids no_vids) refl
  where
    by : (b : Bool) → pointwise beq vids no_vids ≡ b → (forms.members (if b then codes "none" else vids_text vids) ≡ Ok vids) × IsWord (if b then codes "none" else vids_text vids)
    by true e = (ap Ok (sym ((pointwise_decides booleans_Decides vids no_vids).0 e)), record { some = omega arith; bytes = refl })
    by false e =
        let some : vids ≢ no_vids = λ same. true≢false (sym ((pointwise_decides booleans_Decides vids no_vids).1 same) ∙ e) in
        let list = list_is vids is some in (
          if_false (is_text (vids_text vids) (codes "all")) _ _ (other_word vids (vids_text vids) (codes "all") list refl)
              ∙ if_false (is_text (vids_text vids) (codes "none")) _ _ (other_word vids (vids_text vids) (codes "none") list refl)
              ∙ vids_read vids is some,
          list_word vids (vids_text vids) list,
        )

-- ---- edits
one_read : {A : Type 0} {r : Result A Fault} (make : A → Edit) (a : A) → r ≡ Ok a → with (Ok (λ x. edit (make x))) r ≡ Ok (edit (make a))
one_read make a p = ap (with (Ok (λ x. edit (make x)))) p

two_read : {A B : Type 0} {r : Result A Fault} {s : Result B Fault} (make : A → B → Edit) (a : A) (b : B) → r ≡ Ok a → s ≡ Ok b → with (with (Ok (λ x y. edit (make x y))) r) s ≡ Ok (edit (make a b))
two_read make a b p q = λ i. with (with (Ok (λ x y. edit (make x y))) (p i)) (q i)

three_read : {A B C : Type 0} {r : Result A Fault} {s : Result B Fault} {t : Result C Fault} (make : A → B → C → Edit) (a : A) (b : B) (c : C) → r ≡ Ok a → s ≡ Ok b → t ≡ Ok c
    → with (with (with (Ok (λ x y z. edit (make x y z))) r) s) t ≡ Ok (edit (make a b c))
three_read make a b c p q r = λ i. with (with (with (Ok (λ x y z. edit (make x y z))) (p i)) (q i)) (r i)

four_read : {A B C D : Type 0} {r : Result A Fault} {s : Result B Fault} {t : Result C Fault} {u : Result D Fault} (make : A → B → C → D → Edit) (a : A) (b : B) (c : C) (d : D) → r ≡ Ok a → s ≡ Ok b → t ≡ Ok c → u ≡ Ok d
    → with (with (with (with (Ok (λ w x y z. edit (make w x y z))) r) s) t) u ≡ Ok (edit (make a b c d))
four_read make a b c d p q r s = λ i. with (with (with (with (Ok (λ w x y z. edit (make w x y z))) (p i)) (q i)) (r i)) (s i)

text_word : (text : List ℕ) → 0 < length text → list_all is_conf_name_byte text ≡ true → IsWord text
text_word text some bytes = record { some = some; bytes = bytes }

-- the words of each edit are words
pub edit_words : (e : Edit) → InRange e → IsSayable e → AreWords (words_of e)
edit_words (AddBridge bridge mac) in_range sayable = (text_word _ (omega arith) refl, (name_word bridge in_range.names, (mac_word mac in_range.values, tt)))
edit_words (DelBridge bridge) in_range sayable = (text_word _ (omega arith) refl, (name_word bridge in_range.names, tt))
edit_words (SetBridge bridge (PowerOf power)) in_range sayable = (text_word _ (omega arith) refl, (name_word bridge in_range.names, (power_word power, tt)))
edit_words (SetBridge bridge (KindOf kind)) in_range sayable = (text_word _ (omega arith) refl, (name_word bridge in_range.names, (kind_word kind, tt)))
edit_words (AddPort port) in_range sayable = (text_word _ (omega arith) refl, (name_word port.bridge in_range.names.0, (number_word port.number (omega (arith, in_range.names.2)), tt)))
edit_words (DelPort port) in_range sayable = (text_word _ (omega arith) refl, (name_word port.bridge in_range.names.0, (number_word port.number (omega (arith, in_range.names.2)), tt)))
edit_words (AddLan lan) in_range sayable = (text_word _ (omega arith) refl, (name_word lan in_range.names, tt))
edit_words (DelLan lan) in_range sayable = (text_word _ (omega arith) refl, (name_word lan in_range.names, tt))
edit_words (SetLan lan (State state)) in_range sayable = (text_word _ (omega arith) refl, (name_word lan in_range.names, (state_word state, tt)))
edit_words (SetLan lan (Speed speed)) in_range sayable = (text_word _ (omega arith) refl, (name_word lan in_range.names, (number_word speed (omega (arith, in_range.values.1)), tt)))
edit_words (Plug port lan) in_range sayable = (text_word _ (omega arith) refl, (name_word port.bridge in_range.names.0.0, (number_word port.number (omega (arith, in_range.names.0.2)), (name_word lan in_range.names.1, tt))))
edit_words (Unplug port) in_range sayable = (text_word _ (omega arith) refl, (name_word port.bridge in_range.names.0, (number_word port.number (omega (arith, in_range.names.2)), tt)))
edit_words (SetPort port (Key key)) in_range sayable = (text_word _ (omega arith) refl, (name_word port.bridge in_range.names.0, (number_word port.number (omega (arith, in_range.names.2)), (number_word key (omega (arith, in_range.values)), tt))))
edit_words (SetBridge bridge (SystemPriority priority)) in_range sayable = (text_word _ (omega arith) refl, (name_word bridge in_range.names, (number_word priority (omega (arith, in_range.values)), tt)))
edit_words (SetByTree (Priority bridge tree priority)) in_range sayable = (text_word _ (omega arith) refl, (name_word bridge in_range.names, (number_word tree (omega (arith, in_range.values.0)), (number_word (priority * 4096) (omega (arith, in_range.values.1)), tt))))
edit_words (SetByTree (PortPriority port tree priority)) in_range sayable = (text_word _ (omega arith) refl, (name_word port.bridge in_range.names.0, (number_word port.number (omega (arith, in_range.names.2)), (number_word tree (omega (arith, in_range.values.0)), (number_word (priority * 16) (omega (arith, in_range.values.1)), tt)))))
edit_words (SetPort port (PathCost cost)) in_range sayable = (text_word _ (omega arith) refl, (name_word port.bridge in_range.names.0, (number_word port.number (omega (arith, in_range.names.2)), (cost_word cost in_range.values, tt))))
edit_words (SetPort port (RestrictedRole restricted)) in_range sayable = (text_word _ (omega arith) refl, (name_word port.bridge in_range.names.0, (number_word port.number (omega (arith, in_range.names.2)), (yes_word restricted, tt))))
edit_words (SetByTree (PortCost port tree cost)) in_range sayable = (text_word _ (omega arith) refl, (name_word port.bridge in_range.names.0, (number_word port.number (omega (arith, in_range.names.2)), (number_word tree (omega (arith, in_range.values.0)), (cost_word cost in_range.values.1, tt)))))
edit_words (SetBridge bridge (Configuration revision name)) in_range sayable = (text_word _ (omega arith) refl, (name_word bridge in_range.names, (number_word revision (omega (arith, in_range.values.0)), (conf_name_word name in_range.values.1, tt))))
edit_words (SetByTree (Table bridge tree vids)) in_range sayable = (text_word _ (omega arith) refl, (name_word bridge in_range.names, (number_word tree (omega (arith, in_range.values.0)), (vids_word vids in_range.values.1 sayable, tt))))
edit_words (SetBridge bridge (MaxHops limit)) in_range sayable = (text_word _ (omega arith) refl, (name_word bridge in_range.names, (number_word limit (omega (arith, in_range.values.1)), tt)))
edit_words (SetBridge bridge (MaxAge limit)) in_range sayable = (text_word _ (omega arith) refl, (name_word bridge in_range.names, (number_word limit (omega (arith, in_range.values.1)), tt)))
edit_words (SetByTree (Vlans port vids)) in_range sayable = (text_word _ (omega arith) refl, (name_word port.bridge in_range.names.0, (number_word port.number (omega (arith, in_range.names.2)), ((vlans_good vids in_range.values).1, tt))))

-- and its words say it
says_edit : (e : Edit) → InRange e → IsSayable e → worded V2 true (words_of e) ≡ Ok (edit e)
says_edit (AddBridge bridge mac) in_range sayable = two_read AddBridge bridge mac (name_read bridge in_range.names) (ap (λ o. ok_or o E02) (mac_read mac in_range.values))
says_edit (DelBridge bridge) in_range sayable = one_read DelBridge bridge (name_read bridge in_range.names)
says_edit (SetBridge bridge (PowerOf power)) in_range sayable = two_read (λ b x. SetBridge b (PowerOf x)) bridge power (name_read bridge in_range.names) (power_read power)
says_edit (SetBridge bridge (KindOf kind)) in_range sayable = two_read (λ b x. SetBridge b (KindOf x)) bridge kind (name_read bridge in_range.names) (kind_read kind)
says_edit (AddPort port) in_range sayable = two_read (λ b p. AddPort (record { bridge = b; number = p })) port.bridge port.number (name_read port.bridge in_range.names.0) (port_read port.number (in_range.names.1, in_range.names.2))
says_edit (DelPort port) in_range sayable = two_read (λ b p. DelPort (record { bridge = b; number = p })) port.bridge port.number (name_read port.bridge in_range.names.0) (port_read port.number (in_range.names.1, in_range.names.2))
says_edit (AddLan lan) in_range sayable = one_read AddLan lan (name_read lan in_range.names)
says_edit (DelLan lan) in_range sayable = one_read DelLan lan (name_read lan in_range.names)
says_edit (SetLan lan (State state)) in_range sayable = two_read (λ l x. SetLan l (State x)) lan state (name_read lan in_range.names) (state_read state)
says_edit (SetLan lan (Speed speed)) in_range sayable = two_read (λ l x. SetLan l (Speed x)) lan speed (name_read lan in_range.names) (speed_read speed in_range.values)
says_edit (Plug port lan) in_range sayable = three_read (λ b p. Plug (record { bridge = b; number = p })) port.bridge port.number lan (name_read port.bridge in_range.names.0.0) (port_read port.number (in_range.names.0.1, in_range.names.0.2)) (name_read lan in_range.names.1)
says_edit (Unplug port) in_range sayable = two_read (λ b p. Unplug (record { bridge = b; number = p })) port.bridge port.number (name_read port.bridge in_range.names.0) (port_read port.number (in_range.names.1, in_range.names.2))
says_edit (SetPort port (Key key)) in_range sayable = three_read (λ b p x. SetPort (record { bridge = b; number = p }) (Key x)) port.bridge port.number key (name_read port.bridge in_range.names.0) (port_read port.number (in_range.names.1, in_range.names.2)) (sixteen_read key in_range.values)
says_edit (SetBridge bridge (SystemPriority priority)) in_range sayable = two_read (λ b x. SetBridge b (SystemPriority x)) bridge priority (name_read bridge in_range.names) (sixteen_read priority in_range.values)
says_edit (SetByTree (Priority bridge tree priority)) in_range sayable = three_read (λ b t x. SetByTree (Priority b t x)) bridge tree priority (name_read bridge in_range.names) (tree_read tree in_range.values.0) (bridge_priority_read priority in_range.values.1)
says_edit (SetByTree (PortPriority port tree priority)) in_range sayable = four_read (λ b p t x. SetByTree (PortPriority (record { bridge = b; number = p }) t x)) port.bridge port.number tree priority (name_read port.bridge in_range.names.0) (port_read port.number (in_range.names.1, in_range.names.2)) (tree_read tree in_range.values.0) (port_priority_read priority in_range.values.1)
says_edit (SetPort port (PathCost cost)) in_range sayable = three_read (λ b p x. SetPort (record { bridge = b; number = p }) (PathCost x)) port.bridge port.number cost (name_read port.bridge in_range.names.0) (port_read port.number (in_range.names.1, in_range.names.2)) (cost_read cost in_range.values)
says_edit (SetPort port (RestrictedRole restricted)) in_range sayable = three_read (λ b p x. SetPort (record { bridge = b; number = p }) (RestrictedRole x)) port.bridge port.number restricted (name_read port.bridge in_range.names.0) (port_read port.number (in_range.names.1, in_range.names.2)) (yes_read restricted)
says_edit (SetByTree (PortCost port tree cost)) in_range sayable = four_read (λ b p t x. SetByTree (PortCost (record { bridge = b; number = p }) t x)) port.bridge port.number tree cost (name_read port.bridge in_range.names.0) (port_read port.number (in_range.names.1, in_range.names.2)) (tree_read tree in_range.values.0) (cost_read cost in_range.values.1)
says_edit (SetBridge bridge (Configuration revision name)) in_range sayable = three_read (λ b r n. SetBridge b (Configuration r n)) bridge revision name (name_read bridge in_range.names) (sixteen_read revision in_range.values.0) (if_true (is_conf_name name) (Ok name) (Err E02) in_range.values.1)
says_edit (SetByTree (Table bridge tree vids)) in_range sayable = three_read (λ b t v. SetByTree (Table b t v)) bridge tree vids (name_read bridge in_range.names) (tree_read tree in_range.values.0) (vids_read vids in_range.values.1 sayable)
says_edit (SetBridge bridge (MaxHops limit)) in_range sayable = two_read (λ b x. SetBridge b (MaxHops x)) bridge limit (name_read bridge in_range.names) (limit_read limit in_range.values)
says_edit (SetBridge bridge (MaxAge limit)) in_range sayable = two_read (λ b x. SetBridge b (MaxAge x)) bridge limit (name_read bridge in_range.names) (limit_read limit in_range.values)
says_edit (SetByTree (Vlans port vids)) in_range sayable = three_read (λ b p v. SetByTree (Vlans (record { bridge = b; number = p }) v)) port.bridge port.number vids (name_read port.bridge in_range.names.0) (port_read port.number (in_range.names.1, in_range.names.2)) ((vlans_good vids in_range.values).0)

-- the line of each edit that a line can say is read as that edit, if it has at most 4,096 bytes
pub line_read : (e : Edit) → InRange e → IsSayable e → length (line_of e) ≤ 4096 → reading_as V2 (line_of e) ≡ Ok (edit e)
line_read e in_range sayable short = line_words (words_of e) (edit_words e in_range sayable) short ∙ says_edit e in_range sayable
