-- The forms of expectations: the word of each, the arguments that stand behind it, and what it makes of the words there.
use Rattle.std.specs.Prelude.{ℕ, Bool, true, false, ◌&&◌, List, [], ◌∷◌, Result, Err, Option, Some, None, codes, find}
use Rattle.std.specs.Option.{option_map_or}
use Rattle.std.specs.Result.{is_ok}
use Rattle.mst_lang.specs.Arguments.{is_text, name, tree, vids}
use Rattle.mst_lang.specs.Forms as scripts
use Rattle.mst_lang.specs.Words.{four_of}
use Rattle.mst_lang.specs.declared.form.Argument.TheVariants.{BridgeName, LanName, TreeNumber, VidList}
use Rattle.mst_lang.specs.declared.line.Fault.{Fault}
use Rattle.mst_lang.specs.declared.line.Fault.TheVariants.{E01}
use Rattle.mst_lang.specs.declared.line.Version.TheVariants.{V1}
use Rattle.mst_policy.specs.Arguments.{names, ports, roles, steps, none_of, one, two, three, four}
use Rattle.mst_policy.specs.declared.expectation.Expectation.{Expectation}
use Rattle.mst_policy.specs.declared.expectation.Expectation.TheVariants as expectations
use Rattle.mst_policy.specs.declared.form.Argument.{Argument}
use Rattle.mst_policy.specs.declared.form.Argument.TheVariants.{Tree, FirstBridge, Bridge, Next, NextBridge, Lan, Vids, Names, Ports, Roles, Steps}
use Rattle.mst_policy.specs.declared.form.Form.{Form}
use Rattle.mst_policy.specs.declared.form.Kind.{Kind}
use Rattle.mst_policy.specs.declared.form.Kind.TheVariants as kinds

-- ---- arguments
-- whether a word is in the form of an argument. Names, trees and VIDs are those of scripts; `next` is a word of its own
abbrev pub is_right : Argument → List ℕ → Bool
is_right Tree word = is_ok (tree word)
is_right FirstBridge word = is_ok (name word)
is_right Bridge word = is_ok (name word)
is_right Next word = is_text word (codes "next")
is_right NextBridge word = is_ok (name word)
is_right Lan word = is_ok (name word)
is_right Vids word = is_ok (vids word)
is_right Names word = is_ok (names word)
is_right Ports word = is_ok (ports word)
is_right Roles word = is_ok (roles word)
is_right Steps word = is_ok (steps word)

-- the word that stands for it where a form is told
abbrev pub word_of : Argument → List ℕ
word_of Tree = scripts.word_of TreeNumber
word_of FirstBridge = codes "A"
word_of Bridge = scripts.word_of BridgeName
word_of Next = codes "next"
word_of NextBridge = codes "C"
word_of Lan = scripts.word_of LanName
word_of Vids = scripts.word_of VidList
word_of Names = codes "NAMES"
word_of Ports = codes "PORTS"
word_of Roles = codes "ROLES"
word_of Steps = codes "N"

-- which words are in its form
abbrev pub range_of : Argument → List ℕ
range_of Tree = scripts.range_of V1 TreeNumber
range_of FirstBridge = codes "A is 1 to 16 letters, digits, _, - and ., the first a letter or a digit"
range_of Bridge = scripts.range_of V1 BridgeName
range_of Next = codes "it is next"
range_of NextBridge = codes "C is 1 to 16 letters, digits, _, - and ., the first a letter or a digit"
range_of Lan = scripts.range_of V1 LanName
range_of Vids = scripts.range_of V1 VidList
range_of Names = codes "NAMES is names, or beginnings of names with * behind, as in core1,acc*"
range_of Ports = codes "PORTS is ports, or all of a bridge, as in core1:1,acc*:2,dist1:*"
range_of Roles = codes "ROLES is of Root, Designated, Alternate, Backup, Master and Disabled, as in Root,Designated"
range_of Steps = codes "N is 0 to 1024"

-- whether a word may stand in its place: `next` has a place of its own
abbrev pub may_stand : Argument → List ℕ → Bool
may_stand Next word = is_right Next word
may_stand _ word = true

-- whether some words may stand in the places of arguments, as many as there are
abbrev pub takes : List Argument → List (List ℕ) → Bool
takes [] [] = true
takes [] (word ∷ words) = false
takes (argument ∷ arguments) [] = false
takes (argument ∷ arguments) (word ∷ words) = may_stand argument word && takes arguments words

-- ---- expectations
-- a bridge is the root, and which one comes next isn't said, or is
abbrev pub root_alone : ℕ → List ℕ → Expectation
root_alone number bridge = expectations.Root number bridge None

abbrev pub root_next : ℕ → List ℕ → List ℕ → Expectation
root_next number bridge other = expectations.Root number bridge (Some other)

-- with `next` as the third of four words
abbrev pub root : List (List ℕ) → Result Expectation Fault
root words = option_map_or (λ w. three tree name name root_next (w.0 ∷ w.1 ∷ w.3 ∷ [])) (four_of words) (Err E01)

-- ---- forms
-- an expectation: its word, the arguments behind it, and what it makes of the words in their places, or the least fault of them
pub record Rule : Type 0 where
  pub word : List ℕ
  pub arguments : List Argument
  pub says : List (List ℕ) → Result Expectation Fault

abbrev pub rule : List ℕ → List Argument → (List (List ℕ) → Result Expectation Fault) → Rule
rule word arguments says = record { word = word; arguments = arguments; says = says }

abbrev pub rule_of : Kind → Rule
rule_of kinds.Root = rule (codes "root") (Tree ∷ Bridge ∷ []) (two tree name root_alone)
rule_of kinds.RootNext = rule (codes "root") (Tree ∷ Bridge ∷ Next ∷ NextBridge ∷ []) root
rule_of kinds.Region = rule (codes "region") (Names ∷ []) (one names expectations.Region)
rule_of kinds.Role = rule (codes "role") (Tree ∷ Ports ∷ Roles ∷ []) (three tree ports roles expectations.Role)
rule_of kinds.Reach = rule (codes "reach") (Vids ∷ Names ∷ []) (two vids names expectations.Reach)
rule_of kinds.Apart = rule (codes "apart") (Vids ∷ Names ∷ Names ∷ []) (three vids names names expectations.Apart)
rule_of kinds.Leaves = rule (codes "leaves") (Vids ∷ Names ∷ []) (two vids names expectations.Leaves)
rule_of kinds.Together = rule (codes "together") (Vids ∷ Names ∷ []) (two vids names expectations.Together)
rule_of kinds.Leaf = rule (codes "leaf") (Tree ∷ Names ∷ []) (two tree names expectations.Leaf)
rule_of kinds.Depth = rule (codes "depth") (Tree ∷ Steps ∷ []) (two tree steps expectations.Depth)
rule_of kinds.Hops = rule (codes "hops") (Vids ∷ Steps ∷ Names ∷ []) (three vids steps names expectations.Hops)
rule_of kinds.Via = rule (codes "via") (Vids ∷ FirstBridge ∷ Bridge ∷ NextBridge ∷ []) (four vids name name name expectations.Via)
rule_of kinds.Carries = rule (codes "carries") (Lan ∷ Vids ∷ []) (two name vids expectations.Carries)
rule_of kinds.Avoids = rule (codes "avoids") (Lan ∷ Vids ∷ []) (two name vids expectations.Avoids)
rule_of kinds.Fits = rule (codes "fits") [] (none_of expectations.Fits)

-- every form, in the order in which they are told
abbrev pub all_kinds : List Kind
all_kinds =
    kinds.Root ∷ kinds.RootNext ∷ kinds.Region ∷ kinds.Role ∷ kinds.Reach ∷ kinds.Apart ∷ kinds.Leaves ∷ kinds.Together ∷ kinds.Leaf ∷ kinds.Depth
    ∷ kinds.Hops ∷ kinds.Via ∷ kinds.Carries ∷ kinds.Avoids ∷ kinds.Fits ∷ []

-- the form of a word that takes the words behind it
abbrev pub kind_of : List ℕ → List (List ℕ) → Option Kind
kind_of word words = find (λ kind. is_text (rule_of kind).word word && takes (rule_of kind).arguments words) all_kinds

-- what words expect, by the form that they are of; E01 where they are of none
abbrev pub expected : List (List ℕ) → Result Expectation Fault
expected [] = Err E01
expected (word ∷ words) = option_map_or (λ kind. (rule_of kind).says words) (kind_of word words) (Err E01)

-- a form as the table of the code has it: its word, which it is, its arguments
abbrev pub Row : Type 0
Row = List ℕ × Kind × List Argument

abbrev pub row_of : Kind → Row
row_of kind = ((rule_of kind).word, kind, (rule_of kind).arguments)

abbrev pub written : Form → Row
written form = (form.word.now, form.kind, form.arguments.now)
