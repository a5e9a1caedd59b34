-- The texts of records and of answers.
use Rattle.std.specs.Prelude.{◌≡◌, ℕ, Bool, true, false, List, [], ◌∷◌, ◌++◌, map, drop, Option, Some, None, codes, decimal, if◌then◌else◌}
use Rattle.json.specs.Print.{quoted}
use Rattle.mst_ids.specs.declared.name.PortName.{PortName}
use Rattle.mst_kinds.specs.Kinds.{first_of, parts_of}
use Rattle.mst_kinds.specs.Words.{key_text, mark_text}
use Rattle.mst_kinds.specs.declared.key.Key.{Key}
use Rattle.mst_kinds.specs.declared.key.Key.TheVariants as key
use Rattle.mst_kinds.specs.declared.part.Part.{Part}
use Rattle.mst_kinds.specs.declared.part.Part.TheVariants as part
use Rattle.mst_rows.specs.declared.value.ActivePort.{ActivePort}
use Rattle.mst_rows.specs.declared.value.PromiseScope.{PromiseScope}
use Rattle.mst_rows.specs.declared.value.PromiseScope.TheVariants as scope
use Rattle.mst_rows.specs.Printed.{comma}
use Rattle.mst_rows.specs.Cells.{PromiseSaid, Bare, nothing, text, count, Cell, absent, own, word, number, port, vids, names, ports, trees, groups, active, object, failed_lan, failed_bridge, failed_risk, no_failure, lines, promises}
use Rattle.mst_rows.specs.Rows.{Row, first_cell, left_cells}

-- ---- values
-- a member: its name, and what is written of its value
unfoldable pub named : List ℕ → List ℕ → List ℕ
named key value = quoted key ++ 58 ∷ value

-- texts with `,` between two of them, and before the first where something stands there
abbrev pub joined : Bool → List (List ℕ) → List ℕ
joined follows [] = []
joined follows (t ∷ ts) = comma follows ++ (t ++ joined true ts)

abbrev pub array_text : List (List ℕ) → List ℕ
array_text ts = 91 ∷ (joined false ts ++ 93 ∷ [])

-- the members of a port
abbrev pub place_text : List ℕ → List ℕ → List ℕ
place_text bridge port_number = named (codes "bridge") bridge ++ 44 ∷ named (codes "port") port_number

abbrev pub port_json : PortName → List ℕ
port_json p = 123 ∷ (place_text (quoted p.bridge) (decimal p.number) ++ 125 ∷ [])

abbrev pub flag_text : Bool → List ℕ
flag_text flag = if flag then codes "true" else codes "false"

abbrev pub active_json : ActivePort → List ℕ
active_json a = 123 ∷ (place_text (quoted a.port.bridge) (decimal a.port.number) ++ 44 ∷ (named (codes "member") (flag_text a.is_member) ++ 125 ∷ []))

abbrev pub run_json : ℕ × ℕ → List ℕ
run_json run = 91 ∷ (decimal run.0 ++ 44 ∷ (decimal run.1 ++ 93 ∷ []))

abbrev pub names_json : List (List ℕ) → List ℕ
names_json ns = array_text (map quoted ns)

abbrev pub bare_json : Bare → List ℕ
bare_json nothing = codes "null"
bare_json (text w) = quoted w
bare_json (count n) = decimal n

abbrev pub field_json : Key × Bare → List ℕ
field_json f = named (key_text f.0) (bare_json f.1)

abbrev pub scope_json : PromiseScope → List ℕ
scope_json scope.Now = codes "null"
scope_json scope.Always = quoted (codes "always")
scope_json scope.AfterLan = quoted (codes "after lan")
scope_json scope.AfterBridge = quoted (codes "after bridge")
scope_json scope.AfterRisk = quoted (codes "after risk")

abbrev pub holds_json : Option Bool → List ℕ
holds_json None = codes "null"
holds_json (Some flag) = flag_text flag

-- the members of a promise's text, and those of what is told of it
abbrev pub promise_words_json : PromiseSaid → List ℕ
promise_words_json p =
    named (key_text key.Line) (decimal p.line) ++ 44 ∷ (named (key_text key.Promise) (quoted p.promise)
    ++ 44 ∷ (named (key_text key.Scope) (scope_json p.scope) ++ 44 ∷ named (key_text key.Finally) (flag_text p.is_final)))

abbrev pub promise_told_json : PromiseSaid → List ℕ
promise_told_json p = named (key_text key.NetworkCount) (decimal p.networks) ++ 44 ∷ named (key_text key.Holds) (holds_json p.holds)

abbrev pub promise_json : PromiseSaid → List ℕ
promise_json p = 123 ∷ (promise_words_json p ++ 44 ∷ (promise_told_json p ++ 125 ∷ []))

abbrev pub value_text : Cell → List ℕ
value_text absent = codes "null"
value_text own = codes "null"
value_text (word w) = quoted w
value_text (number n) = decimal n
value_text (port p) = port_json p
value_text (vids runs) = array_text (map run_json runs)
value_text (names ns) = names_json ns
value_text (ports ps) = array_text (map port_json ps)
value_text (trees ts) = array_text (map decimal ts)
value_text (groups gs) = array_text (map names_json gs)
value_text (active ps) = array_text (map active_json ps)
value_text (object fs) = 123 ∷ (joined false (map field_json fs) ++ 125 ∷ [])
value_text (failed_lan n) = 123 ∷ (named (codes "lan") (quoted n) ++ 125 ∷ [])
value_text (failed_bridge n) = 123 ∷ (named (codes "bridge") (quoted n) ++ 125 ∷ [])
value_text (failed_risk n) = 123 ∷ (named (codes "risk") (quoted n) ++ 125 ∷ [])
value_text no_failure = codes "null"
value_text (lines first last) = run_json (first, last)
value_text (promises ps) = array_text (map promise_json ps)

-- ---- records
abbrev pub bridge_text : Cell → List ℕ
bridge_text (port p) = quoted p.bridge
bridge_text c = codes "null"

abbrev pub number_text : Cell → List ℕ
number_text (port p) = decimal p.number
number_text c = codes "null"

-- the members of a part, where these values are left, each behind others
abbrev pub part_json : Part → List Cell → List ℕ
part_json (part.Mark m) cs = []
part_json (part.Key k) cs = 44 ∷ named (key_text k) (value_text (first_cell cs))
part_json (part.Commas k) cs = 44 ∷ named (key_text k) (value_text (first_cell cs))
part_json (part.Above k) cs = 44 ∷ named (key_text k) (value_text (first_cell cs))
part_json (part.Said k m) cs = 44 ∷ named (key_text k) (quoted (mark_text m))
part_json (part.Told k m) cs = 44 ∷ named (key_text k) (quoted (mark_text m))
part_json part.Port cs = 44 ∷ place_text (bridge_text (first_cell cs)) (number_text (first_cell cs))
part_json part.AbovePort cs = 44 ∷ place_text (bridge_text (first_cell cs)) (number_text (first_cell cs))

abbrev pub parts_json : List Part → List Cell → List ℕ
parts_json [] cs = []
parts_json (p ∷ ps) cs = part_json p cs ++ parts_json ps (left_cells p cs)

-- the first member, and those of the parts
abbrev pub row_json : List ℕ → Row → List ℕ
row_json key row = named key (quoted (mark_text (first_of row.kind))) ++ parts_json (parts_of row.kind) row.cells

abbrev pub record_text : Row → List ℕ
record_text row = 123 ∷ (row_json (codes "kind") row ++ 125 ∷ [])

-- a record on a line of its own
abbrev pub record_line : Row → List ℕ
record_line row = record_text row ++ 10 ∷ []

-- records behind others or none, and whether there are some
abbrev pub records_text : Bool → List Row → List ℕ
records_text follows rows = joined follows (map record_text rows)

abbrev pub follow : Bool → List Row → Bool
follow follows [] = follows
follow follows (row ∷ rows) = true

-- ---- answers
-- what stands before the records of an answer, and behind them
abbrev pub line_text : Option ℕ → List ℕ
line_text None = []
line_text (Some line) = named (codes "line") (decimal line) ++ 44 ∷ []

abbrev pub head_text : Option ℕ → Row → List ℕ
head_text line query = 123 ∷ (line_text line ++ (row_json (codes "query") query ++ 44 ∷ (quoted (codes "records") ++ 58 ∷ 91 ∷ [])))

abbrev pub answer_text : Option ℕ → Row → List Row → List ℕ
answer_text line query rows = head_text line query ++ (records_text false rows ++ codes "]}\n")

-- ---- refusals
-- the members of a part at the front, without the `,` that stands before them
abbrev pub first_json : Part → List Cell → List ℕ
first_json p cs = drop 1 (part_json p cs)

abbrev pub front_json : List Part → List Cell → List ℕ
front_json [] cs = []
front_json (p ∷ ps) cs = first_json p cs ++ parts_json ps (left_cells p cs)

abbrev pub refusal_line : Row → List ℕ
refusal_line row = 123 ∷ (front_json (parts_of row.kind) row.cells ++ codes "}\n")

-- of a question that isn't answered: its word, which is the first one of the refusal, and the members of the refusal
abbrev pub unanswered_line : Row → List ℕ
unanswered_line refusal = 123 ∷ (row_json (codes "query") refusal ++ codes "}\n")

-- ---- words that are written as they are: nothing in them is escaped
abbrev pub IsPlain : List ℕ → Type 0
IsPlain letters = quoted letters ≡ 34 ∷ (letters ++ 34 ∷ [])
