-- Rows as values of JSON: a record, and the object of an answer.
use Rattle.std.specs.Prelude.{ℕ, Bool, List, [], ◌∷◌, map, Option, Some, None, codes, decimal}
use Rattle.json.specs.Json.{Json, null, boolean, string, array, Items, no_items, item, Members, no_members, member}
use Rattle.json.specs.Json as json
use Rattle.mst_ids.specs.declared.name.PortName.{PortName}
use Rattle.mst_kinds.specs.Kinds.{first_of, parts_of}
use Rattle.mst_kinds.specs.Words.{key_text, mark_text}
use Rattle.mst_kinds.specs.declared.key.Key.{Key}
use Rattle.mst_kinds.specs.declared.key.Key.TheVariants as key
use Rattle.mst_kinds.specs.declared.part.Part.{Part}
use Rattle.mst_kinds.specs.declared.part.Part.TheVariants as part
use Rattle.mst_rows.specs.declared.value.ActivePort.{ActivePort}
use Rattle.mst_rows.specs.declared.value.PromiseScope.{PromiseScope}
use Rattle.mst_rows.specs.declared.value.PromiseScope.TheVariants as scope
use Rattle.mst_rows.specs.Cells.{PromiseSaid, Bare, nothing, text, count, Cell, absent, own, word, number, port, vids, names, ports, trees, groups, active, object, failed_lan, failed_bridge, failed_risk, no_failure, lines, promises}
use Rattle.mst_rows.specs.Rows.{Row, first_cell, left_cells}

-- ---- values
abbrev pub natural : ℕ → Json
natural n = json.number (decimal n)

abbrev pub items_of : List Json → Items
items_of [] = no_items
items_of (j ∷ js) = item j (items_of js)

abbrev pub list_value : List Json → Json
list_value js = array (items_of js)

-- the members of a port, before others
abbrev pub place : Json → Json → Members → Members
place bridge port_number others = member (codes "bridge") bridge (member (codes "port") port_number others)

abbrev pub port_value : PortName → Json
port_value p = json.object (place (string p.bridge) (natural p.number) no_members)

abbrev pub active_value : ActivePort → Json
active_value a = json.object (place (string a.port.bridge) (natural a.port.number) (member (codes "member") (boolean a.is_member) no_members))

-- the first and the last VID of a run
abbrev pub run_value : ℕ × ℕ → Json
run_value run = list_value (natural run.0 ∷ natural run.1 ∷ [])

abbrev pub names_value : List (List ℕ) → Json
names_value ns = list_value (map string ns)

abbrev pub bare_value : Bare → Json
bare_value nothing = null
bare_value (text w) = string w
bare_value (count n) = natural n

abbrev pub fields : List (Key × Bare) → Members
fields [] = no_members
fields (f ∷ fs) = member (key_text f.0) (bare_value f.1) (fields fs)

-- the scope of a promise, if it has one, and whether it holds, if that is known
abbrev pub scope_value : PromiseScope → Json
scope_value scope.Now = null
scope_value scope.Always = string (codes "always")
scope_value scope.AfterLan = string (codes "after lan")
scope_value scope.AfterBridge = string (codes "after bridge")
scope_value scope.AfterRisk = string (codes "after risk")

abbrev pub holds_value : Option Bool → Json
holds_value None = null
holds_value (Some flag) = boolean flag

-- what is told of a promise, behind its words
abbrev pub promise_told : PromiseSaid → Members
promise_told p = member (key_text key.NetworkCount) (natural p.networks) (member (key_text key.Holds) (holds_value p.holds) no_members)

abbrev pub promise_value : PromiseSaid → Json
promise_value p =
    json.object (member (key_text key.Line) (natural p.line) (member (key_text key.Promise) (string p.promise)
    (member (key_text key.Scope) (scope_value p.scope) (member (key_text key.Finally) (boolean p.is_final) (promise_told p)))))

abbrev pub cell_value : Cell → Json
cell_value absent = null
cell_value own = null
cell_value (word w) = string w
cell_value (number n) = natural n
cell_value (port p) = port_value p
cell_value (vids runs) = list_value (map run_value runs)
cell_value (names ns) = names_value ns
cell_value (ports ps) = list_value (map port_value ps)
cell_value (trees ts) = list_value (map natural ts)
cell_value (groups gs) = list_value (map names_value gs)
cell_value (active ps) = list_value (map active_value ps)
cell_value (object fs) = json.object (fields fs)
cell_value (failed_lan n) = json.object (member (codes "lan") (string n) no_members)
cell_value (failed_bridge n) = json.object (member (codes "bridge") (string n) no_members)
cell_value (failed_risk n) = json.object (member (codes "risk") (string n) no_members)
cell_value no_failure = null
cell_value (lines first last) = run_value (first, last)
cell_value (promises ps) = list_value (map promise_value ps)

-- ---- records
-- a record's own port: its bridge and its number
abbrev pub bridge_value : Cell → Json
bridge_value (port p) = string p.bridge
bridge_value c = null

abbrev pub number_value : Cell → Json
number_value (port p) = natural p.number
number_value c = null

-- the members of a part, where these values are left, before others
abbrev pub part_members : Part → List Cell → Members → Members
part_members (part.Mark m) cs others = others
part_members (part.Key k) cs others = member (key_text k) (cell_value (first_cell cs)) others
part_members (part.Commas k) cs others = member (key_text k) (cell_value (first_cell cs)) others
part_members (part.Above k) cs others = member (key_text k) (cell_value (first_cell cs)) others
part_members (part.Said k m) cs others = member (key_text k) (string (mark_text m)) others
part_members (part.Told k m) cs others = member (key_text k) (string (mark_text m)) others
part_members part.Port cs others = place (bridge_value (first_cell cs)) (number_value (first_cell cs)) others
part_members part.AbovePort cs others = place (bridge_value (first_cell cs)) (number_value (first_cell cs)) others

abbrev pub parts_members : List Part → List Cell → Members → Members
parts_members [] cs others = others
parts_members (p ∷ ps) cs others = part_members p cs (parts_members ps (left_cells p cs) others)

-- a row, under a key of its own: the first word, and the members of its parts
abbrev pub row_members : List ℕ → Row → Members → Members
row_members key row others = member key (string (mark_text (first_of row.kind))) (parts_members (parts_of row.kind) row.cells others)

abbrev pub record_value : Row → Json
record_value row = json.object (row_members (codes "kind") row no_members)

-- ---- answers
-- the number of the line that asked, where one did, before others
abbrev pub with_line : Option ℕ → Members → Members
with_line None others = others
with_line (Some line) others = member (codes "line") (natural line) others

-- an answer: the line, the query with its words, and the records
abbrev pub answer_value : Option ℕ → Row → List Row → Json
answer_value line query rows =
    json.object (with_line line (row_members (codes "query") query (member (codes "records") (list_value (map record_value rows)) no_members)))

-- ---- refusals
-- the object of a refusal: the members of its parts, without a kind
abbrev pub refusal_value : Row → Json
refusal_value row = json.object (parts_members (parts_of row.kind) row.cells no_members)

-- of a question that isn't answered: its word, which is the first one of the refusal, and the members of the refusal
abbrev pub unanswered_value : Row → Json
unanswered_value refusal = json.object (row_members (codes "query") refusal no_members)
