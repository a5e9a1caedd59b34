-- The JSON of an answer is the text of its value.
use Rattle.std.proofs.Common.{◌≡◌, ◌∙◌, ℕ, Bool, true, false, List, [], ◌∷◌, ◌++◌, Option, Some, None, map, drop, refl, sym, ap, append_assoc}
use Rattle.std.specs.Prelude.{codes, decimal}
use Rattle.json.specs.Json.{Json, null, boolean, string, array, Items, no_items, item, Members, no_members, member}
use Rattle.json.specs.Json as json
use Rattle.json.specs.Print.{quoted}
use Rattle.mst_ids.specs.declared.name.PortName.{PortName}
use Rattle.mst_kinds.specs.Kinds.{first_of, parts_of, parts_of_refusal_line}
use Rattle.mst_kinds.specs.Words.{key_text, mark_text}
use Rattle.mst_kinds.specs.declared.key.Key.{Key}
use Rattle.mst_kinds.specs.declared.key.Key.TheVariants as key
use Rattle.mst_kinds.specs.declared.kind.Kind.TheVariants as kind
use Rattle.mst_kinds.specs.declared.mark.Mark.{Mark}
use Rattle.mst_kinds.specs.declared.mark.Mark.TheVariants as mark
use Rattle.mst_kinds.specs.declared.part.Part.{Part}
use Rattle.mst_kinds.specs.declared.part.Part.TheVariants as part
use Rattle.mst_kinds.specs.declared.refusal_line.RefusalLine.{RefusalLine}
use Rattle.mst_kinds.specs.declared.refusal_line.RefusalLine.TheVariants as refused
use Rattle.mst_rows.specs.declared.value.ActivePort.{ActivePort}
use Rattle.mst_rows.specs.declared.value.PromiseScope.{PromiseScope}
use Rattle.mst_rows.specs.declared.value.PromiseScope.TheVariants as scope
use Rattle.mst_rows.specs.Printed.{comma, json_text, items_text, members_text}
use Rattle.mst_rows.specs.Cells.{PromiseSaid, Bare, nothing, text, count, Cell, absent, own, word, number, port, vids, names, ports, trees, groups, active, object, failed_lan, failed_bridge, failed_risk, no_failure, lines, promises}
use Rattle.mst_rows.specs.Rows.{Row, row_of, first_cell, left_cells}
use Rattle.mst_rows.specs.Records.{natural, items_of, list_value, place, port_value, active_value, run_value, names_value, bare_value, fields, scope_value, holds_value, promise_told, promise_value, cell_value, bridge_value, number_value, parts_members, row_members, record_value, with_line, answer_value, refusal_value, unanswered_value}
use Rattle.mst_rows.specs.Answers.{named, joined, array_text, place_text, port_json, flag_text, active_json, run_json, names_json, bare_json, field_json, scope_json, holds_json, promise_words_json, promise_told_json, promise_json, value_text, bridge_text, number_text, parts_json, row_json, record_text, records_text, line_text, answer_text, record_line, front_json, refusal_line, unanswered_line}
use Rattle.mst_rows.proofs.PrintedLaws.{members_text-member, members_text-none, json_text-object, items_text-item, items_text-none, json_text-array, json_text-string, json_text-number, json_text-null, json_text-true, json_text-false}

-- ---- members and items
-- a member, and what follows
member_is : (c : Bool) (k : List ℕ) (j : Json) (t : List ℕ) (ms : Members) → json_text j ≡ t → members_text c (member k j ms) ≡ comma c ++ (named k t ++ members_text true ms)
unfolding named
member_is c k j t ms is =
    let rest = members_text true ms in
    members_text-member c k j ms
    ∙ ap (λ l. comma c ++ ((quoted k ++ 58 ∷ []) ++ (l ++ rest))) is
    ∙ ap (λ l. comma c ++ l) (append_assoc (quoted k) (58 ∷ []) (t ++ rest) ∙ sym (append_assoc (quoted k) (58 ∷ t) rest))

-- an array of values, each of which has its text
items_are : {A : Type 0} (f : A → Json) (g : A → List ℕ) → ((x : A) → json_text (f x) ≡ g x) → (c : Bool) (xs : List A) → items_text c (items_of (map f xs)) ≡ joined c (map g xs) ++ 93 ∷ []
items_are f g same c [] = items_text-none c
items_are f g same c (x ∷ xs) =
    let others = items_of (map f xs) in
    items_text-item c (f x) others
    ∙ ap (λ t. comma c ++ (t ++ items_text true others)) (same x)
    ∙ ap (λ t. comma c ++ (g x ++ t)) (items_are f g same true xs)
    ∙ ap (λ t. comma c ++ t) (sym (append_assoc (g x) (joined true (map g xs)) (93 ∷ [])))
    ∙ sym (append_assoc (comma c) (g x ++ joined true (map g xs)) (93 ∷ []))

list_is : {A : Type 0} (f : A → Json) (g : A → List ℕ) → ((x : A) → json_text (f x) ≡ g x) → (xs : List A) → json_text (list_value (map f xs)) ≡ array_text (map g xs)
list_is f g same xs = json_text-array (items_of (map f xs)) ∙ ap (λ t. 91 ∷ t) (items_are f g same false xs)

-- the members of a port, and what follows
place_is : (c : Bool) (b n : Json) (s t : List ℕ) (ms : Members) → json_text b ≡ s → json_text n ≡ t → members_text c (place b n ms) ≡ comma c ++ (place_text s t ++ members_text true ms)
place_is c b n s t ms one other =
    let first = named (codes "bridge") s in
    let second = named (codes "port") t in
    member_is c (codes "bridge") b s (member (codes "port") n ms) one
    ∙ ap (λ l. comma c ++ (first ++ l)) (member_is true (codes "port") n t ms other)
    ∙ ap (λ l. comma c ++ l) (sym (append_assoc first (44 ∷ second) (members_text true ms)))

-- ---- values
natural_is : (n : ℕ) → json_text (natural n) ≡ decimal n
natural_is n = json_text-number (decimal n)

flag_is : (b : Bool) → json_text (boolean b) ≡ flag_text b
flag_is true = json_text-true
flag_is false = json_text-false

port_is : (p : PortName) → json_text (port_value p) ≡ port_json p
port_is p =
    let t = place_text (quoted p.bridge) (decimal p.number) in
    json_text-object (place (string p.bridge) (natural p.number) no_members)
    ∙ ap (λ l. 123 ∷ l) (place_is false (string p.bridge) (natural p.number) (quoted p.bridge) (decimal p.number) no_members (json_text-string p.bridge) (natural_is p.number)
    ∙ ap (λ l. t ++ l) (members_text-none true))

active_is : (a : ActivePort) → json_text (active_value a) ≡ active_json a
active_is a =
    let p = a.port in
    let t = place_text (quoted p.bridge) (decimal p.number) in
    let last = member (codes "member") (boolean a.is_member) no_members in
    json_text-object (place (string p.bridge) (natural p.number) last)
    ∙ ap (λ l. 123 ∷ l) (place_is false (string p.bridge) (natural p.number) (quoted p.bridge) (decimal p.number) last (json_text-string p.bridge) (natural_is p.number)
    ∙ ap (λ l. t ++ l) (member_is true (codes "member") (boolean a.is_member) (flag_text a.is_member) no_members (flag_is a.is_member)
    ∙ ap (λ l. 44 ∷ (named (codes "member") (flag_text a.is_member) ++ l)) (members_text-none true)))

run_is : (run : ℕ × ℕ) → json_text (run_value run) ≡ run_json run
run_is run =
    let second = item (natural run.1) no_items in
    json_text-array (item (natural run.0) second)
    ∙ ap (λ l. 91 ∷ l) (items_text-item false (natural run.0) second
    ∙ ap (λ l. l ++ items_text true second) (natural_is run.0)
    ∙ ap (λ l. decimal run.0 ++ l) (items_text-item true (natural run.1) no_items
    ∙ ap (λ l. 44 ∷ (l ++ items_text true no_items)) (natural_is run.1)
    ∙ ap (λ l. 44 ∷ (decimal run.1 ++ l)) (items_text-none true)))

names_are : (ns : List (List ℕ)) → json_text (names_value ns) ≡ names_json ns
names_are ns = list_is string quoted json_text-string ns

bare_is : (b : Bare) → json_text (bare_value b) ≡ bare_json b
bare_is nothing = json_text-null
bare_is (text w) = json_text-string w
bare_is (count n) = natural_is n

fields_are : (c : Bool) (fs : List (Key × Bare)) → members_text c (fields fs) ≡ joined c (map field_json fs) ++ 125 ∷ []
fields_are c [] = members_text-none c
fields_are c (f ∷ fs) =
    member_is c (key_text f.0) (bare_value f.1) (bare_json f.1) (fields fs) (bare_is f.1)
    ∙ ap (λ t. comma c ++ (field_json f ++ t)) (fields_are true fs)
    ∙ ap (λ t. comma c ++ t) (sym (append_assoc (field_json f) (joined true (map field_json fs)) (125 ∷ [])))
    ∙ sym (append_assoc (comma c) (field_json f ++ joined true (map field_json fs)) (125 ∷ []))

failed_is : (k n : List ℕ) → json_text (json.object (member k (string n) no_members)) ≡ 123 ∷ (named k (quoted n) ++ 125 ∷ [])
failed_is k n =
    json_text-object (member k (string n) no_members)
    ∙ ap (λ l. 123 ∷ l) (member_is false k (string n) (quoted n) no_members (json_text-string n) ∙ ap (λ l. named k (quoted n) ++ l) (members_text-none true))

scope_is : (s : PromiseScope) → json_text (scope_value s) ≡ scope_json s
scope_is scope.Now = json_text-null
scope_is scope.Always = json_text-string (codes "always")
scope_is scope.AfterLan = json_text-string (codes "after lan")
scope_is scope.AfterBridge = json_text-string (codes "after bridge")
scope_is scope.AfterRisk = json_text-string (codes "after risk")

holds_is : (h : Option Bool) → json_text (holds_value h) ≡ holds_json h
holds_is None = json_text-null
holds_is (Some flag) = flag_is flag

-- what is told of a promise, behind its words
told_is : (p : PromiseSaid) → members_text true (promise_told p) ≡ 44 ∷ (promise_told_json p ++ 125 ∷ [])
told_is p =
    let first = named (key_text key.NetworkCount) (decimal p.networks) in
    let last = named (key_text key.Holds) (holds_json p.holds) in
    member_is true (key_text key.NetworkCount) (natural p.networks) (decimal p.networks) (member (key_text key.Holds) (holds_value p.holds) no_members) (natural_is p.networks)
    ∙ ap (λ l. 44 ∷ (first ++ l)) (member_is true (key_text key.Holds) (holds_value p.holds) (holds_json p.holds) no_members (holds_is p.holds) ∙ ap (λ l. 44 ∷ (last ++ l)) (members_text-none true))
    ∙ ap (λ l. 44 ∷ l) (sym (append_assoc first (44 ∷ last) (125 ∷ [])))

promise_is : (p : PromiseSaid) → json_text (promise_value p) ≡ promise_json p
promise_is p =
    let line = named (key_text key.Line) (decimal p.line) in
    let words = named (key_text key.Promise) (quoted p.promise) in
    let of_scope = named (key_text key.Scope) (scope_json p.scope) in
    let final = named (key_text key.Finally) (flag_text p.is_final) in
    let more = 44 ∷ (promise_told_json p ++ 125 ∷ []) in
    let fourth = member (key_text key.Finally) (boolean p.is_final) (promise_told p) in
    let third = member (key_text key.Scope) (scope_value p.scope) fourth in
    let second = member (key_text key.Promise) (string p.promise) third in
    let fourth_is : members_text true fourth ≡ 44 ∷ (final ++ more) =
    member_is true (key_text key.Finally) (boolean p.is_final) (flag_text p.is_final) (promise_told p) (flag_is p.is_final) ∙ ap (λ l. 44 ∷ (final ++ l)) (told_is p) in
    let third_is : members_text true third ≡ 44 ∷ (of_scope ++ 44 ∷ (final ++ more)) =
    member_is true (key_text key.Scope) (scope_value p.scope) (scope_json p.scope) fourth (scope_is p.scope) ∙ ap (λ l. 44 ∷ (of_scope ++ l)) fourth_is in
    let second_is : members_text true second ≡ 44 ∷ (words ++ 44 ∷ (of_scope ++ 44 ∷ (final ++ more))) =
    member_is true (key_text key.Promise) (string p.promise) (quoted p.promise) third (json_text-string p.promise) ∙ ap (λ l. 44 ∷ (words ++ l)) third_is in
    json_text-object (member (key_text key.Line) (natural p.line) second)
    ∙ ap (λ l. 123 ∷ l) (member_is false (key_text key.Line) (natural p.line) (decimal p.line) second (natural_is p.line) ∙ ap (λ l. line ++ l) second_is
    ∙ sym (append_assoc line (44 ∷ (words ++ 44 ∷ (of_scope ++ 44 ∷ final))) more
    ∙ ap (λ l. line ++ 44 ∷ l) (append_assoc words (44 ∷ (of_scope ++ 44 ∷ final)) more ∙ ap (λ l. words ++ 44 ∷ l) (append_assoc of_scope (44 ∷ final) more))))

value_is : (c : Cell) → json_text (cell_value c) ≡ value_text c
value_is absent = json_text-null
value_is own = json_text-null
value_is (word w) = json_text-string w
value_is (number n) = natural_is n
value_is (port p) = port_is p
value_is (vids runs) = list_is run_value run_json run_is runs
value_is (names ns) = names_are ns
value_is (ports ps) = list_is port_value port_json port_is ps
value_is (trees ts) = list_is natural decimal natural_is ts
value_is (groups gs) = list_is names_value names_json names_are gs
value_is (active ps) = list_is active_value active_json active_is ps
value_is (object fs) = json_text-object (fields fs) ∙ ap (λ l. 123 ∷ l) (fields_are false fs)
value_is (failed_lan n) = failed_is (codes "lan") n
value_is (failed_bridge n) = failed_is (codes "bridge") n
value_is (failed_risk n) = failed_is (codes "risk") n
value_is no_failure = json_text-null
value_is (lines first last) = run_is (first, last)
value_is (promises ps) = list_is promise_value promise_json promise_is ps

bridge_is : (c : Cell) → json_text (bridge_value c) ≡ bridge_text c
bridge_is (port p) = json_text-string p.bridge
bridge_is c = json_text-null

number_is : (c : Cell) → json_text (number_value c) ≡ number_text c
number_is (port p) = natural_is p.number
number_is c = json_text-null

-- ---- records
-- a member of a part, behind others, and what follows
part_is : (k : List ℕ) (j : Json) (t : List ℕ) (ms : Members) (rest more : List ℕ) → json_text j ≡ t → members_text true ms ≡ rest ++ more → members_text true (member k j ms) ≡ (44 ∷ named k t ++ rest) ++ more
part_is k j t ms rest more is others =
    member_is true k j t ms is
    ∙ ap (λ l. 44 ∷ (named k t ++ l)) others
    ∙ ap (λ l. 44 ∷ l) (sym (append_assoc (named k t) rest more))

own_is : (c : Cell) (ms : Members) (rest more : List ℕ) → members_text true ms ≡ rest ++ more → members_text true (place (bridge_value c) (number_value c) ms) ≡ (44 ∷ place_text (bridge_text c) (number_text c) ++ rest) ++ more
own_is c ms rest more others =
    let t = place_text (bridge_text c) (number_text c) in
    place_is true (bridge_value c) (number_value c) (bridge_text c) (number_text c) ms (bridge_is c) (number_is c)
    ∙ ap (λ l. 44 ∷ (t ++ l)) others
    ∙ ap (λ l. 44 ∷ l) (sym (append_assoc t rest more))

parts_are : (ps : List Part) (cs : List Cell) (ms : Members) → members_text true (parts_members ps cs ms) ≡ parts_json ps cs ++ members_text true ms
parts_are [] cs ms = refl
parts_are (part.Mark m ∷ ps) cs ms = parts_are ps cs ms
parts_are (part.Key k ∷ ps) cs ms = part_is (key_text k) (cell_value (first_cell cs)) (value_text (first_cell cs)) (parts_members ps (left_cells (part.Key k) cs) ms) _ _ (value_is (first_cell cs)) (parts_are ps (left_cells (part.Key k) cs) ms)
parts_are (part.Commas k ∷ ps) cs ms = part_is (key_text k) (cell_value (first_cell cs)) (value_text (first_cell cs)) (parts_members ps (left_cells (part.Commas k) cs) ms) _ _ (value_is (first_cell cs)) (parts_are ps (left_cells (part.Commas k) cs) ms)
parts_are (part.Above k ∷ ps) cs ms = part_is (key_text k) (cell_value (first_cell cs)) (value_text (first_cell cs)) (parts_members ps (left_cells (part.Above k) cs) ms) _ _ (value_is (first_cell cs)) (parts_are ps (left_cells (part.Above k) cs) ms)
parts_are (part.Said k m ∷ ps) cs ms = part_is (key_text k) (string (mark_text m)) (quoted (mark_text m)) (parts_members ps cs ms) _ _ (json_text-string (mark_text m)) (parts_are ps cs ms)
parts_are (part.Told k m ∷ ps) cs ms = part_is (key_text k) (string (mark_text m)) (quoted (mark_text m)) (parts_members ps cs ms) _ _ (json_text-string (mark_text m)) (parts_are ps cs ms)
parts_are (part.Port ∷ ps) cs ms = own_is (first_cell cs) (parts_members ps (left_cells part.Port cs) ms) _ _ (parts_are ps (left_cells part.Port cs) ms)
parts_are (part.AbovePort ∷ ps) cs ms = own_is (first_cell cs) (parts_members ps (left_cells part.AbovePort cs) ms) _ _ (parts_are ps (left_cells part.AbovePort cs) ms)

-- the first word under its key, and the members of the parts
row_is : (c : Bool) (k : List ℕ) (row : Row) (ms : Members) → members_text c (row_members k row ms) ≡ comma c ++ (row_json k row ++ members_text true ms)
row_is c k row ms =
    let w = mark_text (first_of row.kind) in
    let all = parts_json (parts_of row.kind) row.cells in
    let others = parts_members (parts_of row.kind) row.cells ms in
    member_is c k (string w) (quoted w) others (json_text-string w)
    ∙ ap (λ l. comma c ++ (named k (quoted w) ++ l)) (parts_are (parts_of row.kind) row.cells ms)
    ∙ ap (λ l. comma c ++ l) (sym (append_assoc (named k (quoted w)) all (members_text true ms)))

record_is : (row : Row) → json_text (record_value row) ≡ record_text row
record_is row =
    json_text-object (row_members (codes "kind") row no_members)
    ∙ ap (λ l. 123 ∷ l) (row_is false (codes "kind") row no_members ∙ ap (λ l. row_json (codes "kind") row ++ l) (members_text-none true))

-- ---- answers
-- the last member
last_is : (rows : List Row) → members_text true (member (codes "records") (list_value (map record_value rows)) no_members) ≡ 44 ∷ (named (codes "records") (array_text (map record_text rows)) ++ 125 ∷ [])
last_is rows =
    let t = array_text (map record_text rows) in
    member_is true (codes "records") (list_value (map record_value rows)) t no_members (list_is record_value record_text record_is rows)
    ∙ ap (λ l. 44 ∷ (named (codes "records") t ++ l)) (members_text-none true)

-- what stands behind the query's words
tail_is : (h q t : List ℕ) → (h ++ 44 ∷ (named q (91 ∷ (t ++ 93 ∷ [])) ++ 125 ∷ [])) ++ 10 ∷ [] ≡ (h ++ 44 ∷ (quoted q ++ 58 ∷ 91 ∷ [])) ++ (t ++ 93 ∷ 125 ∷ 10 ∷ [])
unfolding named
tail_is h q t =
    let k = quoted q in
    let e = t ++ 93 ∷ 125 ∷ 10 ∷ [] in
    append_assoc h (44 ∷ ((k ++ 58 ∷ 91 ∷ (t ++ 93 ∷ [])) ++ 125 ∷ [])) (10 ∷ [])
    ∙ ap (λ l. h ++ 44 ∷ l) (append_assoc (k ++ 58 ∷ 91 ∷ (t ++ 93 ∷ [])) (125 ∷ []) (10 ∷ [])
    ∙ append_assoc k (58 ∷ 91 ∷ (t ++ 93 ∷ [])) (125 ∷ 10 ∷ [])
    ∙ ap (λ l. k ++ 58 ∷ 91 ∷ l) (append_assoc t (93 ∷ []) (125 ∷ 10 ∷ []))
    ∙ sym (append_assoc k (58 ∷ 91 ∷ []) e))
    ∙ sym (append_assoc h (44 ∷ (k ++ 58 ∷ 91 ∷ [])) e)

line_is : (line : Option ℕ) (ms : Members) (z : List ℕ) → members_text true ms ≡ 44 ∷ z → members_text false ms ≡ z → members_text false (with_line line ms) ≡ line_text line ++ z
line_is None ms z behind first = first
line_is (Some n) ms z behind first =
    let t = named (codes "line") (decimal n) in
    member_is false (codes "line") (natural n) (decimal n) ms (natural_is n)
    ∙ ap (λ l. t ++ l) behind
    ∙ sym (append_assoc t (44 ∷ []) z)

pub answer_is : (line : Option ℕ) (query : Row) (rows : List Row) → json_text (answer_value line query rows) ++ 10 ∷ [] ≡ answer_text line query rows
answer_is line query rows =
    let h = row_json (codes "query") query in
    let t = records_text false rows in
    let last = member (codes "records") (list_value (map record_value rows)) no_members in
    let ms = row_members (codes "query") query last in
    let z = h ++ 44 ∷ (named (codes "records") (91 ∷ (t ++ 93 ∷ [])) ++ 125 ∷ []) in
    let all = line_is line ms z (row_is true (codes "query") query last ∙ ap (λ l. 44 ∷ (h ++ l)) (last_is rows)) (row_is false (codes "query") query last ∙ ap (λ l. h ++ l) (last_is rows)) in
    ap (λ l. l ++ 10 ∷ []) (json_text-object (with_line line ms) ∙ ap (λ l. 123 ∷ l) all)
    ∙ ap (λ l. 123 ∷ l) (append_assoc (line_text line) z (10 ∷ []) ∙ ap (λ l. line_text line ++ l) (tail_is h (codes "records") t)
    ∙ sym (append_assoc (line_text line) (h ++ 44 ∷ (quoted (codes "records") ++ 58 ∷ 91 ∷ [])) (t ++ 93 ∷ 125 ∷ 10 ∷ [])))

-- ---- refusals
-- a member at the front, and those of the parts behind it
front_is : (k : List ℕ) (j : Json) (t : List ℕ) (ps : List Part) (cs : List Cell) → json_text j ≡ t → json_text (json.object (member k j (parts_members ps cs no_members))) ++ 10 ∷ [] ≡ 123 ∷ ((named k t ++ parts_json ps cs) ++ codes "}\n")
front_is k j t ps cs is =
    let first = named k t in
    let others = parts_json ps cs in
    let ms = parts_members ps cs no_members in
    ap (λ l. l ++ 10 ∷ []) (json_text-object (member k j ms)
    ∙ ap (λ l. 123 ∷ l) (member_is false k j t ms is ∙ ap (λ l. first ++ l) (parts_are ps cs no_members ∙ ap (λ l. others ++ l) (members_text-none true))))
    ∙ ap (λ l. 123 ∷ l) (append_assoc first (others ++ 125 ∷ []) (10 ∷ [])
    ∙ ap (λ l. first ++ l) (append_assoc others (125 ∷ []) (10 ∷ []))
    ∙ sym (append_assoc first others (125 ∷ 10 ∷ [])))

key_front : (k : Key) (ps : List Part) (cs : List Cell) → json_text (json.object (parts_members (part.Key k ∷ ps) cs no_members)) ++ 10 ∷ [] ≡ 123 ∷ (front_json (part.Key k ∷ ps) cs ++ codes "}\n")
key_front k ps cs = front_is (key_text k) (cell_value (first_cell cs)) (value_text (first_cell cs)) ps (left_cells (part.Key k) cs) (value_is (first_cell cs))

told_front : (k : Key) (m : Mark) (ps : List Part) (cs : List Cell) → json_text (json.object (parts_members (part.Told k m ∷ ps) cs no_members)) ++ 10 ∷ [] ≡ 123 ∷ (front_json (part.Told k m ∷ ps) cs ++ codes "}\n")
told_front k m ps cs = front_is (key_text k) (string (mark_text m)) (quoted (mark_text m)) ps cs (json_text-string (mark_text m))

above_front : (k : Key) (ps : List Part) (cs : List Cell) → json_text (json.object (parts_members (part.Above k ∷ ps) cs no_members)) ++ 10 ∷ [] ≡ 123 ∷ (front_json (part.Above k ∷ ps) cs ++ codes "}\n")
above_front k ps cs = front_is (key_text k) (cell_value (first_cell cs)) (value_text (first_cell cs)) ps (left_cells (part.Above k) cs) (value_is (first_cell cs))

pub refusal_is : (line : RefusalLine) (cs : List Cell) → json_text (refusal_value (row_of (kind.Refusal line) cs)) ++ 10 ∷ [] ≡ refusal_line (row_of (kind.Refusal line) cs)
refusal_is refused.Line cs = key_front key.Line (drop 1 (parts_of_refusal_line refused.Line)) cs
refusal_is refused.Hinted cs = key_front key.Line (drop 1 (parts_of_refusal_line refused.Hinted)) cs
refusal_is refused.OldLine cs = told_front key.Side mark.Old (drop 1 (parts_of_refusal_line refused.OldLine)) cs
refusal_is refused.NewLine cs = told_front key.Side mark.New (drop 1 (parts_of_refusal_line refused.NewLine)) cs
refusal_is refused.Explain cs = key_front key.Error (drop 1 (parts_of_refusal_line refused.Explain)) cs
refusal_is refused.Dot cs = key_front key.Error (drop 1 (parts_of_refusal_line refused.Dot)) cs
refusal_is refused.Policy cs = key_front key.Line (drop 1 (parts_of_refusal_line refused.Policy)) cs
refusal_is refused.Change cs = key_front key.Line (drop 1 (parts_of_refusal_line refused.Change)) cs
refusal_is refused.Advise cs = key_front key.Error (drop 1 (parts_of_refusal_line refused.Advise)) cs
refusal_is refused.StepPolicy cs = above_front key.Step (drop 1 (parts_of_refusal_line refused.StepPolicy)) cs
refusal_is refused.StepChange cs = above_front key.Step (drop 1 (parts_of_refusal_line refused.StepChange)) cs
refusal_is refused.Path cs = key_front key.Error (drop 1 (parts_of_refusal_line refused.Path)) cs

pub unanswered_is : (row : Row) → json_text (unanswered_value row) ++ 10 ∷ [] ≡ unanswered_line row
unanswered_is row =
    let members = row_json (codes "query") row in
    ap (λ l. l ++ 10 ∷ []) (json_text-object (row_members (codes "query") row no_members)
    ∙ ap (λ l. 123 ∷ l) (row_is false (codes "query") row no_members ∙ ap (λ l. members ++ l) (members_text-none true)))
    ∙ ap (λ l. 123 ∷ l) (append_assoc members (125 ∷ []) (10 ∷ []))

pub line_of_record : (row : Row) → json_text (record_value row) ++ 10 ∷ [] ≡ record_line row
line_of_record row = ap (λ l. l ++ 10 ∷ []) (record_is row)
