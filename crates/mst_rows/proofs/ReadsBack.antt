-- The JSON of an answer reads back as its value.
use Rattle.std.proofs.Common.{◌≡◌, ℕ, suc, ◌<◌, ◌≤◌, ◌^◌, Bool, List, [], ◌∷◌, Option, Some, None, map, refl, arith}
use Rattle.std.specs.List.{AllByRecursion}
use Rattle.std.specs.Option.{ForSome}
use Rattle.std.specs.Prelude.{codes}
use Rattle.json.specs.Json.{Json, null, boolean, string, array, Items, no_items, item, Members, no_members, member, document}
use Rattle.json.specs.Json as json
use Rattle.json.specs.Tree.{depth, items_depth, members_depth, HasNumbers, ItemsHaveNumbers, MembersHaveNumbers}
use Rattle.json.proofs.Printed.Decimals.{IsNumber-decimal}
use Rattle.json.proofs.Printed.Trees.{document-print}
use Rattle.mst_ids.specs.declared.name.PortName.{PortName}
use Rattle.mst_kinds.specs.Kinds.{first_of, parts_of}
use Rattle.mst_kinds.specs.Words.{key_text, mark_text}
use Rattle.mst_kinds.specs.declared.key.Key.{Key}
use Rattle.mst_kinds.specs.declared.key.Key.TheVariants as key
use Rattle.mst_kinds.specs.declared.part.Part.{Part}
use Rattle.mst_kinds.specs.declared.part.Part.TheVariants as part
use Rattle.mst_rows.specs.declared.value.ActivePort.{ActivePort}
use Rattle.mst_rows.specs.declared.value.PromiseScope.{PromiseScope}
use Rattle.mst_rows.specs.declared.value.PromiseScope.TheVariants as scope
use Rattle.mst_rows.specs.Printed.{json_text}
use Rattle.mst_rows.specs.Cells.{PromiseSaid, Bare, nothing, text, count, Cell, absent, own, word, number, port, vids, names, ports, trees, groups, active, object, failed_lan, failed_bridge, failed_risk, no_failure, lines, promises}
use Rattle.mst_rows.specs.Rows.{Row, first_cell, other_cells}
use Rattle.mst_rows.specs.Records.{natural, items_of, list_value, place, port_value, active_value, run_value, names_value, fields, scope_value, holds_value, promise_told, promise_value, cell_value, bridge_value, number_value, parts_members, row_members, record_value, answer_value, refusal_value, unanswered_value}
use Rattle.mst_rows.specs.Small.{Fits64, HasSmall, IsSmall, RowIsSmall}

-- ---- all numbers are, and nothing nests deep
record IsFlat (n : ℕ) (j : Json) : Type 0 where
  pub numbers : HasNumbers j
  pub flat : depth j ≤ n

record AreFlat (n : ℕ) (js : Items) : Type 0 where
  pub numbers : ItemsHaveNumbers js
  pub flat : items_depth js ≤ n

record HasFlat (n : ℕ) (ms : Members) : Type 0 where
  pub numbers : MembersHaveNumbers ms
  pub flat : members_depth ms ≤ n

flat_member : (n : ℕ) (k : List ℕ) (j : Json) (ms : Members) → IsFlat n j → HasFlat n ms → HasFlat n (member k j ms)
flat_member n k j ms one others = record { numbers = (one.numbers, others.numbers); flat = omega (arith, one.flat, others.flat) }

flat_item : (n : ℕ) (j : Json) (js : Items) → IsFlat n j → AreFlat n js → AreFlat n (item j js)
flat_item n j js one others = record { numbers = (one.numbers, others.numbers); flat = omega (arith, one.flat, others.flat) }

flat_array : (n : ℕ) (js : Items) → AreFlat n js → IsFlat (suc n) (array js)
flat_array n js h = record { numbers = h.numbers; flat = omega (arith, h.flat) }

flat_object : (n : ℕ) (ms : Members) → HasFlat n ms → IsFlat (suc n) (json.object ms)
flat_object n ms h = record { numbers = h.numbers; flat = omega (arith, h.flat) }

flat_nothing : (n : ℕ) → HasFlat n no_members
flat_nothing n = record { numbers = tt; flat = omega arith }

flat_null : (n : ℕ) → IsFlat n null
flat_null n = record { numbers = tt; flat = omega arith }

flat_flag : (n : ℕ) (b : Bool) → IsFlat n (boolean b)
flat_flag n b = record { numbers = tt; flat = omega arith }

flat_string : (n : ℕ) (s : List ℕ) → IsFlat n (string s)
flat_string n s = record { numbers = tt; flat = omega arith }

flat_natural : (n x : ℕ) → Fits64 x → IsFlat n (natural x)
flat_natural n x h = record { numbers = IsNumber-decimal x h; flat = omega arith }

-- a list of values, each of which is
flat_items : {A : Type 0} (n : ℕ) (f : A → Json) (P : A → Type 0) → ((x : A) → P x → IsFlat n (f x)) → (xs : List A) → AllByRecursion P xs → AreFlat n (items_of (map f xs))
flat_items n f P each [] h = record { numbers = tt; flat = omega arith }
flat_items n f P each (x ∷ xs) h = flat_item n (f x) (items_of (map f xs)) (each x h.0) (flat_items n f P each xs h.1)

flat_list : {A : Type 0} (n : ℕ) (f : A → Json) (P : A → Type 0) → ((x : A) → P x → IsFlat n (f x)) → (xs : List A) → AllByRecursion P xs → IsFlat (suc n) (list_value (map f xs))
flat_list n f P each xs h = flat_array n (items_of (map f xs)) (flat_items n f P each xs h)

-- a fact of each, which always holds
always : {A : Type 0} (xs : List A) → AllByRecursion (λ x. Unit {0}) xs
always [] = tt
always (x ∷ xs) = (tt, always xs)

deeper : (m n : ℕ) (j : Json) → m ≤ n → IsFlat m j → IsFlat n j
deeper m n j le h = record { numbers = h.numbers; flat = omega (arith, le, h.flat) }

-- ---- values
flat_place : (n : ℕ) (p : PortName) (ms : Members) → Fits64 p.number → HasFlat n ms → HasFlat n (place (string p.bridge) (natural p.number) ms)
flat_place n p ms small h =
    flat_member n (codes "bridge") (string p.bridge) (member (codes "port") (natural p.number) ms) (flat_string n p.bridge)
    (flat_member n (codes "port") (natural p.number) ms (flat_natural n p.number small) h)

flat_port : (p : PortName) → Fits64 p.number → IsFlat 1 (port_value p)
flat_port p h = flat_object 0 _ (flat_place 0 p no_members h (flat_nothing 0))

flat_active : (a : ActivePort) → Fits64 a.port.number → IsFlat 1 (active_value a)
flat_active a h = flat_object 0 _ (flat_place 0 a.port _ h (flat_member 0 (codes "member") (boolean a.is_member) no_members (flat_flag 0 a.is_member) (flat_nothing 0)))

flat_run : (run : ℕ × ℕ) → Fits64 run.0 × Fits64 run.1 → IsFlat 1 (run_value run)
flat_run run h = flat_array 0 _ (flat_item 0 (natural run.0) (item (natural run.1) no_items) (flat_natural 0 run.0 h.0)
    (flat_item 0 (natural run.1) no_items (flat_natural 0 run.1 h.1) (record { numbers = tt; flat = omega arith })))

flat_names : (ns : List (List ℕ)) → IsFlat 1 (names_value ns)
flat_names ns = flat_list 0 string (λ n. Unit {0}) (λ n h. flat_string 0 n) ns (always ns)

flat_fields : (fs : List (Key × Bare)) → AllByRecursion HasSmall fs → HasFlat 0 (fields fs)
flat_fields [] h = flat_nothing 0
flat_fields ((k, nothing) ∷ fs) h = flat_member 0 (key_text k) null (fields fs) (flat_null 0) (flat_fields fs h.1)
flat_fields ((k, text w) ∷ fs) h = flat_member 0 (key_text k) (string w) (fields fs) (flat_string 0 w) (flat_fields fs h.1)
flat_fields ((k, count n) ∷ fs) h = flat_member 0 (key_text k) (natural n) (fields fs) (flat_natural 0 n h.0) (flat_fields fs h.1)

flat_failed : (k n : List ℕ) → IsFlat 1 (json.object (member k (string n) no_members))
flat_failed k n = flat_object 0 _ (flat_member 0 k (string n) no_members (flat_string 0 n) (flat_nothing 0))

flat_scope : (n : ℕ) (s : PromiseScope) → IsFlat n (scope_value s)
flat_scope n scope.Now = flat_null n
flat_scope n scope.Always = flat_string n (codes "always")
flat_scope n scope.AfterLan = flat_string n (codes "after lan")
flat_scope n scope.AfterBridge = flat_string n (codes "after bridge")
flat_scope n scope.AfterRisk = flat_string n (codes "after risk")

flat_holds : (n : ℕ) (h : Option Bool) → IsFlat n (holds_value h)
flat_holds n None = flat_null n
flat_holds n (Some flag) = flat_flag n flag

flat_promise : (p : PromiseSaid) → Fits64 p.line × Fits64 p.networks → IsFlat 1 (promise_value p)
flat_promise p h =
    let told : HasFlat 0 (promise_told p) =
    flat_member 0 (key_text key.NetworkCount) (natural p.networks) _ (flat_natural 0 p.networks h.1) (flat_member 0 (key_text key.Holds) (holds_value p.holds) no_members (flat_holds 0 p.holds) (flat_nothing 0)) in
    flat_object 0 _ (flat_member 0 (key_text key.Line) (natural p.line) _ (flat_natural 0 p.line h.0) (flat_member 0 (key_text key.Promise) (string p.promise) _ (flat_string 0 p.promise)
    (flat_member 0 (key_text key.Scope) (scope_value p.scope) _ (flat_scope 0 p.scope) (flat_member 0 (key_text key.Finally) (boolean p.is_final) _ (flat_flag 0 p.is_final) told))))

flat_cell : (c : Cell) → IsSmall c → IsFlat 2 (cell_value c)
flat_cell absent h = flat_null 2
flat_cell own h = flat_null 2
flat_cell (word w) h = flat_string 2 w
flat_cell (number n) h = flat_natural 2 n h
flat_cell (port p) h = deeper 1 2 _ (omega arith) (flat_port p h)
flat_cell (vids runs) h = flat_list 1 run_value _ flat_run runs h
flat_cell (names ns) h = deeper 1 2 _ (omega arith) (flat_names ns)
flat_cell (ports ps) h = flat_list 1 port_value _ flat_port ps h
flat_cell (trees ts) h = deeper 1 2 _ (omega arith) (flat_list 0 natural Fits64 (flat_natural 0) ts h)
flat_cell (groups gs) h = flat_list 1 names_value (λ g. Unit {0}) (λ g h. flat_names g) gs (always gs)
flat_cell (active ps) h = flat_list 1 active_value _ flat_active ps h
flat_cell (object fs) h = deeper 1 2 _ (omega arith) (flat_object 0 (fields fs) (flat_fields fs h))
flat_cell (failed_lan n) h = deeper 1 2 _ (omega arith) (flat_failed (codes "lan") n)
flat_cell (failed_bridge n) h = deeper 1 2 _ (omega arith) (flat_failed (codes "bridge") n)
flat_cell (failed_risk n) h = deeper 1 2 _ (omega arith) (flat_failed (codes "risk") n)
flat_cell no_failure h = flat_null 2
flat_cell (lines first last) h = deeper 1 2 _ (omega arith) (flat_run (first, last) h)
flat_cell (promises ps) h = flat_list 1 promise_value _ flat_promise ps h

-- ---- rows
small_first : (cs : List Cell) → AllByRecursion IsSmall cs → IsSmall (first_cell cs)
small_first [] h = tt
small_first (c ∷ cs) h = h.0

small_others : (cs : List Cell) → AllByRecursion IsSmall cs → AllByRecursion IsSmall (other_cells cs)
small_others [] h = tt
small_others (c ∷ cs) h = h.1

flat_bridge : (n : ℕ) (c : Cell) → IsFlat n (bridge_value c)
flat_bridge n (port p) = flat_string n p.bridge
flat_bridge n c = flat_null n

flat_number : (n : ℕ) (c : Cell) → IsSmall c → IsFlat n (number_value c)
flat_number n (port p) h = flat_natural n p.number h
flat_number n c h = flat_null n

-- the member of a value, before others
flat_value : (n : ℕ) → 2 ≤ n → (k : List ℕ) (cs : List Cell) (ms : Members) → AllByRecursion IsSmall cs → HasFlat n ms → HasFlat n (member k (cell_value (first_cell cs)) ms)
flat_value n le k cs ms small h = flat_member n k (cell_value (first_cell cs)) ms (deeper 2 n _ le (flat_cell (first_cell cs) (small_first cs small))) h

flat_own : (n : ℕ) (cs : List Cell) (ms : Members) → AllByRecursion IsSmall cs → HasFlat n ms → HasFlat n (place (bridge_value (first_cell cs)) (number_value (first_cell cs)) ms)
flat_own n cs ms small h =
    flat_member n (codes "bridge") (bridge_value (first_cell cs)) (member (codes "port") (number_value (first_cell cs)) ms) (flat_bridge n (first_cell cs))
    (flat_member n (codes "port") (number_value (first_cell cs)) ms (flat_number n (first_cell cs) (small_first cs small)) h)

flat_parts : (n : ℕ) → 2 ≤ n → (ps : List Part) (cs : List Cell) (ms : Members) → AllByRecursion IsSmall cs → HasFlat n ms → HasFlat n (parts_members ps cs ms)
flat_parts n le [] cs ms small h = h
flat_parts n le (part.Mark m ∷ ps) cs ms small h = flat_parts n le ps cs ms small h
flat_parts n le (part.Key k ∷ ps) cs ms small h = flat_value n le (key_text k) cs _ small (flat_parts n le ps (other_cells cs) ms (small_others cs small) h)
flat_parts n le (part.Commas k ∷ ps) cs ms small h = flat_value n le (key_text k) cs _ small (flat_parts n le ps (other_cells cs) ms (small_others cs small) h)
flat_parts n le (part.Above k ∷ ps) cs ms small h = flat_value n le (key_text k) cs _ small (flat_parts n le ps (other_cells cs) ms (small_others cs small) h)
flat_parts n le (part.Said k m ∷ ps) cs ms small h = flat_member n (key_text k) (string (mark_text m)) _ (flat_string n (mark_text m)) (flat_parts n le ps cs ms small h)
flat_parts n le (part.Told k m ∷ ps) cs ms small h = flat_member n (key_text k) (string (mark_text m)) _ (flat_string n (mark_text m)) (flat_parts n le ps cs ms small h)
flat_parts n le (part.Port ∷ ps) cs ms small h = flat_own n cs _ small (flat_parts n le ps (other_cells cs) ms (small_others cs small) h)
flat_parts n le (part.AbovePort ∷ ps) cs ms small h = flat_own n cs _ small (flat_parts n le ps (other_cells cs) ms (small_others cs small) h)

flat_row : (n : ℕ) → 2 ≤ n → (k : List ℕ) (row : Row) (ms : Members) → RowIsSmall row → HasFlat n ms → HasFlat n (row_members k row ms)
flat_row n le k row ms small h =
    flat_member n k (string (mark_text (first_of row.kind))) (parts_members (parts_of row.kind) row.cells ms) (flat_string n (mark_text (first_of row.kind)))
    (flat_parts n le (parts_of row.kind) row.cells ms small h)

flat_record : (row : Row) → RowIsSmall row → IsFlat 3 (record_value row)
flat_record row small = flat_object 2 _ (flat_row 2 (omega arith) (codes "kind") row no_members small (flat_nothing 2))

-- ---- answers
flat_answer : (line : Option ℕ) (query : Row) (rows : List Row) → ForSome line (λ n. n < 2 ^ 64) → RowIsSmall query → AllByRecursion RowIsSmall rows → IsFlat 5 (answer_value line query rows)
flat_answer line query rows h words small = by_line line h
  where
    last : Members
    last = member (codes "records") (list_value (map record_value rows)) no_members

    others : HasFlat 4 (row_members (codes "query") query last)
    others = flat_row 4 (omega arith) (codes "query") query last words (flat_member 4 (codes "records") (list_value (map record_value rows)) no_members (flat_list 3 record_value RowIsSmall flat_record rows small) (flat_nothing 4))

    by_line : (line : Option ℕ) → ForSome line (λ n. n < 2 ^ 64) → IsFlat 5 (answer_value line query rows)
    by_line None h = flat_object 4 _ others
    by_line (Some n) h = flat_object 4 _ (flat_member 4 (codes "line") (natural n) _ (flat_natural 4 n (h n refl)) others)

pub answer_again : (line : Option ℕ) (query : Row) (rows : List Row) → ForSome line (λ n. n < 2 ^ 64) → RowIsSmall query → AllByRecursion RowIsSmall rows
    → document (json_text (answer_value line query rows)) ≡ Some (answer_value line query rows)
unfolding json_text
answer_again line query rows h words small =
    let flat = flat_answer line query rows h words small in
    document-print (answer_value line query rows) flat.numbers (omega (arith, flat.flat))

-- ---- records alone, and refusals
pub record_again : (row : Row) → RowIsSmall row → document (json_text (record_value row)) ≡ Some (record_value row)
unfolding json_text
record_again row small = let flat = flat_record row small in document-print (record_value row) flat.numbers (omega (arith, flat.flat))

pub refusal_again : (row : Row) → RowIsSmall row → document (json_text (refusal_value row)) ≡ Some (refusal_value row)
unfolding json_text
refusal_again row small =
    let flat = flat_object 2 _ (flat_parts 2 (omega arith) (parts_of row.kind) row.cells no_members small (flat_nothing 2)) in
    document-print (refusal_value row) flat.numbers (omega (arith, flat.flat))

pub unanswered_again : (row : Row) → RowIsSmall row → document (json_text (unanswered_value row)) ≡ Some (unanswered_value row)
unfolding json_text
unanswered_again row small =
    let flat = flat_object 2 _ (flat_row 2 (omega arith) (codes "query") row no_members small (flat_nothing 2)) in
    document-print (unanswered_value row) flat.numbers (omega (arith, flat.flat))
