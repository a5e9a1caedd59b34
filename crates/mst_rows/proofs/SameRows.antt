-- Two rows that fit and have one JSON are one.
use Rattle.std.proofs.Common.{◌≡◌, ◌∙◌, ℕ, Bool, true, false, List, [], ◌∷◌, map, refl, sym, ap, ap₂, subst}
use Rattle.std.proofs.lemmas.Bool.{and_parts}
use Rattle.std.specs.List.{AllByRecursion, AllZip, flat_map, list_all}
use Rattle.std.specs.Prelude.{codes, if◌then◌else◌, not}
use Rattle.json.specs.Json.{Json, null, boolean, string, array, Members, no_members, member}
use Rattle.json.specs.Json as json
use Rattle.mst_kinds.specs.Kinds.{first_of, parts_of}
use Rattle.mst_kinds.specs.Words.{key_text, mark_text}
use Rattle.mst_kinds.specs.Shapes.{is_worded, keeps_words, shape_at, shape_of}
use Rattle.mst_kinds.specs.Sorts.{sort_of, sorts_at}
use Rattle.mst_kinds.specs.declared.kind.Kind.{Kind}
use Rattle.mst_kinds.specs.declared.part.Part.{Part}
use Rattle.mst_kinds.specs.declared.part.Part.TheVariants as part
use Rattle.mst_kinds.proofs.Table.{kinds_differ, words_kept}
use Rattle.mst_rows.specs.Cells.{Cell}
use Rattle.mst_rows.specs.Rows.{Row, row_of, left_cells}
use Rattle.mst_rows.specs.Records.{bridge_value, cell_value, list_value, number_value, parts_members, record_value}
use Rattle.mst_rows.specs.Small.{IsSmall}
use Rattle.mst_rows.specs.Fits.{Fits, IsOf}
use Rattle.mst_rows.proofs.SameCells.{same_array, same_cell, same_own}

-- ---- the kind of a record
abbrev string_of : Json → List ℕ
string_of (string s) = s
string_of j = []

abbrev members_shape : Members → List (List ℕ × List ℕ)
members_shape no_members = []
members_shape (member k j ms) = (k, if is_worded k then string_of j else []) ∷ members_shape ms

abbrev first_shape : Members → List ℕ × List (List ℕ × List ℕ)
first_shape no_members = ([], [])
first_shape (member k j ms) = (string_of j, members_shape ms)

abbrev record_shape : Json → List ℕ × List (List ℕ × List ℕ)
record_shape (json.object ms) = first_shape ms
record_shape j = ([], [])

-- of a key for which a value stands, and of one for which a word does
if_value : (b : Bool) (s : List ℕ) → not b ≡ true → (if b then s else []) ≡ []
if_value true s h = absurd (cc)
if_value false s h = refl

if_word : (b : Bool) (s : List ℕ) → b ≡ true → (if b then s else []) ≡ s
if_word true s h = refl
if_word false s h = absurd (cc)

if_none : (b : Bool) (s : List ℕ) → s ≡ [] → (if b then s else []) ≡ s
if_none true s h = refl
if_none false s h = sym h

word_kept : (name w : List ℕ) → keeps_words (name, w) ≡ true → (if is_worded name then w else []) ≡ w
word_kept name [] h = if_none (is_worded name) [] refl
word_kept name (x ∷ xs) h = if_word (is_worded name) (x ∷ xs) h

behind : (name s t : List ℕ) (ms ns : List (List ℕ × List ℕ)) → s ≡ t → ms ≡ ns → (name, s) ∷ ms ≡ (name, t) ∷ ns
behind name s t ms ns e f i = (name, e i) ∷ f i

parts_shape : (ps : List Part) (cs : List Cell) → list_all keeps_words (flat_map shape_at ps) ≡ true → members_shape (parts_members ps cs no_members) ≡ flat_map shape_at ps
parts_shape [] cs h = refl
parts_shape (part.Mark m ∷ ps) cs h = parts_shape ps cs h
parts_shape (part.Key k ∷ ps) cs h =
    let both = and_parts (keeps_words (key_text k, [])) (list_all keeps_words (flat_map shape_at ps)) h in
    behind (key_text k) _ [] _ _ (if_value (is_worded (key_text k)) _ both.0) (parts_shape ps (left_cells (part.Key k) cs) both.1)
parts_shape (part.Commas k ∷ ps) cs h =
    let both = and_parts (keeps_words (key_text k, [])) (list_all keeps_words (flat_map shape_at ps)) h in
    behind (key_text k) _ [] _ _ (if_value (is_worded (key_text k)) _ both.0) (parts_shape ps (left_cells (part.Commas k) cs) both.1)
parts_shape (part.Above k ∷ ps) cs h =
    let both = and_parts (keeps_words (key_text k, [])) (list_all keeps_words (flat_map shape_at ps)) h in
    behind (key_text k) _ [] _ _ (if_value (is_worded (key_text k)) _ both.0) (parts_shape ps (left_cells (part.Above k) cs) both.1)
parts_shape (part.Said k m ∷ ps) cs h =
    let both = and_parts (keeps_words (key_text k, mark_text m)) (list_all keeps_words (flat_map shape_at ps)) h in
    behind (key_text k) _ (mark_text m) _ _ (word_kept (key_text k) (mark_text m) both.0) (parts_shape ps cs both.1)
parts_shape (part.Told k m ∷ ps) cs h =
    let both = and_parts (keeps_words (key_text k, mark_text m)) (list_all keeps_words (flat_map shape_at ps)) h in
    behind (key_text k) _ (mark_text m) _ _ (word_kept (key_text k) (mark_text m) both.0) (parts_shape ps cs both.1)
parts_shape (part.Port ∷ ps) cs h =
    let rest = list_all keeps_words (flat_map shape_at ps) in
    let one = and_parts (keeps_words (codes "bridge", [])) _ h in
    let both = and_parts (keeps_words (codes "port", [])) rest one.1 in
    behind (codes "bridge") _ [] _ _ (if_value (is_worded (codes "bridge")) _ one.0)
    (behind (codes "port") _ [] _ _ (if_value (is_worded (codes "port")) _ both.0) (parts_shape ps (left_cells part.Port cs) both.1))
parts_shape (part.AbovePort ∷ ps) cs h =
    let rest = list_all keeps_words (flat_map shape_at ps) in
    let one = and_parts (keeps_words (codes "bridge", [])) _ h in
    let both = and_parts (keeps_words (codes "port", [])) rest one.1 in
    behind (codes "bridge") _ [] _ _ (if_value (is_worded (codes "bridge")) _ one.0)
    (behind (codes "port") _ [] _ _ (if_value (is_worded (codes "port")) _ both.0) (parts_shape ps (left_cells part.AbovePort cs) both.1))

shape_is : (row : Row) → record_shape (record_value row) ≡ shape_of row.kind
shape_is row = ap (λ (ms : List (List ℕ × List ℕ)). (mark_text (first_of row.kind), ms)) (parts_shape (parts_of row.kind) row.cells (words_kept row.kind))

same_kind : (r q : Row) → record_value r ≡ record_value q → r.kind ≡ q.kind
same_kind r q e = kinds_differ r.kind q.kind (sym (shape_is r) ∙ ap record_shape e ∙ shape_is q)

-- ---- its values
same_cells : (ps : List Part) (cs ds : List Cell) → AllZip IsOf (flat_map sorts_at ps) cs → AllZip IsOf (flat_map sorts_at ps) ds → AllByRecursion IsSmall cs → AllByRecursion IsSmall ds
    → parts_members ps cs no_members ≡ parts_members ps ds no_members → cs ≡ ds
same_cells [] [] [] is are h k e = refl
same_cells [] [] (d ∷ ds) is are h k e = absurd are
same_cells [] (c ∷ cs) ds is are h k e = absurd is
same_cells (part.Mark m ∷ ps) cs ds is are h k e = same_cells ps cs ds is are h k e
same_cells (part.Said w m ∷ ps) cs ds is are h k e =
    let others : parts_members ps cs no_members ≡ parts_members ps ds no_members = cc in same_cells ps cs ds is are h k others
same_cells (part.Told w m ∷ ps) cs ds is are h k e =
    let others : parts_members ps cs no_members ≡ parts_members ps ds no_members = cc in same_cells ps cs ds is are h k others
same_cells (part.Key w ∷ ps) [] ds is are h k e = absurd is
same_cells (part.Key w ∷ ps) (c ∷ cs) [] is are h k e = absurd are
same_cells (part.Key w ∷ ps) (c ∷ cs) (d ∷ ds) is are h k e =
    let value : cell_value c ≡ cell_value d = cc in
    let others : parts_members ps cs no_members ≡ parts_members ps ds no_members = cc in
    ap₂ ◌∷◌ (same_cell (sort_of w) c d is.0 are.0 h.0 k.0 value) (same_cells ps cs ds is.1 are.1 h.1 k.1 others)
same_cells (part.Commas w ∷ ps) [] ds is are h k e = absurd is
same_cells (part.Commas w ∷ ps) (c ∷ cs) [] is are h k e = absurd are
same_cells (part.Commas w ∷ ps) (c ∷ cs) (d ∷ ds) is are h k e =
    let value : cell_value c ≡ cell_value d = cc in
    let others : parts_members ps cs no_members ≡ parts_members ps ds no_members = cc in
    ap₂ ◌∷◌ (same_cell (sort_of w) c d is.0 are.0 h.0 k.0 value) (same_cells ps cs ds is.1 are.1 h.1 k.1 others)
same_cells (part.Above w ∷ ps) [] ds is are h k e = absurd is
same_cells (part.Above w ∷ ps) (c ∷ cs) [] is are h k e = absurd are
same_cells (part.Above w ∷ ps) (c ∷ cs) (d ∷ ds) is are h k e =
    let value : cell_value c ≡ cell_value d = cc in
    let others : parts_members ps cs no_members ≡ parts_members ps ds no_members = cc in
    ap₂ ◌∷◌ (same_cell (sort_of w) c d is.0 are.0 h.0 k.0 value) (same_cells ps cs ds is.1 are.1 h.1 k.1 others)
same_cells (part.Port ∷ ps) [] ds is are h k e = absurd is
same_cells (part.Port ∷ ps) (c ∷ cs) [] is are h k e = absurd are
same_cells (part.Port ∷ ps) (c ∷ cs) (d ∷ ds) is are h k e =
    let bridge : bridge_value c ≡ bridge_value d = cc in
    let port_number : number_value c ≡ number_value d = cc in
    let others : parts_members ps cs no_members ≡ parts_members ps ds no_members = cc in
    ap₂ ◌∷◌ (same_own c d is.0 are.0 h.0 k.0 bridge port_number) (same_cells ps cs ds is.1 are.1 h.1 k.1 others)
same_cells (part.AbovePort ∷ ps) [] ds is are h k e = absurd is
same_cells (part.AbovePort ∷ ps) (c ∷ cs) [] is are h k e = absurd are
same_cells (part.AbovePort ∷ ps) (c ∷ cs) (d ∷ ds) is are h k e =
    let bridge : bridge_value c ≡ bridge_value d = cc in
    let port_number : number_value c ≡ number_value d = cc in
    let others : parts_members ps cs no_members ≡ parts_members ps ds no_members = cc in
    ap₂ ◌∷◌ (same_own c d is.0 are.0 h.0 k.0 bridge port_number) (same_cells ps cs ds is.1 are.1 h.1 k.1 others)

-- ---- rows
-- of one kind
same_of_kind : (kind : Kind) (cs ds : List Cell) → Fits (row_of kind cs) → Fits (row_of kind ds) → record_value (row_of kind cs) ≡ record_value (row_of kind ds) → row_of kind cs ≡ row_of kind ds
same_of_kind kind cs ds is are e =
    let inside : parts_members (parts_of kind) cs no_members ≡ parts_members (parts_of kind) ds no_members = cc in
    ap (row_of kind) (same_cells (parts_of kind) cs ds is.typed are.typed is.small are.small inside)

pub same_row : (r q : Row) → Fits r → Fits q → record_value r ≡ record_value q → r ≡ q
same_row r q is are e =
    let OfKind : Kind → Type 0 = λ kind. (ds : List Cell) → Fits (row_of kind ds) → record_value r ≡ record_value (row_of kind ds) → r ≡ row_of kind ds in
    subst OfKind (same_kind r q e) (λ ds fits same. same_of_kind r.kind r.cells ds is fits same) q.cells are e

pub same_records : (rs qs : List Row) → AllByRecursion Fits rs → AllByRecursion Fits qs → list_value (map record_value rs) ≡ list_value (map record_value qs) → rs ≡ qs
same_records rs qs is are e = same_array record_value Fits same_row rs qs is are e
