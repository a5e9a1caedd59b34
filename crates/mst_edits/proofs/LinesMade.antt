-- Lines that are made one after another.
use Rattle.std.proofs.Common.{◌≡◌, ℕ, ◌+◌, ◌<◌, ◌≤◌, Bool, true, false, ◌&&◌, ◌||◌, List, [], ◌∷◌, ◌++◌, length, map, replicate, ◌-◌, take, drop, get_or, not, refl, sym, ap, ◌∙◌, append_assoc, length-drop, arith}
use Rattle.std.specs.Prelude.{◌==◌, if◌then◌else◌}
use Rattle.std.specs.List.{flat_map}
use Rattle.std.proofs.lemmas.List.{map-append, take_more, take_all, at_drop_more}
use Rattle.std.proofs.lemmas.List.FromFn.{length-map-range_with_len}
use Rattle.mst_ids.specs.Vids.{has, is_vid, runs_from}
use Rattle.mst_ids.specs.VidBits.{length-set_where, has-set_where}
use Rattle.mst_ids.proofs.VidSetLemmas.{set_where-same}
use Rattle.mst_ids.proofs.VidTextLemmas.{no_next_run}
use Rattle.mst_lang.specs.declared.line.Edit.{Edit}
use Rattle.mst_net.specs.tables.Table.{no_table, tree_in, mapped, mstis_in}
use Rattle.mst_edits.specs.EditLine.{no_vids}
use Rattle.mst_edits.specs.Runs.{vids_of}
use Rattle.mst_edits.specs.TableLines.{vids_in, fits, cut, move, edit_of, moves_to, moved_to, gathered, gathered_first, is_one_line, with_tree, with_way, with_ways, table_after, table_edits}
use Rattle.mst_edits.proofs.Cuts.{vids_in_is}
use Rattle.mst_edits.proofs.Sets.{set_of_has}
use Rattle.mst_edits.specs.declared.moves.Move.{Move}

pub length-mapped : (vids : List Bool) (tree : ℕ) (table : List ℕ) → length (mapped vids tree table) ≡ 4094
unfolding mapped
length-mapped vids tree table = length-map-range_with_len (λ vid. if has vids vid then tree else tree_in table vid) 1 4094

pub length-after : (lines : List Move) (now : List ℕ) → length now ≡ 4094 → length (table_after now lines) ≡ 4094
length-after [] now long = long
length-after (line ∷ lines) now long = length-after lines (mapped line.vids line.tree now) (length-mapped line.vids line.tree now)

-- ---- one more line
line_taken : (lines : List Move) (i : ℕ) (line : Move) → i < length lines → line ≡ get_or lines i line → take (i + 1) lines ≡ take i lines ++ line ∷ []
line_taken lines i line below is = take_more lines i line below ∙ ap (λ l. take i lines ++ l ∷ []) (sym is)

pub edit_made : (name : List ℕ) (lines : List Move) (i : ℕ) (line : Move) (old now new : List Edit) → i < length lines → line ≡ get_or lines i line → now ≡ old ++ map (edit_of name) (take i lines) → new ≡ now ++ edit_of name line ∷ []
    → new ≡ old ++ map (edit_of name) (take (i + 1) lines)
edit_made name lines i line old now new below is so_far more =
    more ∙ ap (λ (l : List Edit). l ++ edit_of name line ∷ []) so_far ∙ append_assoc old (map (edit_of name) (take i lines)) (edit_of name line ∷ [])
    ∙ ap (λ (l : List Edit). old ++ l) (sym (ap (map (edit_of name)) (line_taken lines i line below is) ∙ map-append (edit_of name) (take i lines) (line ∷ [])))

pub after_append : (xs ys : List Move) (now : List ℕ) → table_after now (xs ++ ys) ≡ table_after (table_after now xs) ys
after_append [] ys now = refl
after_append (x ∷ xs) ys now = after_append xs ys (mapped x.vids x.tree now)

pub table_made : (lines : List Move) (i : ℕ) (line : Move) (old now new : List ℕ) → i < length lines → line ≡ get_or lines i line → now ≡ table_after old (take i lines) → new ≡ mapped line.vids line.tree now → new ≡ table_after old (take (i + 1) lines)
table_made lines i line old now new below is so_far more =
    more ∙ ap (mapped line.vids line.tree) so_far ∙ sym (ap (table_after old) (line_taken lines i line below is) ∙ after_append (take i lines) (line ∷ []) old)

-- ---- trees that are gathered
pub gathered_more : (name table : List ℕ) (vids : List Bool) (trees : List ℕ) (i tree : ℕ) (t : Bool) → i < length trees → tree ≡ get_or trees i tree → is_one_line name (with_tree table vids tree) ≡ t
    → gathered name table vids (drop i trees) ≡ (if t then gathered name table (with_tree table vids tree) (drop (i + 1) trees) else vids)
gathered_more name table vids trees i tree t below is one =
    at_drop_more (gathered name table vids) trees i tree below ∙ ap (λ x. gathered name table vids (x ∷ drop (i + 1) trees)) (sym is)
    ∙ ap (λ b. if b then gathered name table (with_tree table vids tree) (drop (i + 1) trees) else vids) one

-- the first of some trees
pub with_none : (table : List ℕ) (tree : ℕ) (none : List Bool) → none ≡ no_vids → with_tree table none tree ≡ vids_in table tree
with_none table tree none is =
    ap (λ s. with_tree table s tree) is
    ∙ set_where-same (λ v. has no_vids v || has (vids_in table tree) v) (has (vids_in table tree)) (λ n small. ap (λ b. b || has (vids_in table tree) n) (has-set_where (λ _. false) n small))
    ∙ sym (set_of_has (vids_in table tree) (vids_in_is table tree))

pub first_is : (name table trees : List ℕ) (tree : ℕ) (t : Bool) → 1 ≤ length trees → tree ≡ get_or trees 0 tree → is_one_line name (vids_in table tree) ≡ t
    → gathered_first name table trees ≡ (if t then gathered name table (vids_in table tree) (drop 1 trees) else vids_in table tree)
first_is name table trees tree t below is one =
    at_drop_more (gathered_first name table) trees 0 tree below ∙ ap (λ x. gathered_first name table (x ∷ drop 1 trees)) (sym is)
    ∙ ap (λ b. if b then gathered name table (vids_in table tree) (drop 1 trees) else vids_in table tree) one

-- ---- lines with those before them
pub ways_step : (name after : List ℕ) (x : Move) (xs : List Move) (s : List ℕ)
    → map (edit_of name) (with_ways name after s (x ∷ xs)) ≡ map (edit_of name) (with_way name after s x) ++ map (edit_of name) (with_ways name after (table_after s (with_way name after s x)) xs)
ways_step name after x xs s = map-append (edit_of name) (with_way name after s x) (with_ways name after (table_after s (with_way name after s x)) xs)

-- ---- a table that stays
none_moved : (table : List ℕ) (tree : ℕ) → moved_to table table tree ≡ no_vids
none_moved table tree = set_where-same (λ vid. is_vid vid && (tree_in table vid == tree && not (tree_in table vid == tree))) (λ _. false) (λ n small. by (is_vid n) (tree_in table n == tree))
  where
    by : (a b : Bool) → (a && (b && not b)) ≡ false
    by false b = refl
    by true false = refl
    by true true = refl

pub no_runs : runs_from 0 no_vids ≡ []
no_runs = no_next_run no_vids 0 4096 (omega arith) (sym (length-set_where (λ _. false))) (λ k low high. has-set_where (λ _. false) k high)

pub no_moves : (name : List ℕ) (tree : ℕ) (vids : List Bool) → vids ≡ no_vids → moves_to name tree vids ≡ []
no_moves name tree vids none = ap (moves_to name tree) none ∙ ap (λ rs. map (λ runs. move tree (vids_of runs)) (cut (fits name tree) rs)) no_runs

pub flat_none : {A B : Type 0} (f : A → List B) → ((x : A) → f x ≡ []) → (xs : List A) → flat_map f xs ≡ []
flat_none f none [] = refl
flat_none f none (x ∷ xs) = ap (λ (l : List _). l ++ flat_map f xs) (none x) ∙ flat_none f none xs

pub no_table_edits : (name table : List ℕ) → table_edits name table table ≡ []
no_table_edits name table =
    ap (λ lines. map (edit_of name) (with_ways name table table lines)) (flat_none (λ tree. moves_to name tree (moved_to table table tree)) (λ tree. no_moves name tree (moved_to table table tree) (none_moved table tree)) (0 ∷ mstis_in table))

-- the table of a new bridge
pub new_table : (tree : ℕ) → tree ≡ 0 → replicate 4094 tree ≡ no_table
unfolding no_table
new_table tree is = ap (replicate 4094) is

-- all but the first
pub others_are : (xs : List ℕ) → take (length xs - 1) (drop 1 xs) ≡ drop 1 xs
others_are xs = let l = length-drop 1 xs in take_all (length xs - 1) (drop 1 xs) (omega (arith, l))
