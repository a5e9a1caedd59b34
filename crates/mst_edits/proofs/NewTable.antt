-- The lines of a new bridge's table: none has to go before another one.
use Rattle.std.proofs.Common.{◌≡◌, ℕ, ◌<◌, ◌≤◌, Bool, true, false, ◌&&◌, List, [], ◌∷◌, ◌++◌, map, not, refl, sym, ap, ◌∙◌, arith}
use Rattle.std.specs.Prelude.{◌==◌, if◌then◌else◌}
use Rattle.std.specs.List.{flat_map, list_any, AllByRecursion}
use Rattle.std.proofs.lemmas.Bool.{le-ltb, eqb-true, eq-eqb, and_parts, or_left, or_right}
use Rattle.mst_ids.specs.Vids.{has, is_vid, runs_from, IsVidSet}
use Rattle.mst_ids.specs.VidBits.{has-set_where}
use Rattle.mst_ids.proofs.VidRangeLemmas.{is_vid_set}
use Rattle.mst_ids.proofs.VidSetLemmas.{set_where-same}
use Rattle.mst_net.specs.tables.Table.{no_table, tree_in, mapped, mstis_in, tree_count}
use Rattle.mst_net.proofs.tables_lemmas.TableFits.{tree_in-no_table}
use Rattle.mst_edits.specs.EditLine.{no_vids}
use Rattle.mst_edits.specs.Runs.{vids_of}
use Rattle.mst_edits.specs.TableLines.{fits, cut, move, edit_of, moves_to, moved_to, direct_moves, crowds, ways, with_ways, table_after, table_edits}
use Rattle.mst_edits.specs.declared.moves.Move.{Move}
use Rattle.mst_edits.proofs.Lists.{all_flat}
use Rattle.mst_edits.proofs.RunLemmas.{covers, set_of_runs}
use Rattle.mst_edits.proofs.Cuts.{some_line}
use Rattle.mst_edits.proofs.TreesMapped.{IsUnder, under-no_table, under-mapped, under_count}
use Rattle.mst_edits.proofs.LinesMade.{no_moves}

-- each VID of a line is one of all the lines'
lines_own : (tree v t : ℕ) (lines : List (List (ℕ × ℕ))) → (list_any (λ runs. has (vids_of runs) v) lines ≡ true → t ≡ tree) → AllByRecursion (λ (l : Move). has l.vids v ≡ true → t ≡ l.tree) (map (λ runs. move tree (vids_of runs)) lines)
lines_own tree v t [] h = tt
lines_own tree v t (runs ∷ lines) h = (
  λ e. h (or_left (has (vids_of runs) v) (list_any (λ rs. has (vids_of rs) v) lines) e),
  lines_own tree v t lines (λ e. h (or_right (has (vids_of runs) v) (list_any (λ rs. has (vids_of rs) v) lines) e)),
)

few_then : (x y : ℕ) → x ≤ y → y ≤ 64 → x ≤ 64
few_then x y h i = omega (arith, h, i)

not_both : (a b c : Bool) → c ≡ true → (a && (b && not c)) ≡ false
not_both false b c e = refl
not_both true false c e = refl
not_both true true c e = ap not e

module _ (name after : List ℕ) where
  set_is : (tree : ℕ) → IsVidSet (moved_to no_table after tree)
  set_is tree = is_vid_set (λ vid. is_vid vid && (tree_in after vid == tree && not (tree_in no_table vid == tree))) refl refl

  wanted : (tree v : ℕ) → v < 4096 → has (moved_to no_table after tree) v ≡ true → tree_in after v ≡ tree
  wanted tree v small h =
      let both = and_parts (is_vid v) (tree_in after v == tree && not (tree_in no_table v == tree)) (sym (has-set_where (λ vid. is_vid vid && (tree_in after vid == tree && not (tree_in no_table vid == tree))) v small) ∙ h) in
      eqb-true (tree_in after v) tree (and_parts (tree_in after v == tree) (not (tree_in no_table v == tree)) both.1).0

  some : (tree v : ℕ) → v < 4096 → list_any (λ runs. has (vids_of runs) v) (cut (fits name tree) (runs_from 0 (moved_to no_table after tree))) ≡ has (moved_to no_table after tree) v
  some tree v small =
      let vids = moved_to no_table after tree in
      (λ i. list_any (λ line. has-set_where (covers line) v small i) (cut (fits name tree) (runs_from 0 vids)))
      ∙ some_line (fits name tree) (runs_from 0 vids) v
      ∙ sym (has-set_where (covers (runs_from 0 vids)) v small) ∙ ap (λ s. has s v) (set_of_runs vids (set_is tree))

  keeps : (v : ℕ) → v < 4096 → AllByRecursion (λ (l : Move). has l.vids v ≡ true → tree_in after v ≡ l.tree) (direct_moves name no_table after)
  keeps v small =
      all_flat (λ (l : Move). has l.vids v ≡ true → tree_in after v ≡ l.tree) (λ tree. moves_to name tree (moved_to no_table after tree)) (0 ∷ mstis_in after)
      (λ tree. lines_own tree v (tree_in after v) (cut (fits name tree) (runs_from 0 (moved_to no_table after tree))) (λ e. wanted tree v small (sym (some tree v small) ∙ e)))

  -- while each tree is a wanted one there is room
  plain : (lines : List Move) (now : List ℕ) → IsUnder now after → tree_count after ≤ 64 → ((v : ℕ) → v < 4096 → AllByRecursion (λ (l : Move). has l.vids v ≡ true → tree_in after v ≡ l.tree) lines) → with_ways name after now lines ≡ lines
  plain [] now under few each = refl
  plain (line ∷ lines) now under few each =
      let under_then = under-mapped line.vids line.tree now after (λ v small. (each v small).0) under in
      let room : crowds now line ≡ false = le-ltb 64 (tree_count (mapped line.vids line.tree now)) (few_then (tree_count (mapped line.vids line.tree now)) (tree_count after) (under_count (mapped line.vids line.tree now) after under_then) few) in
      ap (λ (b : Bool). ((if b then ways name after now line else []) ++ line ∷ []) ++ with_ways name after (table_after now ((if b then ways name after now line else []) ++ line ∷ [])) lines) room
      ∙ ap (λ (ls : List Move). line ∷ ls) (plain lines (mapped line.vids line.tree now) under_then few (λ v small. (each v small).1))

  pub new_lines : tree_count after ≤ 64 → table_edits name no_table after ≡ map (edit_of name) (direct_moves name no_table after)
  new_lines few = ap (map (edit_of name)) (plain (direct_moves name no_table after) no_table (under-no_table after) few keeps)

  -- no VID is moved to tree 0
  none_stays : moved_to no_table after 0 ≡ no_vids
  none_stays = set_where-same (λ vid. is_vid vid && (tree_in after vid == 0 && not (tree_in no_table vid == 0))) (λ _. false) (λ n small. not_both (is_vid n) (tree_in after n == 0) (tree_in no_table n == 0) (eq-eqb (tree_in no_table n) 0 (tree_in-no_table n)))

  pub no_lines : mstis_in after ≡ [] → table_edits name no_table after ≡ []
  no_lines none = ap (λ lines. map (edit_of name) (with_ways name after no_table lines)) (λ i. no_moves name 0 (moved_to no_table after 0) none_stays i ++ flat_map (λ tree. moves_to name tree (moved_to no_table after tree)) (none i))
