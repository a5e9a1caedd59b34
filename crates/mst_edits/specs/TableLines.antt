-- The lines that make one table of VIDs of another, none of which makes a 65th tree.
use Rattle.std.specs.Prelude.{◌==◌, ◌&&◌, ◌||◌, ℕ, Bool, not, List, [], ◌∷◌, ◌++◌, map, length, nat_le, nat_lt, if◌then◌else◌}
use Rattle.std.specs.List.{flat_map, filter}
use Rattle.mst_ids.specs.Vids.{is_vid, has, set_where, runs_from}
use Rattle.mst_lang.specs.declared.line.Edit.{Edit}
use Rattle.mst_lang.specs.declared.line.Edit.TheVariants.{SetByTree}
use Rattle.mst_lang.specs.declared.line.TreeChange.TheVariants.{Table}
use Rattle.mst_net.specs.tables.Table.{tree_in, has_tree, mapped, mstis_in, tree_count}
use Rattle.mst_edits.specs.EditLine.{no_vids, line_of}
use Rattle.mst_edits.specs.Runs.{vids_of}
use Rattle.mst_edits.specs.declared.moves.Move.{Move}

-- the VIDs that a table maps to a tree
abbrev pub vids_in : List ℕ → ℕ → List Bool
vids_in table tree = set_where (λ vid. is_vid vid && tree_in table vid == tree)

-- ---- runs as lines
-- the edit that maps the VIDs of some runs
abbrev pub mapping : List ℕ → ℕ → List (ℕ × ℕ) → Edit
mapping bridge tree runs = SetByTree (Table bridge tree (vids_of runs))

-- whether the line of that edit has at most 4,096 bytes
abbrev pub fits : List ℕ → ℕ → List (ℕ × ℕ) → Bool
fits bridge tree runs = nat_le (length (line_of (mapping bridge tree runs))) 4096

-- runs cut into lines, the first of which has begun: the next run is put into the line where it fits, else it
-- begins the next line
abbrev pub cut_from : (List (ℕ × ℕ) → Bool) → List (ℕ × ℕ) → List (ℕ × ℕ) → List (List (ℕ × ℕ))
cut_from fits line [] = line ∷ []
cut_from fits line (run ∷ runs) = if fits (line ++ run ∷ []) then cut_from fits (line ++ run ∷ []) runs else line ∷ cut_from fits (run ∷ []) runs

abbrev pub cut : (List (ℕ × ℕ) → Bool) → List (ℕ × ℕ) → List (List (ℕ × ℕ))
cut fits [] = []
cut fits (run ∷ runs) = cut_from fits (run ∷ []) runs

-- VIDs that one line maps to a tree
abbrev pub move : ℕ → List Bool → Move
move tree vids = record { tree = tree; vids = vids }

-- the edit of such a line
abbrev pub edit_of : List ℕ → Move → Edit
edit_of bridge line = SetByTree (Table bridge line.tree line.vids)

-- the lines that map VIDs to a tree: each has as many of their runs as fit
abbrev pub moves_to : List ℕ → ℕ → List Bool → List Move
moves_to bridge tree vids = map (λ runs. move tree (vids_of runs)) (cut (fits bridge tree) (runs_from 0 vids))

-- the VIDs that are to be in a tree and are in another one
abbrev pub moved_to : List ℕ → List ℕ → ℕ → List Bool
moved_to before after tree = set_where (λ vid. is_vid vid && (tree_in after vid == tree && not (tree_in before vid == tree)))

-- the lines, were there room for each tree: first those of tree 0, and then of each tree that is wanted, rising
abbrev pub direct_moves : List ℕ → List ℕ → List ℕ → List Move
direct_moves bridge before after = flat_map (λ tree. moves_to bridge tree (moved_to before after tree)) (0 ∷ mstis_in after)

-- ---- by way of tree 0
-- a line that would make a 65th tree of a table
abbrev pub crowds : List ℕ → Move → Bool
crowds now line = nat_lt 64 (tree_count (mapped line.vids line.tree now))

-- the trees of a table that the wanted one hasn't, rising
abbrev pub unwanted : List ℕ → List ℕ → List ℕ
unwanted after table = filter (λ tree. not (has_tree after tree)) (mstis_in table)

abbrev pub is_one_line : List ℕ → List Bool → Bool
is_one_line bridge vids = length (moves_to bridge 0 vids) == 1

-- VIDs, and those of a tree
abbrev pub with_tree : List ℕ → List Bool → ℕ → List Bool
with_tree table vids tree = set_where (λ vid. has vids vid || has (vids_in table tree) vid)

-- VIDs, and those of the next trees as long as one line holds them
abbrev pub gathered : List ℕ → List ℕ → List Bool → List ℕ → List Bool
gathered bridge table vids [] = vids
gathered bridge table vids (tree ∷ trees) = if is_one_line bridge (with_tree table vids tree) then gathered bridge table (with_tree table vids tree) trees else vids

-- the VIDs of the least of some trees, and of the next ones where one line holds its
abbrev pub gathered_first : List ℕ → List ℕ → List ℕ → List Bool
gathered_first bridge table [] = no_vids
gathered_first bridge table (tree ∷ trees) = if is_one_line bridge (vids_in table tree) then gathered bridge table (vids_in table tree) trees else vids_in table tree

-- the lines that go before a line: VIDs that it would leave in trees that aren't wanted go to tree 0
abbrev pub ways : List ℕ → List ℕ → List ℕ → Move → List Move
ways bridge after now line = moves_to bridge 0 (gathered_first bridge (mapped line.vids 0 now) (unwanted after (mapped line.vids 0 now)))

-- a line, behind those that have to go before it
abbrev pub with_way : List ℕ → List ℕ → List ℕ → Move → List Move
with_way bridge after now line = (if crowds now line then ways bridge after now line else []) ++ line ∷ []

-- a table after some lines
abbrev pub table_after : List ℕ → List Move → List ℕ
table_after now [] = now
table_after now (line ∷ lines) = table_after (mapped line.vids line.tree now) lines

-- lines, each behind those that have to go before it
abbrev pub with_ways : List ℕ → List ℕ → List ℕ → List Move → List Move
with_ways bridge after now [] = []
with_ways bridge after now (line ∷ lines) = with_way bridge after now line ++ with_ways bridge after (table_after now (with_way bridge after now line)) lines

-- the edits that make one table of another
abbrev pub table_edits : List ℕ → List ℕ → List ℕ → List Edit
table_edits bridge before after = map (edit_of bridge) (with_ways bridge after before (direct_moves bridge before after))
