-- Rows as lines.
use Rattle.std.specs.Prelude.{ℕ, List, [], ◌∷◌, ◌++◌, codes, decimal, map, if◌then◌else◌}
use Rattle.std.specs.List.{flat_map}
use Rattle.mst_ids.specs.Vids.{runs_text}
use Rattle.mst_ids.specs.Words.{after_space, comma_list, listed, port_text}
use Rattle.mst_kinds.specs.Kinds.{first_of, parts_of}
use Rattle.mst_kinds.specs.Words.{mark_text}
use Rattle.mst_kinds.specs.declared.part.Part.{Part}
use Rattle.mst_kinds.specs.declared.part.Part.TheVariants as part
use Rattle.mst_rows.specs.declared.value.ActivePort.{ActivePort}
use Rattle.mst_rows.specs.Cells.{Bare, nothing, text, count, Cell, absent, own, word, number, port, vids, names, ports, trees, groups, active, object, failed_lan, failed_bridge, failed_risk, no_failure, lines, promises}
use Rattle.mst_rows.specs.Rows.{Row, first_cell, left_cells}

-- an active port, in brackets where it is no member
abbrev pub active_text : ActivePort → List ℕ
active_text a = if a.is_member then port_text a.port else 91 ∷ (port_text a.port ++ 93 ∷ [])

abbrev pub bare_text : Bare → List ℕ
bare_text nothing = codes "-"
bare_text (text w) = w
bare_text (count n) = decimal n

-- the words of a value, each after a space; promises stand in records alone
abbrev pub cell_text : Cell → List ℕ
cell_text absent = after_space (codes "-")
cell_text own = after_space (codes "own")
cell_text (word w) = after_space w
cell_text (number n) = after_space (decimal n)
cell_text (port p) = after_space (port_text p)
cell_text (vids runs) = after_space (runs_text runs)
cell_text (names ns) = flat_map after_space (listed ns)
cell_text (ports ps) = flat_map after_space (listed (map port_text ps))
cell_text (trees ts) = flat_map after_space (listed (map decimal ts))
cell_text (groups gs) = flat_map after_space (listed (map comma_list gs))
cell_text (active ps) = flat_map after_space (listed (map active_text ps))
cell_text (object fs) = flat_map (λ f. after_space (bare_text f.1)) fs
cell_text (failed_lan n) = after_space (codes "lan") ++ after_space n
cell_text (failed_bridge n) = after_space (codes "bridge") ++ after_space n
cell_text (failed_risk n) = after_space (codes "risk") ++ after_space n
cell_text no_failure = after_space (codes "now")
cell_text (lines first last) = after_space (decimal first ++ 45 ∷ decimal last)
cell_text (promises ps) = []

-- a list as one word, with `,` between
abbrev pub comma_text : Cell → List ℕ
comma_text (names ns) = after_space (comma_list ns)
comma_text (ports ps) = after_space (comma_list (map port_text ps))
comma_text (trees ts) = after_space (comma_list (map decimal ts))
comma_text c = cell_text c

-- a part, where these values are left
abbrev pub part_text : Part → List Cell → List ℕ
part_text (part.Mark m) cs = after_space (mark_text m)
part_text (part.Key k) cs = cell_text (first_cell cs)
part_text (part.Commas k) cs = comma_text (first_cell cs)
part_text (part.Above k) cs = []
part_text (part.Said k m) cs = after_space (mark_text m)
part_text (part.Told k m) cs = []
part_text part.Port cs = cell_text (first_cell cs)
part_text part.AbovePort cs = []

abbrev pub parts_text : List Part → List Cell → List ℕ
parts_text [] cs = []
parts_text (p ∷ ps) cs = part_text p cs ++ parts_text ps (left_cells p cs)

abbrev pub row_line : Row → List ℕ
row_line row = mark_text (first_of row.kind) ++ (parts_text (parts_of row.kind) row.cells ++ 10 ∷ [])
