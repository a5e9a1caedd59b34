-- Bridges in a picture.
use Rattle.std.specs.Prelude.{ℕ, ◌==◌, Bool, false, not, List, [], ◌∷◌, codes, if◌then◌else◌}
use Rattle.std.specs.Option.{option_map_or}
use Rattle.mst_tables.specs.Tables.{Net, BridgeRow}
use Rattle.mst_tables.specs.ByTree.{by_tree}
use Rattle.mst_roles.specs.forest.InUse.{id_in}
use Rattle.mst_roles.specs.forest.Outcome.{Outcome}
use Rattle.mst_roles.specs.forest.Msti.{has_tree}
use Rattle.mst_summary.specs.facts.Roots.{root_of}
use Rattle.mst_picture.specs.Pieces.{joined}

-- a bridge is a root of the tree: it names itself, in an MSTI as its regional root
abbrev pub is_root : Net → Outcome → ℕ → List ℕ × BridgeRow → Bool
is_root net o tree e = option_map_or (λ root. root == id_in (by_tree net) tree e.0 e.1) (root_of net o tree e.0) false

-- a bridge that is off is grey and dashed
abbrev pub off_style : List ℕ
off_style = codes " [style=dashed, color=gray, fontcolor=gray]"

-- how a bridge is drawn: so where it is off, grey where it hasn't the tree, and with two borders where it is a root
abbrev pub style : Bool → Bool → Bool → List ℕ
style is_on has_tree is_root =
    if not is_on then off_style
    else if not has_tree then codes " [color=gray, fontcolor=gray]"
    else if is_root then codes " [peripheries=2]"
    else []

-- its node, which has its name: `"B" STYLE;`
abbrev pub bridge_line : List ℕ → List ℕ → List ℕ
bridge_line name style = joined (codes "  \"" ∷ name ∷ codes "\"" ∷ style ∷ codes ";\n" ∷ [])

abbrev pub bridge_text : Net → Outcome → ℕ → List ℕ × BridgeRow → List ℕ
bridge_text net o tree e = bridge_line e.0 (style e.1.is_on (has_tree net tree e.0) (is_root net o tree e))

-- the node of a bridge that is off, and nothing for one that is on
abbrev pub off_text : List ℕ × BridgeRow → List ℕ
off_text e = if e.1.is_on then [] else bridge_line e.0 off_style
