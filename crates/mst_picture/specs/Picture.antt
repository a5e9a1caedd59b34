-- The picture of a network with one of its trees: a text for Graphviz.
use Rattle.std.specs.Prelude.{ℕ, List, [], ◌∷◌, ◌++◌, codes, decimal}
use Rattle.std.specs.List.{flat_map}
use Rattle.std.specs.FinMap as fin
use Rattle.mst_tables.specs.Tables.{Net}
use Rattle.mst_roles.specs.forest.Outcome.{Outcome}
use Rattle.mst_picture.specs.Bridges.{bridge_text}
use Rattle.mst_picture.specs.Lans.{lans_text}
use Rattle.mst_picture.specs.Pieces.{joined}
use Rattle.mst_picture.specs.declared.ends.Drawn.TheVariants.{Tree}

-- the first lines: which tree or VLAN it is, by a word and a number, and how all is drawn
abbrev pub opening : List ℕ → ℕ → List ℕ
opening word number =
    joined (codes "graph \"" ∷ word ∷ decimal number ∷ codes "\" {\n"
    ∷ codes "  graph [label=\"" ∷ word ∷ decimal number ∷ codes "\", nodesep=0.6, ranksep=0.8];\n"
    ∷ codes "  edge [fontsize=10, labeldistance=1.8];\n" ∷ [])

-- the last line
abbrev pub closing : List ℕ
closing = codes "}\n"

-- the picture: the bridges, and then the logical LANs, each by their names
abbrev pub picture : Net → Outcome → ℕ → List ℕ
picture net o tree =
    opening (codes "tree ") tree ++ flat_map (bridge_text net o tree) (fin.entries net.bridges) ++ lans_text net o (Tree tree) ++ closing
