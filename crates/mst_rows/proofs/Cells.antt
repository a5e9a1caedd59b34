-- What values say, one by one and all together.
use Rattle.std.proofs.Common.{◌≡◌, ◌∙◌, List, [], ◌∷◌, map, refl, ap}
use Rattle.mst_rows.specs.declared.value.Value.{Value}
use Rattle.mst_rows.specs.Cells.{Cell}
use Rattle.mst_rows.specs.Rows.{AreCells, cell}

pub cells_are : (values : List Value) (cells : List Cell) → AreCells values cells → map cell values ≡ cells
cells_are [] [] are = refl
cells_are [] (c ∷ cells) are = absurd are
cells_are (v ∷ values) [] are = absurd are
cells_are (v ∷ values) (c ∷ cells) are = ap (λ (d : Cell). d ∷ map cell values) are.0 ∙ ap (λ (ds : List Cell). c ∷ ds) (cells_are values cells are.1)
