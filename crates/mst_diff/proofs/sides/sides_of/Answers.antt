use Rattle.std.proofs.Common.{Vec, Global, ◌≡◌, ℕ, List, map, sym, ap, ◌∙◌}
use Rattle.std.specs.Cmp.Lexicographic.{pointwise, pointwise_decides}
use Rattle.mst_diff.specs.Reach.{same_names, sides_of}
use Rattle.mst_diff.proofs.Alike.{no_sides}
use Rattle.mst_diff.proofs.SameSides.{names_decide, pointwise_map}
use Rattle.mst_diff.proofs.sides.sides_of.Goals as goal

abbrev items : Vec (List ℕ) Global → List (List ℕ)
items group = group.items

pub returns-then-eq : goal.returns-then-eq
returns-then-eq c =
    let olds = c.args.olds.now in
    let news = c.args.news.now in
    let same : map items olds ≡ map items news =
    (pointwise_decides names_decide (map items olds) (map items news)).0 (sym (pointwise_map same_names items olds news) ∙ sym c.eq.ensures ∙ c.if-eq.true) in
    c.none.ensures ∙ sym (no_sides (map items olds)) ∙ ap (sides_of (map items olds)) same
