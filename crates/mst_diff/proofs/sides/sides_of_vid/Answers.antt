use Rattle.std.proofs.Common.{Vec, Global, ◌≡◌, ℕ, List, map, ap, ◌∙◌}
use Rattle.std.proofs.lemmas.Result.{IfOk-weaker}
use Rattle.mst_diff.specs.Reach.{island_bridges, sides_of}
use Rattle.mst_diff.proofs.sides.sides_of_vid.Goals as goal

abbrev items : Vec (List ℕ) Global → List (List ℕ)
items group = group.items

pub returns : goal.returns
returns c =
    let olds = c.in_ok-olds.ensures in
    let news = c.in_ok-news.ensures in
    let old : map items c.as_slice.result.now ≡ island_bridges olds.0 = ap (map items) c.as_slice.ensures.value ∙ olds.2 in
    let new : map items c.as_slice-2.result.now ≡ island_bridges news.0 = ap (map items) c.as_slice-2.ensures.value ∙ news.2 in
    IfOk-weaker c.sides_of.result _ _ (λ sides e. (olds.0, news.0, olds.1, news.1, e ∙ (λ i. sides_of (old i) (new i)))) c.sides_of.ensures
