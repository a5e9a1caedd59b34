use Rattle.std.proofs.Common.{◌≡◌, ◌∙◌, [], ◌++◌, ℕ, List, None, ap, append_assoc, map, subst, sym}
use Rattle.std.specs.List.{count_by, flat_map}
use Rattle.std.specs.Result.{OnOk}
use Rattle.mst_rows.specs.Rows.{Row}
use Rattle.mst_graph.specs.Lists.{has_any}
use Rattle.mst_telling.specs.Judged.{AreTexts, found_at}
use Rattle.mst_telling.specs.Once.{left_out, once_rows, others, rows_now, same_rows, told_now}
use Rattle.mst_telling.specs.Rows.{row_at}
use Rattle.mst_telling.specs.Texts.{news}
use Rattle.mst_telling.specs.Told.{Found}
use Rattle.mst_telling.proofs.Only.{all_new}
use Rattle.mst_telling.proofs.once.put_once.Goals as goal

pub returns : goal.returns
returns g c first rows grew =
    let number = c.args.number in
    let scope = c.args.scope.now in
    let found : List Found = map (found_at c.args.n) c.args.found.now in
    let nows : List Row = rows_now number found in
    let those : List Row = flat_map (left_out number scope nows) found in
    let of = c.in_ok-folding.ensures in
    let folding = c.in_ok-folding.folding in
    let folds = of.folds in
    let left = c.in_ok-count.ensures.added nows [] folds c.new-left.ensures in
    let none : AreTexts [] folding.told.now = subst (AreTexts []) (sym of.told_is) c.new-told.ensures in
    let count : c.in_ok-count.count ≡ count_by (λ (f : Found). has_any (left_out number scope nows f)) found =
    c.in_ok-count.ensures.count nows folds ∙ (λ i. count_by (λ (f : Found). has_any (left_out (of.number i) (of.scope_is i) nows f)) found) in
    let now : List Row = told_now scope nows those in
    let last : List Row = flat_map (others number scope nows) found in
    let joined : (s : List Row) → ((rows ++ now) ++ s) ++ last ≡ rows ++ ((now ++ s) ++ last) = λ s. ap (λ (l : List Row). l ++ last) (append_assoc rows now s) ∙ append_assoc rows (now ++ s) last in
    subst (λ (all : List Row). OnOk c.put_all_others.result (g.R.Rows.grew first c.put_all_others.new.out all))
    ((λ i.
    ((rows ++ map (row_at (of.step i)) (news [] (told_now (of.scope_is i) (rows_now (of.number i) found) (flat_map (left_out (of.number i) (of.scope_is i) nows) found)))) ++ same_rows number (count i))
    ++ map (row_at (of.step i)) (news [] (flat_map (others (of.number i) (of.scope_is i) nows) found)))
    ∙ (λ i. ((rows ++ all_new now i) ++ same_rows number (count_by (λ (f : Found). has_any (left_out number scope nows f)) found)) ++ all_new last i)
    ∙ joined (same_rows number (count_by (λ (f : Found). has_any (left_out number scope nows f)) found)))
    (c.put_all_others.ensures nows [] folds none first _ (c.in_ok-put_same.ensures first _ (c.in_ok-put_now.ensures (flat_map (left_out folding.number folding.scope.now nows) found) [] left none first rows grew)))
