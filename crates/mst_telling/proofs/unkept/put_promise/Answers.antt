use Rattle.std.proofs.Common.{◌≡◌, ◌∙◌, ◌++◌, cond, true, false, List, ap, map, subst, sym}
use Rattle.std.specs.Result.{OnOk}
use Rattle.mst_rows.specs.Rows.{Row}
use Rattle.mst_telling.specs.Judged.{found_at}
use Rattle.mst_telling.specs.Once.{folded_rows, rows_now}
use Rattle.mst_telling.specs.Rows.{row_at}
use Rattle.mst_telling.specs.Texts.{news}
use Rattle.mst_telling.specs.Told.{Found, found_rows, tells_once}
use Rattle.mst_telling.proofs.Only.{unkept_only}
use Rattle.mst_telling.proofs.unkept.put_promise.Goals as goal

pub returns-in-true : goal.returns-in-true
returns-in-true g c those are first rows grew =
    let number = c.args.at.number in
    let promise = c.args.promise.now in
    let found : List Found = map (found_at c.args.n) c.args.found.now in
    let once : tells_once promise.scope ≡ true = sym c.tells_once.ensures ∙ c.in-true.is in
    subst (λ (more : List Row). OnOk c.put_folded.result (g.R.Rows.grew first c.put_folded.new.out (rows ++ map (row_at c.args.at.step) (news those more))))
    (sym (unkept_only number promise found ∙ ap (λ b. cond b (folded_rows number promise.scope (rows_now number found) found) (found_rows number found)) once)) (c.put_folded.ensures those are first rows grew)

pub returns-in-false : goal.returns-in-false
returns-in-false g c those are first rows grew =
    let number = c.args.at.number in
    let promise = c.args.promise.now in
    let found : List Found = map (found_at c.args.n) c.args.found.now in
    let once : tells_once promise.scope ≡ false = sym c.tells_once.ensures ∙ c.in-false.is in
    subst (λ (more : List Row). OnOk c.put_all_unless.result (g.R.Rows.grew first c.put_all_unless.new.out (rows ++ map (row_at c.args.at.step) (news those more))))
    (sym (unkept_only number promise found ∙ ap (λ b. cond b (folded_rows number promise.scope (rows_now number found) found) (found_rows number found)) once)) (c.put_all_unless.ensures those are first rows grew)
