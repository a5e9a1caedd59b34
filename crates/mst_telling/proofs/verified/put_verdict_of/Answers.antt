use Rattle.std.proofs.Common.{◌≡◌, ◌∙◌, ◌++◌, cond, true, false, List, None, ap, map, subst, sym}
use Rattle.std.specs.Result.{OnOk}
use Rattle.mst_rows.specs.Rows.{Row}
use Rattle.mst_telling.specs.Judged.{found_at}
use Rattle.mst_telling.specs.Once.{once_rows, rows_now}
use Rattle.mst_telling.specs.Told.{Found, found_rows, tells_once}
use Rattle.mst_telling.proofs.Only.{plain, verdict_only}
use Rattle.mst_telling.proofs.verified.put_verdict_of.Goals as goal

pub returns-in-true : goal.returns-in-true
returns-in-true g c first rows grew =
    let number = c.args.number in
    let promise = c.args.promise.now in
    let found : List Found = map (found_at c.args.n) c.args.found.now in
    let once : tells_once promise.scope ≡ true = sym c.tells_once.ensures ∙ c.in-true.is in
    subst (λ (more : List Row). OnOk c.put_once.result (g.R.Rows.grew first c.put_once.new.out (rows ++ more)))
    (sym (verdict_only number promise found ∙ ap (λ b. cond b (once_rows number promise.scope (rows_now number found) found) (found_rows number found)) once)) (c.put_once.ensures first rows grew)

pub returns-in-false : goal.returns-in-false
returns-in-false g c first rows grew =
    let number = c.args.number in
    let promise = c.args.promise.now in
    let found : List Found = map (found_at c.args.n) c.args.found.now in
    let once : tells_once promise.scope ≡ false = sym c.tells_once.ensures ∙ c.in-false.is in
    subst (λ (more : List Row). OnOk c.put_found.result (g.R.Rows.grew first c.put_found.new.out (rows ++ more)))
    (plain (found_rows number found) ∙ sym (verdict_only number promise found ∙ ap (λ b. cond b (once_rows number promise.scope (rows_now number found) found) (found_rows number found)) once)) (c.put_found.ensures first rows grew)
