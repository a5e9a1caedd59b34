use Rattle.std.proofs.Common.{◌≡◌, ◌∙◌, ◌++◌, [], Bor, Option, Some, ap, map, subst, sym}
use Rattle.std.specs.Option.{option_map, option_map_or}
use Rattle.std.specs.Result.{OnOk}
use Rattle.mst_policy.specs.Lines.{promise_in}
use Rattle.mst_policy.specs.declared.expectation.Promise.{Promise}
use Rattle.mst_telling.specs.Judged.{line_found}
use Rattle.mst_telling.specs.Lines.{unkept_rows}
use Rattle.mst_telling.specs.Rows.{row_at}
use Rattle.mst_telling.specs.Texts.{news}
use Rattle.mst_telling.proofs.unkept.put_unkept.Goals as goal

pub returns-in-Some : goal.returns-in-Some
returns-in-Some g c those are first rows grew =
    let number = c.args.line.now.number in
    let is : Some c.in-Some.promise.now ≡ promise_in c.args.line.now.read = ap (option_map (λ (p : Bor Promise). p.now)) (sym c.in-Some.is) ∙ c.promise.ensures in
    subst
    (λ (said : Option Promise). OnOk c.put_promise.result (g.R.Rows.grew first c.put_promise.new.out (rows ++ map (row_at c.args.step) (news those (option_map_or (λ promise. unkept_rows number promise (line_found c.args.n c.args.found.now)) said [])))))
    is
    (c.put_promise.ensures those are first rows grew)
