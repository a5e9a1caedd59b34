use Rattle.std.proofs.Common.{◌≡◌, ◌∙◌, ◌++◌, [], Bor, Option, Some, ap, map, subst, sym}
use Rattle.std.specs.Option.{option_map, option_map_or}
use Rattle.mst_graph.specs.Lists.{has_any}
use Rattle.mst_policy.specs.Lines.{promise_in}
use Rattle.mst_policy.specs.declared.expectation.Promise.{Promise}
use Rattle.mst_telling.specs.Judged.{found_at, line_found}
use Rattle.mst_telling.specs.Verified.{is_broken_by, verdict_rows}
use Rattle.mst_telling.proofs.Only.{any_map, verdict_only, verdict_some}
use Rattle.mst_telling.proofs.verified.put_line.Goals as goal

pub returns-in_ok-put_verdict_of-in-Some-clause-is : goal.returns-in_ok-put_verdict_of-in-Some-clause-is
returns-in_ok-put_verdict_of-in-Some-clause-is g c =
    let n = c.args.n in
    let found = c.args.found.now in
    let number = c.args.line.now.number in
    let promise = c.in-Some.promise.now in
    let is : Some promise ≡ promise_in c.args.line.now.read = ap (option_map (λ (p : Bor Promise). p.now)) (sym c.in-Some.is) ∙ c.promise.ensures in
    c.is_broken.ensures ∙ sym (any_map (is_broken_by promise.scope) (found_at n) found) ∙ sym (verdict_some number promise (map (found_at n) found))
    ∙ ap has_any (sym (verdict_only number promise (map (found_at n) found))) ∙ ap (λ said. has_any (option_map_or (λ promise. verdict_rows number promise (line_found n found)) said [])) is

pub returns-in_ok-put_verdict_of-in-Some-clause-put : goal.returns-in_ok-put_verdict_of-in-Some-clause-put
returns-in_ok-put_verdict_of-in-Some-clause-put g c first rows grew =
    let n = c.args.n in
    let number = c.args.line.now.number in
    let is : Some c.in-Some.promise.now ≡ promise_in c.args.line.now.read = ap (option_map (λ (p : Bor Promise). p.now)) (sym c.in-Some.is) ∙ c.promise.ensures in
    subst (λ (said : Option Promise). g.R.Rows.grew first c.put_verdict_of.new.out (rows ++ option_map_or (λ promise. verdict_rows number promise (line_found n c.args.found.now)) said [])) is
    (c.in_ok-put_verdict_of-in-Some.ensures first rows grew)
