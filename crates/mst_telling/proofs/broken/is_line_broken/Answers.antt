use Rattle.std.proofs.Common.{◌≡◌, ◌∙◌, [], Bor, Some, ap, map, sym}
use Rattle.std.specs.Option.{option_map, option_map_or}
use Rattle.mst_graph.specs.Lists.{has_any}
use Rattle.mst_policy.specs.Lines.{promise_in}
use Rattle.mst_policy.specs.declared.expectation.Promise.{Promise}
use Rattle.mst_telling.specs.Judged.{found_at, line_found}
use Rattle.mst_telling.specs.Lines.{unkept_rows}
use Rattle.mst_telling.specs.Verified.{is_broken_by}
use Rattle.mst_telling.proofs.Only.{any_map, unkept_only, unkept_some}
use Rattle.mst_telling.proofs.broken.is_line_broken.Goals as goal

pub returns-in-Some : goal.returns-in-Some
returns-in-Some c =
    let n = c.args.n in
    let found = c.args.found.now in
    let number = c.args.line.now.number in
    let promise = c.in-Some.promise.now in
    let is : Some promise ≡ promise_in c.args.line.now.read = ap (option_map (λ (p : Bor Promise). p.now)) (sym c.in-Some.is) ∙ c.promise.ensures in
    c.is_broken.ensures ∙ sym (any_map (is_broken_by promise.scope) (found_at n) found) ∙ sym (unkept_some number promise (map (found_at n) found))
    ∙ ap has_any (sym (unkept_only number promise (map (found_at n) found))) ∙ ap (λ said. has_any (option_map_or (λ promise. unkept_rows number promise (line_found n found)) said [])) is
