use Rattle.std.proofs.Common.{◌&&◌, Bool, map, sym, ap, ◌∙◌}
use Rattle.std.specs.List.{list_all}
use Rattle.mst_view.specs.declared.in_view.MemberLan.{MemberLan}
use Rattle.mst_policy.specs.declared.item.NameItem.{NameItem}
use Rattle.mst_reasons.specs.Risks.{has_one}
use Rattle.mst_reasons.specs.Missing.{lans_of, scope_lans}
use Rattle.mst_telling.proofs.LackedSeen.{all_appended}
use Rattle.mst_telling.proofs.lacking.are_all_lans.Goals as goal

pub returns-then-first : goal.returns-then-first
returns-then-first c =
    let test : NameItem → Bool = has_one (map (λ (x : MemberLan). x.name) c.args.lans.now) in
    let promise = c.args.promise.now in
    c.are_lans.ensures ∙ ap (λ b. b && list_all test (lans_of promise.expectation)) (sym c.if-first.true ∙ c.are_scope_lans-first.ensures) ∙ sym (all_appended test (scope_lans promise.scope) (lans_of promise.expectation))

pub returns-else-first : goal.returns-else-first
returns-else-first c =
    let test : NameItem → Bool = has_one (map (λ (x : MemberLan). x.name) c.args.lans.now) in
    let promise = c.args.promise.now in
    c.if-first.false ∙ ap (λ b. b && list_all test (lans_of promise.expectation)) (sym c.if-first.false ∙ c.are_scope_lans-first.ensures) ∙ sym (all_appended test (scope_lans promise.scope) (lans_of promise.expectation))
