use Rattle.std.proofs.Common.{◌++◌, not, map, ap, ◌∙◌}
use Rattle.std.specs.List.{list_all}
use Rattle.mst_view.specs.declared.in_view.MemberLan.{MemberLan}
use Rattle.mst_reasons.specs.Risks.{has_one}
use Rattle.mst_reasons.specs.Missing.{lans_of, scope_lans}
use Rattle.mst_telling.proofs.LackedSeen.{lan_names}
use Rattle.mst_telling.proofs.lacking.lacks_lan.Goals as goal

pub returns : goal.returns
returns c =
    let s = c.args.plan.now in
    let is = c.known.ensures in
    let promise = c.args.promise.now in
    let names = ap (map (λ (x : MemberLan). x.name)) (c.member_lans.ensures ∙ ap (λ v. v.member_lans) c.view.ensures) ∙ lan_names s.net s.numbers s.view s.forest.regions is.of in
    ap not (c.are_all_lans.ensures ∙ ap (λ names. list_all (has_one names) (scope_lans promise.scope ++ lans_of promise.expectation)) names)
