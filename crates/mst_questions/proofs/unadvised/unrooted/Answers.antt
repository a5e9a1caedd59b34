use Rattle.std.proofs.Common.{true, false, ap, sym, ◌∙◌}
use Rattle.std.specs.FinMap as fin
use Rattle.std.specs.Option.{option_map}
use Rattle.mst_questions.proofs.Explained.{rootless_by}
use Rattle.mst_questions.proofs.unadvised.unrooted.Goals as goal

pub returns-in-Some : goal.returns-in-Some
returns-in-Some c =
    let p = c.args.planner.now.contents in
    let name = c.args.name.now in
    let plan = c.plan.result.now in
    let number = ap (option_map (λ bridge. bridge.number)) (sym c.in-Some.is) ∙ c.bridge.ensures.number ∙ ap (λ n. fin.get n.numbers.bridges name) c.network.ensures in
    rootless_by p.net p.numbers plan.view plan.forest.regions c.plan.ensures.of.of name c.args.tree c.in-Some.bridge.number (sym number) false c.if-not-has_tree.ensures

pub returns-in-Some-2 : goal.returns-in-Some-2
returns-in-Some-2 c =
    let p = c.args.planner.now.contents in
    let name = c.args.name.now in
    let plan = c.plan.result.now in
    let number = ap (option_map (λ bridge. bridge.number)) (sym c.in-Some.is) ∙ c.bridge.ensures.number ∙ ap (λ n. fin.get n.numbers.bridges name) c.network.ensures in
    rootless_by p.net p.numbers plan.view plan.forest.regions c.plan.ensures.of.of name c.args.tree c.in-Some.bridge.number (sym number) true c.if-not-has_tree.ensures
