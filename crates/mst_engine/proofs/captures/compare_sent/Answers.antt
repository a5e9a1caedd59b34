use Rattle.std.proofs.Common.{◌≡◌, false, refl, sym, ap, subst, ◌∙◌}
use Rattle.mst_net.specs.tables.Tables.{Net}
use Rattle.mst_compare.specs.Comparison.{AreDifferences}
use Rattle.mst_report.specs.Planned.{planned_state}
use Rattle.mst_engine.specs.Captures.{compared}
use Rattle.mst_engine.specs.Engine.{shape_of, is_starved, replied}
use Rattle.mst_engine.specs.Steps.{Step}
use Rattle.mst_engine.specs.declared.engine.Input.TheVariants.{Captures}
use Rattle.mst_engine.proofs.OneComparison.{compared_whole}
use Rattle.mst_engine.proofs.captures.compare_sent.Goals as goal

pub returns : goal.returns
returns c =
    let form = c.args.form in
    let number = c.args.number in
    let now = planned_state c.args.planner.now in
    let port = c.args.port.now in
    let found = c.in-Ok.differences.items in
    let reply = c.in-Ok-told.reply in
    let told : replied (shape_of (Captures form)) number now reply ≡ compared form false number now port found = c.in-Ok-told.ensures now ∙ ap (compared form false number now port) c.as_slice.ensures.value in
    let whole : is_starved reply ≡ false = ap (λ (s : Step). s.lacking) told ∙ compared_whole form number now port found in
    (found, subst (λ (net : Net). AreDifferences net c.args.bpdu.now found) c.settled-plan.ensures c.in-Ok.ensures.found, told ∙ ap (λ lacks. compared form lacks number now port found) (sym whole))

pub returns-in-Err : goal.returns-in-Err
returns-in-Err c =
    let there = c.has_list.ensures c.args.planner.now.contents.net c.args.bpdu.now c.args.port.now c.known.ensures.network c.requires.sent in
    (there.0, there.1, refl)
