use Rattle.std.proofs.Common.{◌≡◌, ◌++◌, ◌∷◌, [], ◌∙◌, Bor, List, Option, ap, map, sym}
use Rattle.std.proofs.lemmas.List.{map-append}
use Rattle.std.specs.Prelude.{Vec}
use Rattle.std.specs.Option.{option_map_or}
use Rattle.std.specs.declared.alloc.Global.{Global}
use Rattle.mst_policy.specs.declared.risk.RiskLine.{RiskLine}
use Rattle.mst_reasons.specs.SeenRisks.{lines_at}
use Rattle.mst_reasons.proofs.LinesKept.{line_added}
use Rattle.mst_reasons.proofs.risks.add_line.Goals as goal
use Rattle.mst_reasons.proofs.risks.add_line.Goals.{in-Some, in-None}

pub returns : goal.returns
returns c =
    let line = c.args.line.now in
    let now : Bor RiskLine → RiskLine = λ risk. risk.now in
    let lines : Option (Vec (Bor RiskLine) Global) → List RiskLine = λ kept. option_map_or (λ those. map now those.items) kept [] in
    let before : map now c.match-swap_remove.lines.items ≡ lines_at c.args.kept.now line.name = elim c.match-swap_remove.branch [
      | in-Some w ↦ ap (λ kept. map now kept.items) w.lines-is ∙ ap lines (sym w.in-Some.is ∙ c.swap_remove.ensures.value)
      | in-None w ↦ ap (λ kept. map now kept.items) w.lines-is ∙ ap (map now) w.new-lines.ensures.items ∙ ap lines (sym w.in-None.is ∙ c.swap_remove.ensures.value)
    ] in
    line_added c.args.kept.now c.swap_remove.new.self c.insert.new.self line c.push.new.self c.swap_remove.ensures.updates.0 c.in_ok-insert.ensures.updates.0
    (ap (map now) c.in_ok-push.ensures.items ∙ map-append now c.match-swap_remove.lines.items (c.args.line ∷ []) ∙ ap (λ (those : List RiskLine). those ++ line ∷ []) before)
