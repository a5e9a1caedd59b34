use Rattle.std.proofs.Common.{◌≡◌, ◌∙◌, ◌++◌, [], ◌∷◌, List, Some, refl, sym, ap, subst}
use Rattle.std.specs.Prelude.{OnOk}
use Rattle.mst_kinds.specs.declared.contest_line.ContestLine.{ContestLine}
use Rattle.mst_kinds.specs.declared.kind.Kind.TheVariants as kind
use Rattle.mst_rows.specs.declared.value.Value.{Value}
use Rattle.mst_rows.specs.Cells.{number, port, word}
use Rattle.mst_rows.specs.Rows.{Row, cell, giver, row_of}
use Rattle.mst_explain.specs.Lines.{over_rows}
use Rattle.mst_explain.specs.Told.{fields_by}
use Rattle.mst_explain.specs.declared.field.Values.{Values}
use Rattle.mst_explain.proofs.lines.put_differing.Goals as goal
use Rattle.mst_explain.proofs.lines.put_differing.Goals.{in-Bridges, in-Ports, in-Costs}

pub returns : goal.returns
returns g c first rows grew =
    let k = c.args.contest.now in
    let field = c.args.difference.now.field.now in
    let row : ContestLine × Value × Value → List Row =
    λ l. row_of (kind.Contest l.0) (number k.tree ∷ port k.port ∷ giver c.args.giver.now ∷ giver c.args.other.now ∷ word field ∷ cell l.1 ∷ cell l.2 ∷ []) ∷ [] in
    let told : Values → List Row = λ v. over_rows k c.args.giver.now c.args.other.now (Some (fields_by field v)) in
    let same : row c.match-difference.line ≡ told c.args.difference.now.values = elim c.match-difference.branch [
      | in-Bridges w ↦ ap row w.line-is ∙ sym (ap told w.in-Bridges.is)
      | in-Ports w ↦ ap row w.line-is ∙ sym (ap told w.in-Ports.is)
      | in-Costs w ↦ ap row w.line-is ∙ sym (ap told w.in-Costs.is)
    ] in
    subst (λ (l : List Row). OnOk c.put.result (g.R.Rows.grew first c.put.new.rows (rows ++ l))) same
    (c.put.ensures first rows _ (ap number (c.from.ensures ∙ c.value.ensures.value), (refl, (refl, (refl, (ap word c.as_bytes.ensures.value, (refl, (refl, tt))))))) grew)
