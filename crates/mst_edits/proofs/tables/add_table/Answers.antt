use Rattle.std.proofs.Common.{◌≡◌, ◌++◌, sym, ap, ◌∙◌, append-nil}
use Rattle.std.specs.Cmp.{unsigned_Decides}
use Rattle.std.specs.Cmp.Lexicographic.{pointwise_decides}
use Rattle.mst_edits.specs.TableLines.{table_edits}
use Rattle.mst_edits.proofs.LinesMade.{no_table_edits}
use Rattle.mst_edits.proofs.tables.add_table.Goals as goal

pub returns-then-eq : goal.returns-then-eq
returns-then-eq c =
    let name = c.args.name.now in
    let before = c.args.before.now in
    let same : before ≡ c.args.after.now = (pointwise_decides unsigned_Decides before c.args.after.now).0 (sym c.eq.ensures ∙ c.if-eq.true) in
    sym (ap (λ es. c.args.edits.now.items ++ es) (ap (table_edits name before) (sym same) ∙ no_table_edits name before) ∙ append-nil c.args.edits.now.items)
