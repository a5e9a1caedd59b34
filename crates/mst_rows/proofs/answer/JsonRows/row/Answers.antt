use Rattle.std.proofs.Common.{◌∙◌, ◌++◌, List, ℕ, Bool, map, sym, ap, append_assoc}
use Rattle.mst_rows.specs.Printed.{comma}
use Rattle.mst_rows.specs.Rows.{cell, row_of}
use Rattle.mst_rows.specs.Answers.{follow, record_text, records_text}
use Rattle.mst_rows.proofs.OneMore.{follow-one, records-one}
use Rattle.mst_rows.proofs.answer.JsonRows.row.Goals as goal

pub returns : goal.returns
returns c first rows grew =
    let row = row_of c.args.kind (map cell c.args.values.now) in
    let more = λ (b : Bool). comma b ++ record_text row in
    let text = records_text first.follows rows in (
      c.in_ok-push_record.ensures
          ∙ ap (λ (l : List ℕ). l ++ record_text row) c.in_ok-push_comma.ensures
          ∙ append_assoc c.args.self.now.out.items (comma c.args.self.now.follows) (record_text row)
          ∙ ap (λ (l : List ℕ). l ++ more c.args.self.now.follows) grew.0
          ∙ ap (λ (b : Bool). (first.out.items ++ text) ++ more b) grew.1
          ∙ append_assoc first.out.items text (more (follow first.follows rows))
          ∙ ap (λ (l : List ℕ). first.out.items ++ l) (sym (records-one first.follows rows row)),
      follow-one first.follows rows row,
    )
