use Rattle.std.proofs.Common.{◌==◌, ◌||◌, true, ap, ◌∙◌}
use Rattle.std.proofs.lemmas.List.{length-set}
use Rattle.mst_note_text.proofs.Flags.{cist_had}
use Rattle.mst_note_text.proofs.notes.trees_of_view.Goals as goal

pub returns : goal.returns
returns c =
    let used = c.trees_in_use-had.result in
    record {
      long = length-set used 0 true ∙ c.trees_in_use-had.ensures.long;
      had = λ tree small. cist_had used tree c.trees_in_use-had.ensures.long ∙ ap (λ b. tree == 0 || b) (c.trees_in_use-had.ensures.used tree small);
    }
