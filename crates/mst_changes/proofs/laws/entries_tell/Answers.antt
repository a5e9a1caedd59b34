use Rattle.std.proofs.Common.{sym, ◌∙◌}
use Rattle.mst_changes.specs.Subjects.{subjects_of_either}
use Rattle.mst_changes.specs.Values.{value_at}
use Rattle.mst_changes.proofs.Changed.{either_subjects_rise, entries_left, entries_right}
use Rattle.mst_changes.proofs.Merged.{same_rows}
use Rattle.mst_changes.proofs.laws.entries_tell.Goals as goal

pub returns : goal.returns
returns g a b c d o p q r olds news =
    same_rows (value_at a o) (value_at b p) (value_at c q) (value_at d r) (subjects_of_either a b) (subjects_of_either c d) (either_subjects_rise a b) (either_subjects_rise c d)
    (sym (entries_left a o b) ∙ olds ∙ entries_left c q d) (sym (entries_right b p a) ∙ news ∙ entries_right d r c)
