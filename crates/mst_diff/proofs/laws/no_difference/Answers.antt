use Rattle.mst_diff.proofs.Alike.{no_counts, last_row_alone}
use Rattle.mst_diff.proofs.laws.no_difference.Goals as goal

pub returns : goal.returns
returns g a o c rows x = let one = g.islands_of_vid.ensures.one in (last_row_alone a o one c rows x, no_counts a o one c rows x)
