use Rattle.mst_lang.proofs.RangeLemmas.{edit_in_range}
use Rattle.mst_lang.proofs.laws.edits_in_range.Goals as goal

pub returns : goal.returns
returns c = edit_in_range
