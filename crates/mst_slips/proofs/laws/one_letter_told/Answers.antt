use Rattle.mst_slips.proofs.OneLetter.{is_so, is_told}
use Rattle.mst_slips.proofs.laws.one_letter_told.Goals as goal

pub returns : goal.returns
returns c = record { sound = is_so; complete = is_told }
