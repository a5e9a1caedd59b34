use Rattle.mst_telling.proofs.NewRows.{nothing_told}
use Rattle.mst_telling.proofs.judgement.Judgement.none.Goals as goal

pub returns : goal.returns
returns c lines = nothing_told (record { missing = c.new-missing.result; found = c.new-found.result }) c.new-missing.ensures.items c.new-found.ensures.items lines
