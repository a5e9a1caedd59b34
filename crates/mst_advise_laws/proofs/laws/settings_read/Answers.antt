use Rattle.mst_advise_laws.proofs.Said.{setting_said}
use Rattle.mst_advise_laws.proofs.laws.settings_read.Goals as goal

pub returns : goal.returns
returns c = setting_said
