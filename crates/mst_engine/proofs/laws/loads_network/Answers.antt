use Rattle.mst_report.specs.State.{empty_state}
use Rattle.mst_engine.specs.Script.{version_of}
use Rattle.mst_engine.proofs.Loads.{loads_same}
use Rattle.mst_engine.proofs.laws.loads_network.Goals as goal

pub returns : goal.returns
returns c form shape lines = loads_same form shape (version_of lines) 1 empty_state lines
