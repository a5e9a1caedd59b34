use Rattle.mst_lang.specs.Lines.{lines_of}
use Rattle.mst_edits.specs.SaveText.{save_text}
use Rattle.mst_engine.proofs.Saved.{restored_run}
use Rattle.mst_engine.proofs.laws.saved_again.Goals as goal

pub returns : goal.returns
returns c form net is short = restored_run form (lines_of (save_text net)) net (c.restored.ensures net is short)
