use Rattle.mst_command.specs.Words.{behind_name}
use Rattle.mst_command.proofs.Meanings.{as_meant}
use Rattle.mst_command.proofs.words.wrong_word.Goals as goal

pub returns-in-None : goal.returns-in-None
returns-in-None g c = as_meant (g.S.Sources.is_there c.args.sources.now) (behind_name c.args.words.now) c.stray_among.result c.stray_among.ensures
