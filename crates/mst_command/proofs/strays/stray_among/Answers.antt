use Rattle.std.proofs.Common.{IfSome, subst}
use Rattle.mst_command.specs.Strays.{IsStray}
use Rattle.mst_command.proofs.Meanings.{behind_first}
use Rattle.mst_command.proofs.strays.stray_among.Goals as goal

pub returns-in-None : goal.returns-in-None
returns-in-None c = subst (λ words. IfSome c.hyphened_stray.result (λ stray. IsStray words stray.word.now stray.meant)) (behind_first c.args.words.now) c.hyphened_stray.ensures
