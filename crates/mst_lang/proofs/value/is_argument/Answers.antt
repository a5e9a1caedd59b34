use Rattle.std.proofs.Common.{◌∙◌, ap}
use Rattle.std.specs.Result.{is_ok}
use Rattle.mst_lang.proofs.FillLemmas.{right_is}
use Rattle.mst_lang.proofs.value.is_argument.Goals as goal

pub returns-in-Ok : goal.returns-in-Ok
returns-in-Ok c = ap is_ok c.in-Ok.ensures ∙ right_is c.args.version c.args.argument c.args.word.now

pub returns-in-Err : goal.returns-in-Err
returns-in-Err c = ap is_ok c.in-Err.ensures ∙ right_is c.args.version c.args.argument c.args.word.now
