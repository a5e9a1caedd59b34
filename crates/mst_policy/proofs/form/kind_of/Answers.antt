use Rattle.mst_lang.specs.Words.{words}
use Rattle.mst_policy.specs.Forms.{kind_of}
use Rattle.mst_policy.proofs.Tables.{kind_is, none_is}
use Rattle.mst_policy.proofs.form.kind_of.Goals as goal

pub returns-in-Some : goal.returns-in-Some
returns-in-Some c = kind_is c.in-Some.form.now (kind_of c.args.word.now (words c.args.arguments.now)) c.in-Some.ensures

pub returns-in-None : goal.returns-in-None
returns-in-None c = none_is (kind_of c.args.word.now (words c.args.arguments.now)) c.in-None.ensures
