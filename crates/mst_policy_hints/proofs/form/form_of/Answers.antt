use Rattle.mst_lang.specs.Words.{words}
use Rattle.mst_policy.specs.Forms.{kind_of}
use Rattle.mst_policy_hints.specs.Hints.{form_of}
use Rattle.mst_policy_hints.proofs.Tables.{arguments_found, none_found}
use Rattle.mst_policy_hints.proofs.form.form_of.Goals as goal

pub returns-in-Some : goal.returns-in-Some
unfolding form_of
returns-in-Some c = arguments_found c.in-Some.form.now (kind_of c.args.word.now (words c.args.arguments.now)) c.in-Some.ensures

pub returns-in-None : goal.returns-in-None
unfolding form_of
returns-in-None c = none_found (kind_of c.args.word.now (words c.args.arguments.now)) c.in-None.ensures
