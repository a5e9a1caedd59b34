use Rattle.std.proofs.Common.{sym, ◌∙◌}
use Rattle.std.proofs.lemmas.Option.{none-some}
use Rattle.mst_command.specs.Words.{behind_name}
use Rattle.mst_command.proofs.Unknown.{help_known, plain_words, version_known}
use Rattle.mst_command.proofs.words.asked_by_words.Goals as goal

-- where there is such a word
pub returns-in-Some-clause-refused : goal.returns-in-Some-clause-refused
returns-in-Some-clause-refused g c plain =
    let words = behind_name c.args.words.now in
    absurd (none-some _ (sym (plain_words words plain) ∙ sym (c.in-Some.ensures.word)))

pub returns-in-Some-clause-help : goal.returns-in-Some-clause-help
returns-in-Some-clause-help g c asks =
    let words = behind_name c.args.words.now in
    absurd (none-some _ (sym (help_known words asks) ∙ sym (c.in-Some.ensures.word)))

pub returns-in-Some-clause-version : goal.returns-in-Some-clause-version
returns-in-Some-clause-version g c asks =
    let words = behind_name c.args.words.now in
    absurd (none-some _ (sym (version_known words asks) ∙ sym (c.in-Some.ensures.word)))
