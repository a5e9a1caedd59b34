use Rattle.std.proofs.Common.{◌∙◌}
use Rattle.mst_lang.specs.Words.{words}
use Rattle.mst_lang.proofs.FillLemmas.{none_read, one_read, two_read, three_read, four_read}
use Rattle.mst_lang.proofs.read.read_arguments.Goals as goal

pub returns-in-None : goal.returns-in-None
returns-in-None c = c.made_of_none.ensures ∙ none_read c.args.version c.args.form.now.command c.args.form.now.arguments.now (words c.args.text.now) c.requires c.in-empty.len_below c.in-None.ensures

pub returns-in-Some-one_word : goal.returns-in-Some-one_word
returns-in-Some-one_word c =
    c.line_of_one.ensures
    ∙ one_read c.args.version c.args.form.now.command c.args.form.now.arguments.now (words c.args.text.now) _ _ c.requires c.in-len1.len_at_least c.in-len1.len_below c.in-Some-one_word.ensures c.read_value.ensures

pub returns-in-Some-two_words : goal.returns-in-Some-two_words
returns-in-Some-two_words c =
    c.line_of_two.ensures
    ∙ two_read c.args.version c.args.form.now.command c.args.form.now.arguments.now (words c.args.text.now) _ _ _ _ c.requires c.in-len2.len_at_least c.in-len2.len_below c.in-Some-two_words.ensures
    c.read_value-in-Some-two_words.ensures c.read_value-in-Some-two_words-2.ensures

pub returns-in-Some-three_words : goal.returns-in-Some-three_words
returns-in-Some-three_words c =
    c.line_of_three.ensures
    ∙ three_read c.args.version c.args.form.now.command c.args.form.now.arguments.now (words c.args.text.now) _ _ _ _ _ _ c.requires c.in-len3.len_at_least c.in-len3.len_below c.in-Some-three_words.ensures
    c.read_value-in-Some-three_words.ensures c.read_value-in-Some-three_words-2.ensures c.read_value-in-Some-three_words-3.ensures

pub returns-in-Some-four_words : goal.returns-in-Some-four_words
returns-in-Some-four_words c =
    c.line_of_four.ensures
    ∙ four_read c.args.version c.args.form.now.command c.args.form.now.arguments.now (words c.args.text.now) _ _ _ _ _ _ _ _ c.requires c.in-len4.len_at_least c.in-len4.len_below c.in-Some-four_words.ensures
    c.read_value-in-Some-four_words.ensures c.read_value-in-Some-four_words-2.ensures c.read_value-in-Some-four_words-3.ensures c.read_value-in-Some-four_words-4.ensures
