use Rattle.std.proofs.Common.{◌∙◌, Bor, ap}
use Rattle.std.specs.Option.{option_map}
use Rattle.mst_lang.specs.Arguments.{is_text}
use Rattle.mst_lang.specs.Forms.{written}
use Rattle.mst_lang.specs.declared.form.Form.{Form}
use Rattle.mst_lang.proofs.Tables.{form_found, option_rows}
use Rattle.mst_lang.proofs.form.form_of.Goals as goal

pub returns : goal.returns
returns c =
    option_rows (λ (form : Bor Form). form.now) c.form_in.result ∙ ap (option_map written) c.form_in.ensures
    ∙ form_found (λ text. is_text text c.args.word.now) c.forms.result.now c.forms.ensures
