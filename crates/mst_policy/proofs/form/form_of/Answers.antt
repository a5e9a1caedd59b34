use Rattle.std.proofs.Common.{◌∙◌, Bor, ap}
use Rattle.std.specs.Option.{option_map}
use Rattle.mst_lang.specs.Words.{words}
use Rattle.mst_policy.specs.Forms.{written}
use Rattle.mst_policy.specs.declared.form.Form.{Form}
use Rattle.mst_policy.proofs.Tables.{form_found, option_rows}
use Rattle.mst_policy.proofs.form.form_of.Goals as goal

pub returns : goal.returns
returns c =
    option_rows (λ (form : Bor Form). form.now) c.form_in.result ∙ ap (option_map written) c.form_in.ensures
    ∙ form_found c.args.word.now (words c.args.arguments.now) c.forms.result.now c.forms.ensures
