use Rattle.std.proofs.Common.{ap, true, ◌≡◌, ◌∙◌}
use Rattle.std.proofs.lemmas.Result.{IfOk-weaker}
use Rattle.clap.specs.Words.{App, app_of}
use Rattle.clap.specs.Simple.{app_of_fields}
use Rattle.mst_command.specs.Words.{no_command}
use Rattle.mst_command.proofs.command.no_command.Goals as goal

pub returns : goal.returns
returns c =
    let none_is : app_of c.disable_help_subcommand-named.result ≡ no_command = ap app_of_fields c.disable_help_subcommand-named.ensures
    ∙ ap (λ f. app_of_fields (record f { disable_help_subcommand = true })) c.version.ensures
    ∙ ap (λ (a : App). record a { top = record a.top { has_version = true; disable_help_subcommand = true } })
    (ap app_of_fields c.after_help.ensures ∙ ap app_of_fields c.about.ensures ∙ c.new.ensures.app) in
    IfOk-weaker c.bin_name.result _ _ (λ r h. ap app_of_fields h.0 ∙ none_is) c.bin_name.ensures
