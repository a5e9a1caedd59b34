use Rattle.std.proofs.Common.{ap, inr, map, string_bytes, sym, subst, ◌∙◌, Some}
use Rattle.clap.specs.Words.{fault_of, is_simple, is_simple_and_free, subcommand_of}
use Rattle.clap.specs.Kinds.{HasKind}
use Rattle.mst_command.specs.Words.{IsRefusal, asked_by, asked_of, behind_name, without_dashes}
use Rattle.mst_command.proofs.CommandLine.{all_fit, called, called_answers, help_calls, version_calls, fits_asks, free, memory_refuses, simple, told_refuses}
use Rattle.mst_command.proofs.words.asked_by_parser.Goals as goal

pub returns-in-Err-clause-refused : goal.returns-in-Err-clause-refused
returns-in-Err-clause-refused g c = λ plain.
    let words = behind_name c.args.words.now in
    let asks = asked_by (without_dashes words) in
    subst (IsRefusal (g.S.Sources.is_there c.args.sources.now) words asks) (sym c.starved.ensures) (memory_refuses (g.S.Sources.is_there c.args.sources.now) words asks)

pub returns-in-Ok-try_get_matches_from-clause-asked : goal.returns-in-Ok-try_get_matches_from-clause-asked
returns-in-Ok-try_get_matches_from-clause-asked g c = λ plain.
    let words = map string_bytes c.args.words.now in
    let app_is = c.in-Ok.ensures in
    let parse = c.in-Ok-try_get_matches_from.ensures in
    let no_fault = sym (ap (λ a. fault_of a words) app_is) ∙ parse.kinds (ap is_simple_and_free app_is ∙ free) in
    let found = (parse.matches (ap is_simple app_is ∙ simple)).1 ∙ ap (λ a. subcommand_of a words) app_is in
    fits_asks _ _ _ (all_fit words plain) no_fault ∙ ap Some (sym (c.asked_in.ensures ∙ ap asked_of found))

pub returns-in-Err-try_get_matches_from-clause-refused : goal.returns-in-Err-try_get_matches_from-clause-refused
returns-in-Err-try_get_matches_from-clause-refused g c = λ plain.
    let words = map string_bytes c.args.words.now in
    let app_is = c.in-Ok.ensures in
    told_refuses _ _ _ _ _ _ _ (all_fit words plain) (subst (λ a. HasKind (fault_of a words) c.in-Err-try_get_matches_from.error) app_is (c.in-Err-try_get_matches_from.ensures.kinds (ap is_simple_and_free app_is ∙ free))) c.tell_words.ensures.memory c.tell_words.ensures.refused

pub returns-in-Err-clause-help : goal.returns-in-Err-clause-help
returns-in-Err-clause-help g c = λ asks. inr (inr c.starved.ensures)

pub returns-in-Ok-try_get_matches_from-clause-help : goal.returns-in-Ok-try_get_matches_from-clause-help
returns-in-Ok-try_get_matches_from-clause-help g c = λ asks.
    let words = map string_bytes c.args.words.now in
    let app_is = c.in-Ok.ensures in
    let no_fault = sym (ap (λ a. fault_of a words) app_is) ∙ c.in-Ok-try_get_matches_from.ensures.kinds (ap is_simple_and_free app_is ∙ free) in
    absurd (called _ _ (help_calls words asks) no_fault)

pub returns-in-Err-try_get_matches_from-clause-help : goal.returns-in-Err-try_get_matches_from-clause-help
returns-in-Err-try_get_matches_from-clause-help g c = λ asks.
    let words = map string_bytes c.args.words.now in
    let app_is = c.in-Ok.ensures in
    called_answers _ _ _ _ (help_calls words asks) (subst (λ a. HasKind (fault_of a words) c.in-Err-try_get_matches_from.error) app_is (c.in-Err-try_get_matches_from.ensures.kinds (ap is_simple_and_free app_is ∙ free))) c.tell_words.ensures.memory c.tell_words.ensures.help

pub returns-in-Err-clause-version : goal.returns-in-Err-clause-version
returns-in-Err-clause-version g c = λ asks. inr (inr c.starved.ensures)

pub returns-in-Ok-try_get_matches_from-clause-version : goal.returns-in-Ok-try_get_matches_from-clause-version
returns-in-Ok-try_get_matches_from-clause-version g c = λ asks.
    let words = map string_bytes c.args.words.now in
    let app_is = c.in-Ok.ensures in
    let no_fault = sym (ap (λ a. fault_of a words) app_is) ∙ c.in-Ok-try_get_matches_from.ensures.kinds (ap is_simple_and_free app_is ∙ free) in
    absurd (called _ _ (version_calls words asks) no_fault)

pub returns-in-Err-try_get_matches_from-clause-version : goal.returns-in-Err-try_get_matches_from-clause-version
returns-in-Err-try_get_matches_from-clause-version g c = λ asks.
    let words = map string_bytes c.args.words.now in
    let app_is = c.in-Ok.ensures in
    called_answers _ _ _ _ (version_calls words asks) (subst (λ a. HasKind (fault_of a words) c.in-Err-try_get_matches_from.error) app_is (c.in-Err-try_get_matches_from.ensures.kinds (ap is_simple_and_free app_is ∙ free))) c.tell_words.ensures.memory c.tell_words.ensures.version
