use Rattle.std.proofs.Common.{◌∙◌, List, ℕ, Bor, ap}
use Rattle.std.specs.Option.{option_map}
use Rattle.mst_hints.specs.Near.{is_within_two}
use Rattle.mst_hints.proofs.Tables.{text_found}
use Rattle.mst_hints.proofs.form.command_by_two.Goals as goal

pub returns : goal.returns
returns c = ap (option_map (λ (text : Bor (List ℕ)). text.now)) c.first_by_two.ensures ∙ text_found (λ text. is_within_two text c.args.word.now) c.forms.result.now c.forms.ensures
