use Rattle.std.proofs.Common.{◌∙◌, List, ℕ, Bor, ap}
use Rattle.std.specs.Option.{option_map}
use Rattle.mst_policy_hints.specs.Near.{is_near}
use Rattle.mst_policy_hints.proofs.Tables.{word_found}
use Rattle.mst_policy_hints.proofs.near.expectation_near.Goals as goal

pub returns : goal.returns
returns c = ap (option_map (λ (text : Bor (List ℕ)). text.now)) c.first_near.ensures ∙ word_found (λ text. is_near c.args.near text c.args.word.now) c.forms.result.now c.forms.ensures
