use Rattle.std.proofs.Common.{◌==◌, rules, tests}
use Rattle.std.proofs.lemmas.Iterator.Search.{any_from_yields_List}
use Rattle.std.proofs.lemmas.Iterator.Splits.{YieldsList-from_slice_split}
use Rattle.mst_lang.specs.Arguments.{is_text}
use Rattle.mst_policy.proofs.arguments.has_item.Goals as goal

pub returns : goal.returns
returns c =
    any_from_yields_List (λ other. is_text other c.args.item.now) _ _ c.any.result c.any.ensures.ran
    (YieldsList-from_slice_split _ (λ b. b == 44) c.args.word.now (cc) (cc) (cc) (λ x b q k. search (rules, tests)))
    (λ x b q k. search (rules, tests))
