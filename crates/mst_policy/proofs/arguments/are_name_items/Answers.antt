use Rattle.std.proofs.Common.{◌==◌, is_some, rules, tests}
use Rattle.std.proofs.lemmas.Iterator.Search.{all_from_yields_List}
use Rattle.std.proofs.lemmas.Iterator.Splits.{YieldsList-from_slice_split}
use Rattle.mst_policy.specs.Arguments.{name_item}
use Rattle.mst_policy.proofs.arguments.are_name_items.Goals as goal

pub returns : goal.returns
returns c =
    all_from_yields_List (λ item. is_some (name_item item)) _ _ c.all.result c.all.ensures.ran
    (YieldsList-from_slice_split _ (λ b. b == 44) c.args.word.now (cc) (cc) (cc) (λ x b q k. search (rules, tests)))
    (λ x b q k. search (rules, tests))
