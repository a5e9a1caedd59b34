use Rattle.std.proofs.lemmas.Result.{IfOk-weaker}
use Rattle.mst_classes.proofs.Split.{both_told}
use Rattle.mst_classes.proofs.alike.numbers_of_vids.Goals as goal

pub returns : goal.returns
returns c =
    IfOk-weaker c.split_by_sets.result _ _ (λ split new. both_told c.args.tables.now c.args.sets.now c.in_ok-numbers.numbers.items split.items c.in_ok-numbers.ensures.told new) c.split_by_sets.ensures
