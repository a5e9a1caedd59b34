use Rattle.std.proofs.Common.{ℕ, Option, Vec, Global, subst}
use Rattle.std.specs.Prelude.{IfSome}
use Rattle.mst_classes.specs.Pairs.{ArePairs}
use Rattle.mst_classes.proofs.Pairing.{pairs_split}
use Rattle.mst_classes.proofs.by_table.split_by_table.Goals as goal

pub returns-clause-split : goal.returns-clause-split
returns-clause-split c =
    let numbers = c.args.numbers.now in
    let others = c.in_ok-trees-2.trees.numbers.items in
    let width = c.in_ok-trees-2.trees.next in
    let keys = c.in-Some.keys.items in
    let given = c.as_slice.result.now in
    let made : ArePairs numbers given width keys =
    subst (λ (o : Option (Vec ℕ Global)). IfSome o (λ ks. ArePairs numbers given width ks.items)) c.in-Some.is c.in_ok-keys.ensures in
    let pairs : ArePairs numbers others width keys = subst (λ os. ArePairs numbers os width keys) c.as_slice.ensures.value made in
    pairs_split c.args.table.now numbers c.in_ok-trees.trees.items others width keys c.in_ok-split.split.numbers.items c.in_ok-trees.ensures.trees
    c.in_ok-trees-2.ensures.split c.in_ok-trees-2.ensures.ready.below pairs c.in_ok-split.ensures.ready.as_long c.in_ok-split.ensures.split
