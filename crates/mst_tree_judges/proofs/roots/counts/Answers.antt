use Rattle.std.proofs.Common.{◌≡◌, ◌+◌, ℕ, Some, cond, nat_eq, ap, ◌∙◌, arith}
use Rattle.std.specs.Prelude.{unwrap_or}
use Rattle.indexmap.specs.IndexMap.{get}
use Rattle.mst_tree_judges.proofs.RootsSeen.{counts_more, naming_below}
use Rattle.mst_tree_judges.proofs.roots.counts.Goals as goal

pub overflow_add-count : goal.overflow_add-count
overflow_add-count c =
    let l = c.loop-follower in
    let counted = c.count_of-count.ensures ∙ ap (λ id. unwrap_or (get nat_eq l.counts id) 0) c.number-root.ensures ∙ l.invariant c.follower-item.result.root in
    let low = naming_below c.follower-item.result.root c.args.followers.now l.follower-index c.loop-follower-test.true in
    omega (arith, counted, low)

pub loop-follower-preserved : goal.loop-follower-preserved
loop-follower-preserved c =
    let l = c.loop-follower in
    let item = c.follower-item.result in
    let root : c.number-root.result ≡ item.root = c.number-root.ensures in
    let count : ℕ = c.count_of-count.result in
    counts_more c.args.followers.now l.follower-index item c.loop-follower-test.true c.follower-item.is (get nat_eq l.counts) (get nat_eq c.insert.new.self) l.invariant count
    (c.count_of-count.ensures ∙ ap (λ id. unwrap_or (get nat_eq l.counts id) 0) root)
    (λ q. c.in_ok-insert.ensures.updates.0 q ∙ ap (λ k. cond (nat_eq k q) (Some (count + 1)) (get nat_eq l.counts q)) root)
