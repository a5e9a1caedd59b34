use Rattle.std.proofs.Common.{◌≡◌, ℕ, ◌+◌, length, get_or, nat_eq, ◌&&◌, refl, ap, ◌∙◌, arith}
use Rattle.std.proofs.lemmas.Bool.{and_parts, eqb-true}
use Rattle.mst_tables.specs.Table.{tree_in}
use Rattle.mst_classes.proofs.Split.{key_pushed, tree_at, is_split, keys_long, numbers_small}
use Rattle.mst_classes.proofs.by_table.split_by_keys.Goals as goal

pub loop-place-preserved : goal.loop-place-preserved
loop-place-preserved c =
    let numbers = c.args.numbers.now in
    let table = c.args.table.now in
    let i : ℕ = c.loop-place.place in
    let t = c.index-trees-place.result in
    let long : length table ≡ 4094 = c.trees-trees.ensures.long in
    let tree : t ≡ tree_in table (i + 1) = tree_at table i t (omega arith) (c.index-trees-place.is ∙ ap (λ ts. get_or ts i t) c.trees-trees.ensures.trees) in
    key_pushed (tree_in table) numbers i i t c.loop-place.keys.items c.push.new.self.items c.in_ok-push.ensures.items c.loop-place.invariant refl tree

pub returns-clause-split : goal.returns-clause-split
returns-clause-split c =
    let all : c.loop-place.place ≡ 4094 = omega arith in
    is_split (λ (p q : ℕ × ℕ). nat_eq p.0 q.0 && nat_eq p.1 q.1)
    (λ p q e. let parts = and_parts (nat_eq p.0 q.0) (nat_eq p.1 q.1) e in (eqb-true p.0 q.0 parts.0, eqb-true p.1 q.1 parts.1))
    (tree_in c.args.table.now) c.args.numbers.now c.in_ok-split.field-0.numbers.items c.in_ok-split.field-0.firsts.items c.loop-place.keys.items c.loop-place.place all c.loop-place.invariant c.in_ok-split.ensures

pub returns-clause-small : goal.returns-clause-small
returns-clause-small c =
    let all : c.loop-place.place ≡ 4094 = omega arith in
    numbers_small (λ (p q : ℕ × ℕ). nat_eq p.0 q.0 && nat_eq p.1 q.1) c.loop-place.keys.items c.in_ok-split.field-0.numbers.items c.in_ok-split.field-0.firsts.items c.in_ok-split.ensures 4094 (omega arith)
    (keys_long (tree_in c.args.table.now) c.args.numbers.now c.loop-place.keys.items c.loop-place.place c.loop-place.invariant ∙ all)
