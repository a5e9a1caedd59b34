use Rattle.std.proofs.Common.{ℕ, ◌*◌, ◌<◌, ◌≤◌, get_or, arith}
use Rattle.std.proofs.Math.Nat.{mul-le-mul_right}
use Rattle.mst_classes.proofs.by_table.pairs.Goals as goal

-- both are small
small_product : (n width : ℕ) → n < 4096 → width ≤ 4096 → n * width ≤ 16777216
small_product n width l m = let more : n * width ≤ 4096 * width = mul-le-mul_right width (omega arith) in omega arith

pub overflow_mul-key : goal.overflow_mul-key
overflow_mul-key c =
    let product = small_product (get_or c.args.numbers.now c.loop-place.place 0) c.args.width (c.requires.small c.loop-place.place) c.requires.width in
    omega (arith, product)

pub overflow_add-key : goal.overflow_add-key
overflow_add-key c =
    let product = small_product (get_or c.args.numbers.now c.loop-place.place 0) c.args.width (c.requires.small c.loop-place.place) c.requires.width in
    let below = c.requires.below c.loop-place.place in
    let width = c.requires.width in
    omega (arith, product, below, width)
