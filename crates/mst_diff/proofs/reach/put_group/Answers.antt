use Rattle.std.proofs.Common.{◌≡◌, ◌-◌, ◌≤◌, ◌++◌, ℕ, List, get_or, ap, subst, ◌∙◌}
use Rattle.std.proofs.lemmas.Result.{on_ok_weaker}
use Rattle.mst_rows.specs.Rows.{Row}
use Rattle.mst_diff.proofs.SidesGrouped.{by_first}
use Rattle.mst_diff.proofs.reach.put_group.Goals as goal

pub returns : goal.returns
returns g c first rows grew =
    let vid = c.in-Some.vid.now in
    let number : c.from.result ≡ vid = c.from.ensures ∙ c.value.ensures.value in
    let item = c.in-Some.ensures.item in
    let s = c.index-sides-number.result in
    let at = c.index-sides-number.is ∙ ap (λ (n : ℕ). get_or c.args.sides.now (get_or c.args.numbers.now (n - 1) 0) s) number in
    let range = subst (λ (n : ℕ). (1 ≤ n) × (n ≤ 4094)) c.value.ensures.value c.value.ensures.range in
    on_ok_weaker c.put_sides.result
    (subst (λ (own : List Row). g.R.Rows.grew first c.put_sides.new.out (rows ++ own)) (by_first c.args.numbers.now c.args.sides.now c.requires c.args.group.now vid s range.0 range.1 at item.3.0 item.1))
    (c.put_sides.ensures first rows grew)
