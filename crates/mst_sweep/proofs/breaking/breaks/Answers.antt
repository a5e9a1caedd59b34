use Rattle.std.proofs.Common.{◌≡◌, ◌+◌, ℕ, Bool, not, true, false, List, [], get_or, refl, sym, ap, subst, ◌∙◌, arith, rules}
use Rattle.std.proofs.lemmas.Grind.{common_steps}
use Rattle.mst_sweep.specs.Parts.{AreParts}
use Rattle.mst_sweep.proofs.Unlinked.{no_parts_of}
use Rattle.mst_sweep.proofs.breaking.breaks.Goals as goal

is_set : (b : Bool) → not b ≡ false → b ≡ true
is_set true e = refl
is_set false e = sym e

pub returns : goal.returns
returns c e a b n k is are of so left =
    let v = c.args.old.now.view.now in
    let w = c.args.new.now.view.now in
    let f = c.args.old.now.forest.now in
    let g = c.args.new.now.forest.now in
    let i : ℕ = c.args.class in
    let firsts : List ℕ = c.args.baseline.now.classes.firsts.items in
    let read : c.unwrap-vid.result ≡ get_or c.as_slice-firsts.result.now i 0 + 1 = first_of (grind (arith, common_steps), search (rules, common_steps)) in
    let vid : c.unwrap-vid.result ≡ get_or firsts i 0 + 1 = read ∙ ap (λ xs. get_or xs i 0 + 1) c.as_slice-firsts.ensures.value in
    let kept = c.breaks_no_link.ensures (is_set c.breaks_no_link.result e) in
    let olds = c.islands_of_vid.ensures.some a is.outcome c.unwrap-vid.result of.network in
    let news = c.islands_of_vid.ensures.some b are.outcome c.unwrap-vid.result so.network in
    subst (λ vid. AreParts a is.outcome b are.outcome vid []) vid
    (no_parts_of a b n k v w f g of so is are left c.unwrap-vid.result c.args.touched.now c.requires.touched kept olds.0 news.0 olds.1 news.1)
