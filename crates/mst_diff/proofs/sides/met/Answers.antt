use Rattle.std.proofs.Common.{Vec, Global, ◌≡◌, ◌+◌, ◌∷◌, [], ◌++◌, List, ℕ, map, sym, ap, subst, ◌∙◌, take}
use Rattle.std.specs.Prelude.{if◌then◌else◌}
use Rattle.std.specs.Borrow.{Bor}
use Rattle.std.specs.List.{list_any}
use Rattle.mst_diff.specs.Met.{AreMet}
use Rattle.mst_diff.specs.Reach.{same_names}
use Rattle.mst_diff.proofs.MetSides.{items_more, met_more}
use Rattle.mst_diff.proofs.sides.met.Goals as goal

abbrev items : Vec (List ℕ) Global → List (List ℕ)
items group = group.items

pub loop-group-preserved : goal.loop-group-preserved
loop-group-preserved c =
    let l = c.loop-group in
    let groups = c.args.groups.now in
    let before : List (List (List ℕ)) = map items (take l.group-index groups) in
    let key = c.as_slice.result in
    let more : before ++ key.now ∷ [] ≡ map items (take (l.group-index + 1) groups) =
    ap (λ group. before ++ group ∷ []) c.as_slice.ensures.value ∙ sym (items_more groups l.group-index c.group-item.result c.loop-group-test.true c.group-item.is) in
    subst (λ keys. AreMet (map items (take (l.group-index + 1) groups)) keys) (sym c.in_ok-insert.ensures.keys)
    (subst (λ all. AreMet all (if list_any (λ (other : Bor (List (List ℕ))). same_names key.now other.now) l.met.keys then l.met.keys else l.met.keys ++ key ∷ [])) more (met_more before l.met.keys l.invariant key))
