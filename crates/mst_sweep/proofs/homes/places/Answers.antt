use Rattle.std.proofs.Common.{◌<◌, ◌≤◌, nat_eq, Bool, Some, None, cond, sym, ap, ◌∙◌, arith, length}
use Rattle.std.specs.List.{list_any}
use Rattle.std.specs.Option.{option_or}
use Rattle.std.proofs.lemmas.List.{length-take-le}
use Rattle.mst_vlan.specs.declared.island.Island.{Island}
use Rattle.mst_sweep.proofs.HomesNamed.{position_more}
use Rattle.mst_sweep.proofs.homes.places.Goals as goal

pub loop-place-preserved : goal.loop-place-preserved
loop-place-preserved c = λ q.
    let l = c.loop-place in
    let islands = c.args.islands.now in
    let island = c.index-islands-place.result in
    let test : Island → Bool = λ i. list_any (nat_eq q) i.bridges in
    let below : l.place < length islands = c.loop-place-test.true in
    let within : l.place ≤ length islands = omega arith in
    let bridges = c.as_slice.ensures ∙ ap (λ (i : Island). i.bridges) (sym c.index-islands-place.is) in
    c.in_ok-add_island.ensures {u = tt} q
    ∙ (λ i. option_or (l.invariant q i) (cond (list_any (nat_eq q) (bridges i)) (Some l.place) None))
    ∙ sym (position_more test islands l.place island below c.index-islands-place.is (length-take-le l.place islands within))
