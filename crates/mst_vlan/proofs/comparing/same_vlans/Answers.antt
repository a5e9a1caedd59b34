use Rattle.std.proofs.Common.{◌≡◌, ◌<◌, ℕ, Bool, true, false, List, [], length, get_or, sym, ap, subst, ◌∙◌, arith}
use Rattle.std.specs.Bool.{beq}
use Rattle.std.proofs.lemmas.Grind.{common_steps}
use Rattle.std.proofs.lemmas.List.{length-map}
use Rattle.mst_tables.specs.ByTree.{vlans_in}
use Rattle.mst_vlan.specs.Kept.{seen_vlans}
use Rattle.mst_vlan.proofs.Lists.{equal_flags, equal_lists, one_more_flag, value_at}
use Rattle.mst_vlan.proofs.comparing.same_vlans.Goals as goal

pub loop-place-preserved : goal.loop-place-preserved
loop-place-preserved c =
    let v = c.args.old.now.view in
    let w = c.args.new.now.view in
    let place : ℕ = c.loop-place.place in
    let set : List Bool = c.index-vlans-place.result in
    let other : List Bool = c.index-others-place.result in
    let flags : List Bool = c.loop-place.flags.items in
    let below : place < length c.vlans-vlans.result.now = c.loop-place-test.true in
    let lengths : length c.vlans-vlans.result.now ≡ length c.vlans-others.result.now =
    ap length c.vlans-vlans.ensures ∙ length-map v.ports (λ p. vlans_in v.settings.vlans p.name) ∙ c.requires ∙ sym (length-map w.ports (λ p. vlans_in w.settings.vlans p.name)) ∙ ap length (sym c.vlans-others.ensures) in
    let set_is : get_or (seen_vlans v) place [] ≡ set = ap (λ sets. get_or sets place []) (sym c.vlans-vlans.ensures) ∙ value_at c.vlans-vlans.result.now place set [] below c.index-vlans-place.is in
    let other_is : get_or (seen_vlans w) place [] ≡ other =
    ap (λ sets. get_or sets place []) (sym c.vlans-others.ensures) ∙ value_at c.vlans-others.result.now place other [] (subst (λ n. place < n) lengths below) c.index-others-place.is in
    let P : ℕ → Type 0 = λ i. get_or (seen_vlans v) i [] ≡ get_or (seen_vlans w) i [] in
    let last : c.eq.result ≡ true → P (length flags) = λ e. subst P (sym c.loop-place.invariant.as_long) (set_is ∙ equal_lists beq equal_flags set other (sym c.eq.ensures ∙ e) ∙ sym other_is) in
    record {
      same = λ i e. one_more_flag P flags c.eq.result c.loop-place.invariant.same last i (subst (λ l. get_or l i false ≡ true) c.in_ok-push.ensures.items e);
      as_long = grind (arith, common_steps);
    }
