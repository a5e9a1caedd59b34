use Rattle.std.proofs.Common.{◌≡◌, nat_eq, ◌<◌, ◌≤◌, Bool, true, false, not, length, take, refl, sym, ap, subst, ◌∙◌, true≢false}
use Rattle.std.proofs.lemmas.Bool.{eqb-true}
use Rattle.std.proofs.lemmas.Cmp.{nat_list_eq_equiv}
use Rattle.std.proofs.lemmas.List.{get_or_default, take_all, take_more_same}
use Rattle.std.specs.Cmp.Lexicographic.{pointwise}
use Rattle.mst_sweeping.proofs.restarts.is_same_table.Goals as goal

is_true : (b : Bool) → false ≡ not b → b ≡ true
is_true true e = refl
is_true false e = absurd (true≢false (sym e))

pub loop-place-init : goal.loop-place-init
loop-place-init c = refl

pub loop-place-preserved : goal.loop-place-preserved
loop-place-preserved c =
    let ours = c.trees-ours.result.now in
    let theirs = c.trees-theirs.result.now in
    let i = c.loop-place.place in
    let x = c.index-ours-place.result in
    let y = c.index-theirs-place.result in
    let in_ours : i < length ours = subst (λ n. i < n) (sym (ap length c.trees-ours.ensures.trees ∙ c.trees-ours.ensures.long)) c.loop-place-test.true in
    let in_theirs : i < length theirs = subst (λ n. i < n) (sym (ap length c.trees-theirs.ensures.trees ∙ c.trees-theirs.ensures.long)) c.loop-place-test.true in
    let same : x ≡ y = eqb-true x y (is_true (nat_eq x y) c.if-ne.ensures) in
    take_more_same ours theirs i x in_ours in_theirs c.loop-place.invariant
    (sym c.index-ours-place.is ∙ same ∙ c.index-theirs-place.is ∙ get_or_default theirs i y x in_theirs)

pub returns : goal.returns
returns c =
    let ours = c.trees-ours.result.now in
    let theirs = c.trees-theirs.result.now in
    let n = c.loop-place.place in
    let whole : take n ours ≡ c.args.table.now =
    take_all n ours (subst (λ l. l ≤ n) (sym (ap length c.trees-ours.ensures.trees ∙ c.trees-ours.ensures.long)) c.loop-place-test.false) ∙ c.trees-ours.ensures.trees in
    let other : take n theirs ≡ c.args.other.now =
    take_all n theirs (subst (λ l. l ≤ n) (sym (ap length c.trees-theirs.ensures.trees ∙ c.trees-theirs.ensures.long)) c.loop-place-test.false) ∙ c.trees-theirs.ensures.trees in
    let same : c.args.table.now ≡ c.args.other.now = sym whole ∙ c.loop-place.invariant ∙ other in
    sym (nat_list_eq_equiv.refl c.args.table.now) ∙ ap (pointwise nat_eq c.args.table.now) same
