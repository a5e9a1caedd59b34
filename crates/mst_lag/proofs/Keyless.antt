-- Where no plug has a key no LAN is aggregatable.
use Rattle.std.proofs.Common.{◌≡◌, Bool, true, false, cond, not, ◌&&◌, nat_eq, nat_le, List, [], ◌∷◌, Some, None, refl, sym, ap, ◌∙◌, true≢false}
use Rattle.std.specs.List.{AllByRecursion, filter, list_all}
use Rattle.std.proofs.lemmas.Bool.{eqb-true}
use Rattle.mst_view.specs.Aggregation.{same_name}
use Rattle.mst_lag.specs.Seen.{plug_side, collected, class_of}
use Rattle.mst_lag.specs.declared.plugs.PlugSeen.{PlugSeen}
use Rattle.mst_lag.specs.declared.classes.Class.{Class}
use Rattle.mst_view.proofs.Lists.{all_filtered}

first_true : (a b : Bool) → (a && b) ≡ true → a ≡ true
first_true true b h = refl
first_true false b h = absurd (true≢false (sym h))

second_true : (a b : Bool) → (a && b) ≡ true → b ≡ true
second_true true b h = h
second_true false b h = absurd (true≢false (sym h))

no_keys : (ps : List PlugSeen) → list_all (λ p. nat_eq p.settings.key 0) ps ≡ true → AllByRecursion (λ p. p.settings.key ≡ 0) ps
no_keys [] h = tt
no_keys (p ∷ ps) h =
    let rest : Bool = list_all (λ (p : PlugSeen). nat_eq p.settings.key 0) ps in
    (eqb-true p.settings.key 0 (first_true (nat_eq p.settings.key 0) rest h), no_keys ps (second_true (nat_eq p.settings.key 0) rest h))

no_side : (a b : Bool) (c : Class) → cond (a && false && b) (Some c) None ≡ None
no_side true b c = refl
no_side false b c = refl

keyless_pair : (p q : PlugSeen) → p.settings.key ≡ 0 → class_of (collected (p ∷ q ∷ [])) ≡ None
keyless_pair p q e =
    let c : Class = record { first = plug_side p; second = plug_side q } in
    ap (λ k. cond (not (same_name p.port.bridge q.port.bridge) && nat_le 1 k && nat_le 1 q.settings.key) (Some c) None) e
    ∙ no_side (not (same_name p.port.bridge q.port.bridge)) (nat_le 1 q.settings.key) c

keyless : (ps : List PlugSeen) → AllByRecursion (λ p. p.settings.key ≡ 0) ps → class_of (collected ps) ≡ None
keyless [] h = refl
keyless (p ∷ []) h = refl
keyless (p ∷ q ∷ []) h = keyless_pair p q h.0
keyless (p ∷ q ∷ r ∷ rs) h = refl

pub no_class : (test : PlugSeen → Bool) (ps : List PlugSeen) → list_all (λ p. nat_eq p.settings.key 0) ps ≡ true → class_of (collected (filter test ps)) ≡ None
no_class test ps h = keyless (filter test ps) (all_filtered (λ p. p.settings.key ≡ 0) test ps (no_keys ps h))
