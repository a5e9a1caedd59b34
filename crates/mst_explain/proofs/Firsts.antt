-- The first of claims, and whom it is told against.
use Rattle.std.proofs.Common.{◌≡◌, Bool, true, false, not, List, [], ◌∷◌, Option, Some, None, ◌⊎◌, inl, inr, refl, sym, ap, subst, ◌∙◌, true≢false}
use Rattle.std.specs.Prelude.{◌≢◌, if◌then◌else◌}
use Rattle.std.specs.declared.cmp.Ordering.{Ordering}
use Rattle.std.specs.Ordering.{is_gt}
use Rattle.std.specs.Option.{option_map_or}
use Rattle.std.specs.List.{AllByRecursion, Contains}
use Rattle.std.specs.Cmp.{IsTotalOrder}
use Rattle.std.proofs.lemmas.Cmp.{tied_itself, upto}
use Rattle.mst_ids.specs.declared.name.PortName.{PortName}
use Rattle.mst_vector.specs.Rules.{Rules}
use Rattle.mst_roles.proofs.forest_lemmas.topology_lemmas.Orders.{not_less, less_is_upto}
use Rattle.mst_roles.proofs.forest_lemmas.Lists.{some_is, no_some, all_contained, there_first, there_later}
use Rattle.mst_roles.proofs.Named.{port_is, port_same}
use Rattle.mst_explain.specs.declared.lines.Contest.{Contest}
use Rattle.mst_explain.specs.declared.claims.Claim.{Claim}
use Rattle.mst_explain.specs.declared.claims.Among.{Among}
use Rattle.mst_explain.specs.declared.claims.Among.TheVariants.{All, But, Only}
use Rattle.mst_explain.specs.Claims.{same_key, is_in, better, first_from, rivals_of, rows_of_first, told_rows}
use Rattle.mst_explain.specs.Contest.{IsFirst, IsRival, IsAlone}
use Rattle.mst_explain.specs.Explained.{TellsRival}
use Rattle.mst_explain.specs.Fields.{Field}
use Rattle.mst_explain.specs.Lines.{over_rows, alone_rows}

-- ---- keys
pub key_is : (a b : Option PortName) → same_key a b ≡ true → a ≡ b
key_is None None e = refl
key_is None (Some b) e = absurd (true≢false (sym e))
key_is (Some a) None e = absurd (true≢false (sym e))
key_is (Some a) (Some b) e = ap Some (port_is a b e)

same_itself : (a : Option PortName) → same_key a a ≡ true
same_itself None = refl
same_itself (Some a) = port_same a a refl

pub key_same : (a b : Option PortName) → a ≡ b → same_key a b ≡ true
key_same a b e = ap (same_key a) (sym e) ∙ same_itself a

key_differs : (a b : Option PortName) → a ≢ b → same_key a b ≡ false
key_differs a b n = go (same_key a b) refl
  where
    go : (t : Bool) → same_key a b ≡ t → same_key a b ≡ false
    go true e = absurd (n (key_is a b e))
    go false e = e

-- ---- the first of claims whose keys are among these
module _ {V : Type 0} (order : V → V → Ordering) (total : IsTotalOrder order) (among : Among) where
  -- n is the best so far or the claim d, and neither is lower
  record IsBetter (best : Option (Claim V)) (d n : Claim V) : Type 0 where
    is : (best ≡ Some n) ⊎ (d ≡ n)
    upto_best : (b : Claim V) → best ≡ Some b → is_gt (order n.vector b.vector) ≡ false
    upto_new : is_gt (order n.vector d.vector) ≡ false

  as_good : (x : V) → is_gt (order x x) ≡ false
  as_good x = ap is_gt (tied_itself total x)

  better_is : (best : Option (Claim V)) (d : Claim V) → IsBetter best d (better order best d)
  better_is None d = record { is = inr refl; upto_best = λ b e. absurd (no_some b e); upto_new = as_good d.vector }
  better_is (Some b) d = go (is_gt (order b.vector d.vector)) refl
    where
      go : (g : Bool) → is_gt (order b.vector d.vector) ≡ g → IsBetter (Some b) d (if g then d else b)
      go true g = record {
        is = inr refl;
        upto_best = λ x e. subst (λ (z : Claim V). is_gt (order d.vector z.vector) ≡ false) (some_is b x e)
            (not_less total b.vector d.vector (λ l. true≢false (sym g ∙ less_is_upto total b.vector d.vector l)));
        upto_new = as_good d.vector;
      }
      go false g = record {
        is = inl refl;
        upto_best = λ x e. subst (λ (z : Claim V). is_gt (order b.vector z.vector) ≡ false) (some_is b x e) (as_good b.vector);
        upto_new = g;
      }

  abbrev IsUpto : Claim V → Claim V → Type 0
  IsUpto c d = is_in among d.port ≡ true → is_gt (order c.vector d.vector) ≡ false

  -- c is the first of the best so far and of these claims
  record IsBest (best : Option (Claim V)) (cs : List (Claim V)) (c : Claim V) : Type 0 where
    from : (best ≡ Some c) ⊎ (Contains cs c × (is_in among c.port ≡ true))
    upto_best : (b : Claim V) → best ≡ Some b → is_gt (order c.vector b.vector) ≡ false
    upto_all : AllByRecursion (IsUpto c) cs

  abbrev next : Bool → Option (Claim V) → Claim V → Option (Claim V)
  next t best d = if t then Some (better order best d) else best

  best_is : (best : Option (Claim V)) (cs : List (Claim V)) (c : Claim V) → first_from order among best cs ≡ Some c → IsBest best cs c
  best_is best [] c e = record { from = inl e; upto_best = λ b f. subst (λ (z : Claim V). is_gt (order c.vector z.vector) ≡ false) (some_is c b (sym e ∙ f)) (as_good c.vector); upto_all = tt }
  best_is best (d ∷ cs) c e = go (is_in among d.port) refl e (λ b f. best_is b cs c f)
    where
      go : (t : Bool) → is_in among d.port ≡ t → first_from order among (next t best d) cs ≡ Some c
          → ((b : Option (Claim V)) → first_from order among b cs ≡ Some c → IsBest b cs c) → IsBest best (d ∷ cs) c
      go false f g rest =
          let r = rest best g in
          record {
            from = elim r.from [ inl h ↦ inl h | inr h ↦ inr (there_later c d cs h.0, h.1) ];
            upto_best = r.upto_best;
            upto_all = (λ h. absurd (true≢false (sym h ∙ f)), r.upto_all);
          }
      go true f g rest =
          let n = better order best d in
          let w = better_is best d in
          let r = rest (Some n) g in
          record {
            from = elim r.from [
              | inl h ↦ elim w.is [
                | inl k ↦ inl (k ∙ h)
                | inr k ↦ let same : d ≡ c = k ∙ some_is n c h in inr (subst (Contains (d ∷ cs)) same (there_first d cs), ap (λ (z : Claim V). is_in among z.port) (sym same) ∙ f)
              ]
              | inr h ↦ inr (there_later c d cs h.0, h.1)
            ];
            upto_best = λ b h. upto total c.vector n.vector b.vector (r.upto_best n refl) (w.upto_best b h);
            upto_all = (λ _. upto total c.vector n.vector d.vector (r.upto_best n refl) w.upto_new, r.upto_all);
          }

  none_is : (best : Option (Claim V)) (cs : List (Claim V)) → first_from order among best cs ≡ None → (best ≡ None) × AllByRecursion (λ d. is_in among d.port ≡ false) cs
  none_is best [] e = (e, tt)
  none_is best (d ∷ cs) e = go (is_in among d.port) refl e (λ b f. none_is b cs f)
    where
      go : (t : Bool) → is_in among d.port ≡ t → first_from order among (next t best d) cs ≡ None
          → ((b : Option (Claim V)) → first_from order among b cs ≡ None → (b ≡ None) × AllByRecursion (λ z. is_in among z.port ≡ false) cs)
          → (best ≡ None) × AllByRecursion (λ z. is_in among z.port ≡ false) (d ∷ cs)
      go false f g rest = let r = rest best g in (r.0, (f, r.1))
      go true f g rest = let r = rest (Some (better order best d)) g in absurd (no_some (better order best d) (sym r.0))

  -- c is one of the claims, its key is among these, and no such claim is lower
  record IsFirstClaim (cs : List (Claim V)) (c : Claim V) : Type 0 where
    there : Contains cs c
    passes : is_in among c.port ≡ true
    upto : (d : Claim V) → Contains cs d → is_in among d.port ≡ true → is_gt (order c.vector d.vector) ≡ false

  first_is : (cs : List (Claim V)) (c : Claim V) → first_from order among None cs ≡ Some c → IsFirstClaim cs c
  first_is cs c e =
      let b = best_is None cs c e in
      let f : Contains cs c × (is_in among c.port ≡ true) = elim b.from [ inl h ↦ absurd (no_some c h) | inr h ↦ h ] in
      record { there = f.0; passes = f.1; upto = λ d k. all_contained (IsUpto c) cs d b.upto_all k }

  no_claim : (cs : List (Claim V)) → first_from order among None cs ≡ None → (d : Claim V) → Contains cs d → is_in among d.port ≡ false
  no_claim cs e d k = all_contained (λ (z : Claim V). is_in among z.port ≡ false) cs d (none_is None cs e).1 k

-- a claim of a port
abbrev pub keyed : {V : Type 0} → V → PortName → Claim V
keyed x k = record { port = Some k; vector = x }

-- ---- the claims are what some have
pub record Hold {V : Type 0} (claims : List (Claim V)) (Has : Option PortName → V → Type 0) : Type 0 where
  pub have : (c : Claim V) → Contains claims c → Has c.port c.vector
  pub all : (k : Option PortName) (x : V) → Has k x → Contains claims (record { port = k; vector = x })

module _ {B P V : Type 0} (m : Rules B P V) (total : IsTotalOrder m.order) (fields : V → List Field) (contest : Contest) (me : Option PortName) (claims : List (Claim V))
    (Has : Option PortName → V → Type 0) (hold : Hold claims Has) where
  abbrev claim : Option PortName → V → Claim V
  claim k x = record { port = k; vector = x }

  first_told : (c : Claim V) → first_from m.order All None claims ≡ Some c → IsFirst m Has c.port c.vector
  first_told c e =
      let r = first_is m.order total All claims c e in
      record { has = hold.have c r.there; upto = λ d y h. r.upto (claim d y) (hold.all d y h) refl }

  not_true : (b : Bool) → not b ≡ true → b ≡ false
  not_true true e = absurd (true≢false (sym e))
  not_true false e = refl

  rival_told : (c d : Claim V) → first_from m.order (rivals_of c.port me) None claims ≡ Some d → IsRival m Has me c.port d.port d.vector
  rival_told c d e = go (same_key c.port me) refl e
    where
      go : (t : Bool) → same_key c.port me ≡ t → first_from m.order (if t then But c.port else Only me) None claims ≡ Some d → IsRival m Has me c.port d.port d.vector
      go true f g =
          let r = first_is m.order total (But c.port) claims d g in
          record {
            has = hold.have d r.there;
            other = λ h. true≢false (sym (key_same d.port c.port h) ∙ not_true (same_key d.port c.port) r.passes);
            itself = λ h. absurd (h (sym (key_is c.port me f)));
            next = λ _ k z n h. r.upto (claim k z) (hold.all k z h) (ap not (key_differs k c.port n));
          }
      go false f g =
          let r = first_is m.order total (Only me) claims d g in
          let mine : d.port ≡ me = key_is d.port me r.passes in
          record {
            has = hold.have d r.there;
            other = λ h. true≢false (sym (key_same c.port me (sym h ∙ mine)) ∙ f);
            itself = λ _. mine;
            next = λ h. absurd (true≢false (sym (key_same c.port me (sym h)) ∙ f));
          }

  alone_told : (x : V) → Has me x → (c : Claim V) → first_from m.order (rivals_of c.port me) None claims ≡ None → IsAlone m Has c.port
  alone_told x mine c e = go (same_key c.port me) refl e
    where
      go : (t : Bool) → same_key c.port me ≡ t → first_from m.order (if t then But c.port else Only me) None claims ≡ None → IsAlone m Has c.port
      go true f g = λ k y h. by_test k y h (same_key k c.port) refl
        where
          by_test : (k : Option PortName) (y : V) → Has k y → (s : Bool) → same_key k c.port ≡ s → k ≡ c.port
          by_test k y h true i = key_is k c.port i
          by_test k y h false i = absurd (true≢false (sym (ap not i) ∙ no_claim m.order total (But c.port) claims g (claim k y) (hold.all k y h)))
      go false f g = absurd (true≢false (sym (same_itself me) ∙ no_claim m.order total (Only me) claims g (claim me x) (hold.all me x mine)))

  -- the rows tell the first, against its rival or alone
  pub record IsTold : Type 0 where
    pub first : Option PortName
    pub vector : V
    pub is_first : IsFirst m Has first vector
    pub told : TellsRival m fields Has me first vector (over_rows contest first) (told_rows m.order fields contest me claims)
        ⊎ (IsAlone m Has first × (told_rows m.order fields contest me claims ≡ alone_rows contest first))

  pub told_is : (x : V) → Has me x → IsTold
  told_is x mine = go (first_from m.order All None claims) refl
    where
      rival : Claim V → Option (Claim V)
      rival c = first_from m.order (rivals_of c.port me) None claims

      go : (o : Option (Claim V)) → first_from m.order All None claims ≡ o → IsTold
      go None e = absurd (true≢false (no_claim m.order total All claims e (claim me x) (hold.all me x mine)))
      go (Some c) e = by_rival (rival c) refl
        where
          told : told_rows m.order fields contest me claims ≡ rows_of_first fields contest c (rival c)
          told = ap (λ o. option_map_or (λ (z : Claim V). rows_of_first fields contest z (rival z)) o []) e

          by_rival : (r : Option (Claim V)) → rival c ≡ r → IsTold
          by_rival None f = record { first = c.port; vector = c.vector; is_first = first_told c e; told = inr (alone_told x mine c f, told ∙ ap (rows_of_first fields contest c) f) }
          by_rival (Some d) f = record {
            first = c.port;
            vector = c.vector;
            is_first = first_told c e;
            told = inl (record { rival = d.port; vector = d.vector; is_rival = rival_told c d f; is = told ∙ ap (rows_of_first fields contest c) f });
          }
