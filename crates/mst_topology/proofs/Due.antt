-- What is due at a bridge, and how vectors or none compare.
use Rattle.std.proofs.Common.{◌≡◌, ◌≢◌, Option, Some, None, refl, sym, ◌∙◌, ap, subst, inl, inr, ◌⊎◌, Less, Equal, Greater}
use Rattle.std.specs.declared.cmp.Ordering.{Ordering}
use Rattle.std.proofs.lemmas.Cmp.{tied_itself}
use Rattle.mst_vector.specs.Rules.{Rules, IsMetric}
use Rattle.mst_topology.specs.Topology.{Topology, IsTopology, HasBridge, KeyTests}
use Rattle.mst_topology.specs.Settled.{IsVectorOf, Settled}
use Rattle.mst_topology.specs.Repair.{IsDue}
use Rattle.mst_topology.proofs.Search.{some_is}
use Rattle.mst_topology.proofs.Offers.{bridge_among, found, lost, least_of}
use Rattle.mst_topology.proofs.Orders.{both}

module _ {B P V : Type 0} (m : Rules B P V) (law : IsMetric m) where
  -- two vectors, or none, are the same or not
  pub same_or_not : (a b : Option V) → (a ≡ b) ⊎ (a ≢ b)
  same_or_not None None = inl refl
  same_or_not None (Some y) = inr (λ e. cc)
  same_or_not (Some x) None = inr (λ e. cc)
  same_or_not (Some x) (Some y) = go (m.order x y) refl
    where
      differ : (r : Ordering) → m.order x y ≡ r → r ≢ Equal → Some x ≢ Some y
      differ r e other s = other (sym e ∙ ap (m.order x) (sym (some_is x y s)) ∙ tied_itself law.total x)

      go : (r : Ordering) → m.order x y ≡ r → (Some x ≡ Some y) ⊎ (Some x ≢ Some y)
      go Less e = inr (differ Less e (λ s. cc))
      go Equal e = inl (ap Some (law.equal x y e))
      go Greater e = inr (differ Greater e (λ s. cc))

module _ {N L K B P V : Type 0} (m : Rules B P V) (law : IsMetric m) (t : Topology N L K B P) (ok : IsTopology m t) (v : N → Option V) where
  -- one vector is due
  pub one_due : (n : N) (o p : Option V) → IsDue m t v n o → IsDue m t v n p → o ≡ p
  one_due n None None d e = refl
  one_due n None (Some y) d e = absurd (d e.0 e.1)
  one_due n (Some x) None d e = absurd (e d.0 d.1)
  one_due n (Some x) (Some y) d e =
      let same : e.0 ≡ d.0 = ok.one_bridge n e.0 d.0 e.1 d.1 in
      let there : IsVectorOf m t v n d.0 y = rw same at e.2 in
      ap Some (law.equal x y (both law.total x y (d.2.upto y there.can_take) (there.upto x d.2.can_take)))

  -- settled: each bridge has what is due
  pub settled_due : Settled m t v → (n : N) → IsDue m t v n (v n)
  settled_due s n = go (v n) refl
    where
      go : (o : Option V) → v n ≡ o → IsDue m t v n o
      go None e = λ b h. let x = s.has_vector n b h in let f = x.1 in cc
      go (Some x) e = let c = s.is_bridge n x e in (c.0, c.1, s.bridges n c.0 x c.1 e)

  pub due_settled : ((n : N) → IsDue m t v n (v n)) → Settled m t v
  due_settled d = record {
    has_vector = λ n b h. has n b h (v n) refl;
    is_bridge = λ n x e. let c : IsDue m t v n (Some x) = subst (λ o. IsDue m t v n o) e (d n) in (c.0, c.1);
    bridges = λ n b x h e. let c : IsDue m t v n (Some x) = subst (λ o. IsDue m t v n o) e (d n) in
        let same : c.0 ≡ b = ok.one_bridge n c.0 b c.1 h in rw same at c.2;
  }
    where
      has : (n : N) (b : B) → HasBridge t n b → (o : Option V) → v n ≡ o → (x : V) × (v n ≡ Some x)
      has n b h (Some x) e = (x, e)
      has n b h None e = let c : IsDue m t v n None = subst (λ o. IsDue m t v n o) e (d n) in absurd (c b h)

  -- something is due at each key
  pub due_of : KeyTests N L → (n : N) → (o : Option V) × IsDue m t v n o
  due_of tests n = go (bridge_among tests.same_bridge t.bridges n) refl
    where
      go : (c : Option B) → bridge_among tests.same_bridge t.bridges n ≡ c → (o : Option V) × IsDue m t v n o
      go None e = (None, λ b h. lost tests t n b h e)
      go (Some b) e = let h = found tests t n b e in let x = least_of m law t ok tests v n b h in (Some x.0, (b, h, x.1))
