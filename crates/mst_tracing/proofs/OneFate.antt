-- What becomes of a path after failures is one thing.
use Rattle.std.proofs.Common.{◌≡◌, ◌≢◌, ◌⊎◌, inl, inr, ℕ, Bool, true, false, List, [], ◌∷◌, Option, Some, None, refl, sym, ap, subst, ◌∙◌}
use Rattle.std.specs.List.{AllZip}
use Rattle.mst_ids.specs.declared.name.PortName.{PortName}
use Rattle.mst_net.specs.tables.Tables.{Net, IsNetwork, port_eq}
use Rattle.mst_path.specs.Paths.{Hop, HopTold, IsPathOf, hop_told, hops_told, path_told}
use Rattle.mst_path.specs.declared.trace.Trace.{Trace}
use Rattle.mst_path.proofs.Names.{name_cases}
use Rattle.mst_roles.specs.forest.Outcome.{Outcome, IsOutcome}
use Rattle.mst_rows.specs.Rows.{Row}
use Rattle.mst_view.proofs.Names.{own_port, same_ports}
use Rattle.mst_sweeping.specs.sweep.Failures.{failed}
use Rattle.mst_sweeping.specs.sweep.declared.failure.Failure.{Failure}
use Rattle.mst_sweeping.proofs.sweep_lemmas.Together.{failed_network}
use Rattle.mst_tracing.specs.Fates.{HasPathIn, IsFate, IsFateTold, Told}
use Rattle.mst_tracing.specs.declared.always.Fate.{Fate}

-- ---- two paths are the same or not
ports_or_not : (p q : PortName) → (p ≡ q) ⊎ (p ≢ q)
ports_or_not p q = go (port_eq p q) refl
  where
    true_false : true ≡ false → ⊥
    true_false e = cc

    go : (b : Bool) → port_eq p q ≡ b → (p ≡ q) ⊎ (p ≢ q)
    go true e = inl (same_ports p q e)
    go false e = inr (λ same. true_false (sym (own_port p) ∙ ap (port_eq p) same ∙ e))

hop_or_not : (h k : Hop) → (hop_told h ≡ hop_told k) ⊎ (hop_told h ≢ hop_told k)
hop_or_not h k = go (ports_or_not h.leaving.name k.leaving.name) (name_cases h.leaving.lan k.leaving.lan) (ports_or_not h.arriving.name k.arriving.name)
  where
    go : (h.leaving.name ≡ k.leaving.name) ⊎ (h.leaving.name ≢ k.leaving.name) → (h.leaving.lan ≡ k.leaving.lan) ⊎ (h.leaving.lan ≢ k.leaving.lan) → (h.arriving.name ≡ k.arriving.name) ⊎ (h.arriving.name ≢ k.arriving.name)
        → (hop_told h ≡ hop_told k) ⊎ (hop_told h ≢ hop_told k)
    go (inr n) lan arriving = inr (λ e. n (ap (λ (t : HopTold). t.leaving) e))
    go (inl a) (inr n) arriving = inr (λ e. n (ap (λ (t : HopTold). t.lan) e))
    go (inl a) (inl b) (inr n) = inr (λ e. n (ap (λ (t : HopTold). t.arriving) e))
    go (inl a) (inl b) (inl c) = inl (λ i. record { leaving = a i; lan = b i; arriving = c i })

hops_or_not : (hops others : List Hop) → (hops_told hops ≡ hops_told others) ⊎ (hops_told hops ≢ hops_told others)
hops_or_not [] [] = inl refl
hops_or_not [] (k ∷ ks) = inr (λ e. cc)
hops_or_not (h ∷ hs) [] = inr (λ e. cc)
hops_or_not (h ∷ hs) (k ∷ ks) = go (hop_or_not h k) (hops_or_not hs ks)
  where
    first : hop_told h ∷ hops_told hs ≡ hop_told k ∷ hops_told ks → hop_told h ≡ hop_told k
    first e = cc

    rest : hop_told h ∷ hops_told hs ≡ hop_told k ∷ hops_told ks → hops_told hs ≡ hops_told ks
    rest e = cc

    go : (hop_told h ≡ hop_told k) ⊎ (hop_told h ≢ hop_told k) → (hops_told hs ≡ hops_told ks) ⊎ (hops_told hs ≢ hops_told ks) → (hops_told (h ∷ hs) ≡ hops_told (k ∷ ks)) ⊎ (hops_told (h ∷ hs) ≢ hops_told (k ∷ ks))
    go (inr n) others = inr (λ e. n (first e))
    go (inl a) (inr n) = inr (λ e. n (rest e))
    go (inl a) (inl b) = inl (λ i. a i ∷ b i)

pub told_or_not : (p q : Option (List Hop)) → (path_told p ≡ path_told q) ⊎ (path_told p ≢ path_told q)
told_or_not None None = inl refl
told_or_not None (Some hops) = inr (λ e. cc)
told_or_not (Some hops) None = inr (λ e. cc)
told_or_not (Some hops) (Some others) = elim (hops_or_not hops others) [ inl e ↦ inl (ap Some e) | inr n ↦ inr (λ e. n (inside e)) ]
  where
    inside : (let p : Option (List HopTold) = Some (hops_told hops) in p) ≡ Some (hops_told others) → hops_told hops ≡ hops_told others
    inside e = cc

-- ---- one thing becomes of it
pub one_fate : (t : Trace) (failure : Failure) (before now : Option (List Hop)) (x y : Fate) (rows others : List Row) → IsFate t failure before now x rows → IsFate t failure before now y others → (x ≡ y) × (rows ≡ others)
one_fate t failure before now x y rows others p q = elim (told_or_not before now) [
  | inl e ↦ (let a = p.same e in let b = q.same e in (a.0 ∙ sym b.0, a.1 ∙ sym b.1))
  | inr n ↦ (let a = p.changed n in let b = q.changed n in (a.0 ∙ sym b.0, a.1 ∙ sym b.1))
]

abbrev pub OneOutcome : Type 0
OneOutcome = (net : Net) (o p : Outcome) → IsNetwork net → IsOutcome net o → IsOutcome net p → o ≡ p

abbrev pub OnePath : Type 0
OnePath = (net : Net) (o : Outcome) (vid : ℕ) (a b : List ℕ) (path other : Option (List Hop)) → IsNetwork net → IsPathOf net o vid a b path → IsPathOf net o vid a b other → path ≡ other

module _ (outcomes : OneOutcome) (paths : OnePath) where
  pub one_path_in : (net : Net) (t : Trace) (path other : Option (List Hop)) → IsNetwork net → HasPathIn net t path → HasPathIn net t other → path ≡ other
  one_path_in net t path other is p q =
      let same : q.outcome ≡ p.outcome = outcomes net q.outcome p.outcome is q.is_outcome p.is_outcome in
      paths net p.outcome t.vid t.from t.to path other is p.is_path (subst (λ o. IsPathOf net o t.vid t.from t.to other) same q.is_path)

  module _ (net : Net) (is : IsNetwork net) (t : Trace) (before : Option (List Hop)) where
    one_told : (failure : Failure) → (x y : Fate) (rows others : List Row) → IsFateTold net t before failure x rows → IsFateTold net t before failure y others → (x ≡ y) × (rows ≡ others)
    one_told failure x y rows others p q =
        let same : q.path ≡ p.path = one_path_in (failed (failure ∷ []) net) t q.path p.path (failed_network (failure ∷ []) net is) q.has_path p.has_path in
        one_fate t failure before p.path x y rows others p.told (subst (λ path. IsFate t failure before path y others) same q.told)

    pub one_list : (those : List Failure) → (told others : List Told) → AllZip (λ failure one. IsFateTold net t before failure one.fate one.rows) those told
        → AllZip (λ failure one. IsFateTold net t before failure one.fate one.rows) those others → told ≡ others
    one_list [] [] [] p q = refl
    one_list [] [] (y ∷ ys) p q = absurd q
    one_list [] (x ∷ xs) others p q = absurd p
    one_list (f ∷ fs) [] others p q = absurd p
    one_list (f ∷ fs) (x ∷ xs) [] p q = absurd q
    one_list (f ∷ fs) (x ∷ xs) (y ∷ ys) p q =
        let one = one_told f x.fate y.fate x.rows y.rows p.0 q.0 in
        let rest = one_list fs xs ys p.1 q.1 in
        let first = one.0 in
        let second = one.1 in
        λ i. record { fate = first i; rows = second i } ∷ rest i
