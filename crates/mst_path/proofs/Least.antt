-- The first path has the fewest hops, and of those with as many the least names.
use Rattle.std.proofs.Common.{◌≡◌, ◌≢◌, inl, inr, ℕ, ◌<◌, ◌≤◌, List, [], ◌∷◌, length, refl, sym, ap, ◌∙◌, subst, arith, Less, Equal, Greater}
use Rattle.std.specs.Ordering.{nat_cmp, ordering_then, MatchOrdering}
use Rattle.std.specs.declared.cmp.Ordering.{Ordering}
use Rattle.std.specs.Cmp.{tied_itself, nat_cmp_total}
use Rattle.std.specs.Cmp.Lexicographic.{slice_cmp}
use Rattle.std.proofs.lemmas.Cmp.{ranked}
use Rattle.mst_ids.specs.Names.{name_cmp, port_cmp}
use Rattle.mst_view.specs.View.{LogicalPort}
use Rattle.mst_vlan.proofs.forest_lemmas.Views.{name_is}
use Rattle.mst_path.specs.Paths.{Hop, IsPath, IsFirstPath, ends_of, hop_cmp}
use Rattle.mst_path.proofs.Orders.{hops_total}
use Rattle.mst_path.proofs.Short.{path_or_less, rest_of, shortest}

-- what comes first by two orders does by the first one
first_by : (r s : Ordering) → ordering_then r s ≢ Greater → r ≢ Greater
first_by Less s n e = cc
first_by Equal s n e = cc
first_by Greater s n e = n refl

then_by : (r s : Ordering) → r ≡ Equal → ordering_then r s ≢ Greater → s ≢ Greater
then_by r s e n g = n (ap (λ r. ordering_then r s) e ∙ g)

by_both : (r s : Ordering) → r ≢ Greater → (r ≡ Equal → s ≢ Greater) → ordering_then r s ≢ Greater
by_both Less s n m e = cc
by_both Equal s n m e = m refl e
by_both Greater s n m e = n refl

ended_equal : Equal ≢ Greater
ended_equal e = cc

same_numbers : (m n : ℕ) → m ≡ n → nat_cmp m n ≡ Equal
same_numbers m n e = ap (nat_cmp m) (sym e) ∙ tied_itself nat_cmp_total m

at_most : (m n : ℕ) → nat_cmp m n ≢ Greater → m ≤ n
at_most m n = go (nat_cmp m n) (ranked m n (nat_cmp m n) refl)
  where
    go : (r : Ordering) → MatchOrdering r (m < n) (m ≡ n) (n < m) → r ≢ Greater → m ≤ n
    go Less h k = omega arith
    go Equal h k = omega arith
    go Greater h k = absurd (k refl)

module _ (ports : List LogicalPort) (b : List ℕ) where
  pub fewest : (a : List ℕ) (hops others : List Hop) → IsFirstPath ports a b hops → IsPath ports a b others → length hops ≤ length others
  fewest a hops others f p = at_most (length hops) (length others) (first_by (nat_cmp (length hops) (length others)) (slice_cmp hop_cmp hops others) (f.first others p))

  -- what is left of a first path after its first hop is one: another one before it with that hop is a path before the whole
  module _ (h : Hop) (hops : List Hop) (a : List ℕ) (f : IsFirstPath ports a b (h ∷ hops)) where
    with_hop : (others : List Hop) → length others ≡ length hops → IsPath ports h.arriving.name.bridge b others → IsPath ports a b (h ∷ others)
    with_hop others long p = shortest ports b (h ∷ others) a (f.path.way.0, f.path.way.1, p.way) (λ q is. let l = fewest a (h ∷ hops) q f is in omega arith)

    none_less : (others : List Hop) → length others < length hops → IsPath ports h.arriving.name.bridge b others → ⊥
    none_less others less p = elim (path_or_less ports b (h ∷ others) a (f.path.way.0, f.path.way.1, p.way)) [
      | inl q ↦ (let l = fewest a (h ∷ hops) (h ∷ others) f q in omega arith)
      | inr q ↦ (let l = fewest a (h ∷ hops) q.hops f q.path in let m = q.less in omega arith)
    ]

    rest_first : IsFirstPath ports h.arriving.name.bridge b hops
    rest_first = record { path = rest_of ports b h hops a f.path; first = λ others p. go others p (nat_cmp (length hops) (length others)) (ranked (length hops) (length others) (nat_cmp (length hops) (length others)) refl) }
      where
        less_first : Less ≢ Greater
        less_first e = cc

        go : (others : List Hop) → IsPath ports h.arriving.name.bridge b others → (r : Ordering) → MatchOrdering r (length hops < length others) (length hops ≡ length others) (length others < length hops) → ordering_then r (slice_cmp hop_cmp hops others) ≢ Greater
        go others p Less l = less_first
        go others p Equal e =
            let whole = f.first (h ∷ others) (with_hop others (sym e) p) in
            let longer : length (h ∷ hops) ≡ length (h ∷ others) = omega arith in
            then_by (hop_cmp h h) (slice_cmp hop_cmp hops others) (tied_itself hops_total h)
            (then_by (nat_cmp (length (h ∷ hops)) (length (h ∷ others))) (slice_cmp hop_cmp (h ∷ hops) (h ∷ others)) (same_numbers (length (h ∷ hops)) (length (h ∷ others)) longer) whole)
        go others p Greater l = absurd (none_less others l p)

  pub names_first : (hops others : List Hop) (a : List ℕ) → IsFirstPath ports a b hops → IsPath ports a b others → length hops ≡ length others → slice_cmp name_cmp (ends_of hops) (ends_of others) ≢ Greater
  names_first [] [] a f p e = ended_equal
  names_first [] (k ∷ ks) a f p e = absurd (omega arith)
  names_first (h ∷ hs) [] a f p e = absurd (omega arith)
  names_first (h ∷ hs) (k ∷ ks) a f p e =
      let c : List ℕ = h.arriving.name.bridge in
      let d : List ℕ = k.arriving.name.bridge in
      let whole = then_by (nat_cmp (length (h ∷ hs)) (length (k ∷ ks))) (slice_cmp hop_cmp (h ∷ hs) (k ∷ ks)) (same_numbers (length (h ∷ hs)) (length (k ∷ ks)) e) (f.first (k ∷ ks) p) in
      let hop = first_by (hop_cmp h k) (slice_cmp hop_cmp hs ks) whole in
      let port = first_by (port_cmp h.arriving.name k.arriving.name) (port_cmp h.leaving.name k.leaving.name) hop in
      by_both (name_cmp c d) (slice_cmp name_cmp (ends_of hs) (ends_of ks)) (first_by (name_cmp c d) (nat_cmp h.arriving.name.number k.arriving.name.number) port)
      (λ same. names_first hs ks c (rest_first h hs a f) (subst (λ n. IsPath ports n b ks) (sym (name_is c d same)) (rest_of ports b k ks a p)) (omega arith))
