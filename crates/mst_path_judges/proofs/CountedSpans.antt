-- The spans that lead to a port's bridge, place by place, and those to several.
use Rattle.std.proofs.Common.{◌≡◌, ◌⊎◌, inl, inr, ℕ, ◌<◌, List, [], ◌∷◌, ◌++◌, length, map, get_or, Option, Some, None, refl, sym, ap, ◌∙◌, subst, arith}
use Rattle.std.specs.List.{Contains}
use Rattle.std.specs.Option.{option_map}
use Rattle.std.proofs.lemmas.List.Elements.{Contains-append_left, Contains-append_right, Contains-push_cases}
use Rattle.mst_graph.proofs.Members.{here, in_none}
use Rattle.mst_view.specs.View.{LogicalPort}
use Rattle.mst_view.specs.Viewed.{named_port}
use Rattle.mst_view.specs.declared.in_view.PortInView.{PortInView}
use Rattle.mst_path.specs.Paths.{Hop, IsHopCount, IsPathOver}
use Rattle.mst_path.specs.Places.{AreHopCounts, bridge_at}
use Rattle.mst_path.proofs.Least.{fewest}
use Rattle.mst_path_judges.specs.Longest.{IsFoundSpan}
use Rattle.mst_path_judges.specs.Spans.{FirstSpan, IsCountedFrom, IsCountedTo}
use Rattle.mst_path_judges.specs.declared.span.Span.{Span}
use Rattle.mst_path_judges.proofs.SpanOrder.{first_so}

module _ (ports : List PortInView) (counts : List (Option ℕ)) (to : ℕ) where
  -- from no place
  pub begins : FirstSpan (IsCountedTo ports counts [] to) None
  begins s c = in_none c.0 c.1

  -- from one more
  pub one_more : (places : List ℕ) (place : ℕ) (first : Option Span) → FirstSpan (λ s. IsCountedTo ports counts places to s ⊎ IsCountedFrom ports counts to place s) first → FirstSpan (IsCountedTo ports counts (places ++ place ∷ []) to) first
  one_more places place first f = first_so (λ s. IsCountedTo ports counts places to s ⊎ IsCountedFrom ports counts to place s) (IsCountedTo ports counts (places ++ place ∷ []) to) onto back first f
    where
      onto : (s : Span) → IsCountedTo ports counts places to s ⊎ IsCountedFrom ports counts to place s → IsCountedTo ports counts (places ++ place ∷ []) to s
      onto s (inl c) = (c.0, Contains-append_left places (place ∷ []) c.0 c.1, c.2)
      onto s (inr c) = (place, Contains-append_right places (place ∷ []) place (here place []), c)

      back : (s : Span) → IsCountedTo ports counts (places ++ place ∷ []) to s → IsCountedTo ports counts places to s ⊎ IsCountedFrom ports counts to place s
      back s c = elim (Contains-push_cases places place c.0 c.1) [ inl h ↦ inl (c.0, h, c.2) | inr e ↦ inr (subst (λ from. IsCountedFrom ports counts to from s) (sym e) c.2) ]

-- ---- a bridge has one number of hops to another: two first paths have as many
one_count : {ports : List LogicalPort} {a b : List ℕ} {c d : Option ℕ} → IsHopCount ports a b c → IsHopCount ports a b d → c ≡ d
one_count {ports} {a} {b} x y = x.are ∙ same x.path y.path x.is_path y.is_path ∙ sym y.are
  where
    same : (p q : Option (List Hop)) → IsPathOver ports a b p → IsPathOver ports a b q → option_map length p ≡ option_map length q
    same None None h k = refl
    same None (Some q) h k = absurd (h q k.path)
    same (Some p) None h k = absurd (k p h.path)
    same (Some p) (Some q) h k = let low = fewest ports b a p q h k.path in let high = fewest ports b a q p k h.path in ap Some (omega arith)

-- ---- to one more place: what is counted is what is found
module _ (ports : List PortInView) (froms tos : List ℕ) (to : ℕ) (counts : List (Option ℕ)) (are : AreHopCounts ports (bridge_at ports to) counts) (below : (from : ℕ) → Contains froms from → from < length ports) where
  pub found_more : (first : Option Span) → FirstSpan (λ s. IsFoundSpan ports froms tos s ⊎ IsCountedTo ports counts froms to s) first → FirstSpan (IsFoundSpan ports froms (tos ++ to ∷ [])) first
  found_more first f = first_so (λ s. IsFoundSpan ports froms tos s ⊎ IsCountedTo ports counts froms to s) (IsFoundSpan ports froms (tos ++ to ∷ [])) onto back first f
    where
      onto : (s : Span) → IsFoundSpan ports froms tos s ⊎ IsCountedTo ports counts froms to s → IsFoundSpan ports froms (tos ++ to ∷ []) s
      onto s (inl x) = record {
        from = x.from;
        to = x.to;
        begins = x.begins;
        ends = Contains-append_left tos (to ∷ []) x.to x.ends;
        first = x.first;
        second = x.second;
        two = x.two;
        hops = x.hops;
      }
      onto s (inr c) =
          let at : IsHopCount (map named_port ports) (bridge_at ports c.0) (bridge_at ports to) (get_or counts c.0 None) = are.each c.0 (below c.0 c.1) in
          record {
            from = c.0;
            to = to;
            begins = c.1;
            ends = Contains-append_right tos (to ∷ []) to (here to []);
            first = c.2.first;
            second = c.2.second;
            two = c.2.two;
            hops = subst (IsHopCount (map named_port ports) s.from s.to) c.2.hops
                (subst (λ a. IsHopCount (map named_port ports) a s.to (get_or counts c.0 None)) (sym c.2.first) (subst (λ b. IsHopCount (map named_port ports) (bridge_at ports c.0) b (get_or counts c.0 None)) (sym c.2.second) at));
          }

      back : (s : Span) → IsFoundSpan ports froms (tos ++ to ∷ []) s → IsFoundSpan ports froms tos s ⊎ IsCountedTo ports counts froms to s
      back s x = elim (Contains-push_cases tos to x.to x.ends) [
        | inl h ↦ inl (record { from = x.from; to = x.to; begins = x.begins; ends = h; first = x.first; second = x.second; two = x.two; hops = x.hops })
        | inr e ↦ inr (
          x.from,
          x.begins,
          record {
            hops = one_count (are.each x.from (below x.from x.begins))
                (subst (λ a. IsHopCount (map named_port ports) a (bridge_at ports to) (Some s.hops)) x.first (subst (λ b. IsHopCount (map named_port ports) s.from b (Some s.hops)) (x.second ∙ ap (bridge_at ports) (sym e)) x.hops));
            first = x.first;
            second = x.second ∙ ap (bridge_at ports) (sym e);
            two = x.two;
          },
        )
      ]
