-- Spans between bridges, and which one comes first.
use Rattle.std.specs.Prelude.{◌≡◌, ◌≢◌, ◌⊎◌, ℕ, List, [], ◌∷◌, Option, Some, None, slice_index_or}
use Rattle.std.specs.List.{Contains}
use Rattle.std.specs.Ordering.{nat_cmp, ordering_then}
use Rattle.std.specs.declared.cmp.Ordering.{Ordering}
use Rattle.std.specs.declared.cmp.Ordering.TheVariants.{Greater}
use Rattle.mst_ids.specs.Names.{name_cmp}
use Rattle.mst_path.specs.Places.{bridge_at}
use Rattle.mst_view.specs.declared.in_view.PortInView.{PortInView}
use Rattle.mst_judged.specs.reasons.Stretches.{Stretch}
use Rattle.mst_path_judges.specs.declared.span.Span.{Span}

-- what is told of a span: its hops, and its two bridges
abbrev pub span_told : Span → Stretch
span_told s = record { hops = s.hops; bridges = s.from ∷ s.to ∷ [] }

-- spans by the number of hops, the most first, and then by the names of their bridges
abbrev pub span_cmp : Span → Span → Ordering
span_cmp s t = ordering_then (ordering_then (nat_cmp t.hops s.hops) (name_cmp s.from t.from)) (name_cmp s.to t.to)

-- the first of the spans for which this holds: none of them comes before it. None where it holds for no span
abbrev pub FirstSpan : (Span → Type 0) → Option Span → Type 0
FirstSpan P None = (s : Span) → P s → ⊥
FirstSpan P (Some s) = P s × ((other : Span) → P other → span_cmp s other ≢ Greater)

-- a span is one of these, of which there are two at most
abbrev pub IsEither : Option Span → Option Span → Span → Type 0
IsEither one other s = (one ≡ Some s) ⊎ (other ≡ Some s)

-- a span from the bridge of the port at one place to that of the port at another, as its hops are counted
pub record IsCountedFrom (ports : List PortInView) (counts : List (Option ℕ)) (to from : ℕ) (s : Span) : Type 0 where
  pub hops : slice_index_or counts from None ≡ Some s.hops
  pub first : s.from ≡ bridge_at ports from
  pub second : s.to ≡ bridge_at ports to
  pub two : s.from ≢ s.to

-- from one of these places
abbrev pub IsCountedTo : List PortInView → List (Option ℕ) → List ℕ → ℕ → Span → Type 0
IsCountedTo ports counts places to s = (from : ℕ) × Contains places from × IsCountedFrom ports counts to from s
