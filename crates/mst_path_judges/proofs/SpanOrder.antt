-- The order of spans is total, and the first of two first ones is the first of all.
use Rattle.std.proofs.Common.{◌≡◌, ◌≢◌, ◌⊎◌, inl, inr, Option, Some, None, refl, sym, ◌∙◌, subst, Less, Equal, Greater}
use Rattle.std.specs.declared.cmp.Ordering.{Ordering}
use Rattle.std.specs.Cmp.{IsTotalOrder, nat_cmp_total, on_total, back_total, then_total, tied_itself}
use Rattle.std.specs.Cmp.Lexicographic.{lists_total}
use Rattle.mst_ids.specs.Names.{name_cmp}
use Rattle.mst_path.proofs.Orders.{before_third, turned}
use Rattle.mst_roles.proofs.forest_lemmas.Lists.{no_some, some_is}
use Rattle.mst_path_judges.specs.Spans.{FirstSpan, IsEither, span_cmp}
use Rattle.mst_path_judges.specs.declared.span.Span.{Span}

names_total : IsTotalOrder name_cmp
names_total = lists_total nat_cmp_total

pub spans_total : IsTotalOrder span_cmp
spans_total = then_total (then_total (on_total (λ (s : Span). s.hops) (back_total nat_cmp_total)) (on_total (λ (s : Span). s.from) names_total)) (on_total (λ (s : Span). s.to) names_total)

-- of a relation that holds of the same spans
pub first_so : (P Q : Span → Type 0) → ((s : Span) → P s → Q s) → ((s : Span) → Q s → P s) → (s : Option Span) → FirstSpan P s → FirstSpan Q s
first_so P Q to back None none = λ s q. none s (back s q)
first_so P Q to back (Some s) first = (to s first.0, λ other q. first.1 other (back other q))

-- what doesn't come behind one that doesn't come behind a third
not_behind : (s x t : Span) → span_cmp s x ≢ Greater → span_cmp x t ≢ Greater → span_cmp s t ≢ Greater
not_behind s x t n m = go (span_cmp s x) refl
  where
    go : (r : Ordering) → span_cmp s x ≡ r → span_cmp s t ≢ Greater
    go Less e = before_third span_cmp spans_total s x t e m
    go Equal e = subst (λ r. r ≢ Greater) (sym (spans_total.congr s x t e)) m
    go Greater e = absurd (n e)

-- ---- the first of two
itself : (s : Span) → span_cmp s s ≢ Greater
itself s e = equal_greater (sym (tied_itself spans_total s) ∙ e)
  where
    equal_greater : Equal ≢ Greater
    equal_greater e = cc

-- a span isn't behind one that is the same
same_ahead : (s t : Span) → Some s ≡ Some t → span_cmp s t ≢ Greater
same_ahead s t e = subst (λ u. span_cmp s u ≢ Greater) (some_is s t e) (itself s)

-- where there is one alone it is the first
pub other_alone : (one other : Option Span) → one ≡ None → FirstSpan (IsEither one other) other
other_alone one None none = λ s k. elim k [ inl e ↦ no_some s (sym none ∙ e) | inr e ↦ no_some s e ]
other_alone one (Some t) none = (inr refl, λ s k. elim k [ inl e ↦ absurd (no_some s (sym none ∙ e)) | inr e ↦ same_ahead t s e ])

pub one_alone : (one other : Option Span) → other ≡ None → FirstSpan (IsEither one other) one
one_alone None other none = λ s k. elim k [ inl e ↦ no_some s e | inr e ↦ no_some s (sym none ∙ e) ]
one_alone (Some t) other none = (inl refl, λ s k. elim k [ inl e ↦ same_ahead t s e | inr e ↦ absurd (no_some s (sym none ∙ e)) ])

-- of two it is the other where that comes before, and else the one
module _ (one other : Option Span) (span next : Span) (is_one : one ≡ Some span) (is_other : other ≡ Some next) where
  pub newer : span_cmp next span ≡ Less → FirstSpan (IsEither one other) (Some next)
  newer less = (
    inr is_other,
    λ s k. elim k [ inl e ↦ subst (λ u. span_cmp next u ≢ Greater) (some_is span s (sym is_one ∙ e)) (λ g. less_greater (sym less ∙ g)) | inr e ↦ same_ahead next s (sym is_other ∙ e) ],
  )
    where
      less_greater : Less ≢ Greater
      less_greater e = cc

  pub older : span_cmp next span ≢ Less → FirstSpan (IsEither one other) (Some span)
  older n = (
    inl is_one,
    λ s k. elim k [ inl e ↦ same_ahead span s (sym is_one ∙ e) | inr e ↦ subst (λ u. span_cmp span u ≢ Greater) (some_is next s (sym is_other ∙ e)) (λ g. n (turned span_cmp spans_total span next g)) ],
  )

-- ---- of two relations
ahead : (P : Span → Type 0) (first : Option Span) (s : Span) → FirstSpan P first → ((x : Span) → first ≡ Some x → span_cmp s x ≢ Greater) → (other : Span) → P other → span_cmp s other ≢ Greater
ahead P None s none low other p = absurd (none other p)
ahead P (Some x) s first low other p = not_behind s x other (low x refl) (first.1 other p)

pub joined : (P Q : Span → Type 0) (one other first : Option Span) → FirstSpan P one → FirstSpan Q other → FirstSpan (IsEither one other) first → FirstSpan (λ s. P s ⊎ Q s) first
joined P Q None None None p q none = λ s k. elim k [ inl a ↦ p s a | inr b ↦ q s b ]
joined P Q (Some x) other None p q none = absurd (none x (inl refl))
joined P Q None (Some y) None p q none = absurd (none y (inr refl))
joined P Q one other (Some s) p q first = (own first.0, λ t k. elim k [ inl a ↦ ahead P one s p (λ x e. first.1 x (inl e)) t a | inr b ↦ ahead Q other s q (λ x e. first.1 x (inr e)) t b ])
  where
    own : (one ≡ Some s) ⊎ (other ≡ Some s) → P s ⊎ Q s
    own (inl e) = inl (subst (FirstSpan P) e p).0
    own (inr e) = inr (subst (FirstSpan Q) e q).0
