use Rattle.std.proofs.Common.{◌≡◌, ◌≢◌, true, false, true≢false, Some, refl, sym, ap, ◌∙◌, Less, Equal, Greater}
use Rattle.std.specs.Ordering.{is_lt}
use Rattle.std.specs.declared.cmp.Ordering.{Ordering}
use Rattle.mst_path_judges.proofs.SpanOrder.{newer, older, other_alone}
use Rattle.mst_path_judges.proofs.span.earlier.Goals as goal

-- an order that is less, and one that isn't
less_of : (o : Ordering) → is_lt o ≡ true → o ≡ Less
less_of Less e = refl
less_of Equal e = absurd (true≢false (sym e))
less_of Greater e = absurd (true≢false (sym e))

not_less : (o : Ordering) → is_lt o ≡ false → o ≢ Less
not_less o e less = true≢false (sym (ap is_lt less) ∙ e)

pub returns-in_default : goal.returns-in_default
returns-in_default c = other_alone c.args.so_far (Some c.args.span) c.in_default.is

pub returns-then-is_lt : goal.returns-then-is_lt
returns-then-is_lt c = newer c.args.so_far (Some c.args.span) c.in-Some.first c.args.span c.in-Some.is refl (sym c.span_cmp.ensures ∙ less_of c.span_cmp.result (sym c.is_lt.ensures ∙ c.if-is_lt.true))

pub returns : goal.returns
returns c = older c.args.so_far (Some c.args.span) c.in-Some.first c.args.span c.in-Some.is refl (λ less. not_less c.span_cmp.result (sym c.is_lt.ensures ∙ c.if-is_lt.false) (c.span_cmp.ensures ∙ less))
