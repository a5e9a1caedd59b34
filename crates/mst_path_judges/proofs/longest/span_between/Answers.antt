use Rattle.std.proofs.Common.{◌≡◌, ◌≢◌, ℕ, ◌<◌, List, [], length, Option, Some, get_or, true≢false, sym, ap, subst, ◌∙◌, Equal, Greater}
use Rattle.std.specs.Cmp.Lexicographic.{nat_list_eq_equiv}
use Rattle.std.specs.Option.{unwrap_or}
use Rattle.std.specs.Cmp.{tied_itself}
use Rattle.std.proofs.lemmas.List.{get_or-map}
use Rattle.mst_view.specs.Aggregation.{same_name}
use Rattle.mst_view.specs.declared.in_view.PortInView.{PortInView}
use Rattle.mst_view.proofs.Names.{same_names}
use Rattle.mst_path.specs.Places.{bridge_at}
use Rattle.mst_path_judges.specs.Spans.{FirstSpan, IsCountedFrom, span_cmp}
use Rattle.mst_path_judges.specs.declared.span.Span.{Span}
use Rattle.mst_path_judges.proofs.SpanOrder.{spans_total}
use Rattle.mst_path_judges.proofs.longest.span_between.Goals as goal

-- the name of the bridge of the port that is read at a place
read_bridge : (ports : List PortInView) (place : ℕ) (port : PortInView) → place < length ports → bridge_at ports place ≡ (get_or ports place port).name.bridge
read_bridge ports place port l = get_or-map (λ (p : PortInView). p.name.bridge) ports place port [] l

-- a span that is counted from a place is one: by its hops and the names of both bridges
one_span : (ports : List PortInView) (counts : List (Option ℕ)) (to from : ℕ) (s t : Span) → IsCountedFrom ports counts to from s → IsCountedFrom ports counts to from t → s ≡ t
one_span ports counts to from s t x y =
    let hops : s.hops ≡ t.hops = ap (λ (o : Option ℕ). unwrap_or o 0) (sym x.hops ∙ y.hops) in
    let first : s.from ≡ t.from = x.first ∙ sym y.first in
    let second : s.to ≡ t.to = x.second ∙ sym y.second in
    λ i. record { hops = hops i; from = first i; to = second i }

-- it is the one span that is counted from there
alone : (ports : List PortInView) (counts : List (Option ℕ)) (to from : ℕ) (span : Span) → IsCountedFrom ports counts to from span → FirstSpan (IsCountedFrom ports counts to from) (Some span)
alone ports counts to from span is = (is, λ s k. subst (λ t. span_cmp span t ≢ Greater) (one_span ports counts to from span s is k) (λ e. equal_greater (sym (tied_itself spans_total span) ∙ e)))
  where
    equal_greater : Equal ≢ Greater
    equal_greater e = cc

pub returns-in_default : goal.returns-in_default
returns-in_default c = λ s k. c.in_default.not-Some s.hops k.hops

pub returns-then-eq : goal.returns-then-eq
returns-then-eq c = λ s k.
    let ports : List PortInView = c.args.ports.now in
    let begin : PortInView = c.index-ports-from.result in
    let end : PortInView = c.index-ports-to.result in
    let same = same_names (get_or ports c.args.from begin).name.bridge (get_or ports c.args.to end).name.bridge (sym c.eq.ensures ∙ c.if-eq.true) in
    k.two (k.first ∙ read_bridge ports c.args.from begin c.requires.from ∙ same ∙ sym (read_bridge ports c.args.to end c.requires.to) ∙ sym k.second)

pub returns : goal.returns
returns c =
    let ports : List PortInView = c.args.ports.now in
    let begin : PortInView = c.index-ports-from.result in
    let end : PortInView = c.index-ports-to.result in
    let first : List ℕ = (get_or ports c.args.from begin).name.bridge in
    let second : List ℕ = (get_or ports c.args.to end).name.bridge in
    let span : Span = record { hops = c.in-Some.hops; from = first; to = second } in
    alone ports c.args.counts.now c.args.to c.args.from span (record {
      hops = c.in-Some.is;
      first = sym (read_bridge ports c.args.from begin c.requires.from);
      second = sym (read_bridge ports c.args.to end c.requires.to);
      two = λ e. true≢false (sym (nat_list_eq_equiv.refl first) ∙ ap (same_name first) e ∙ sym c.eq.ensures ∙ c.if-eq.false);
    })
