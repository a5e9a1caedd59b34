use Rattle.std.proofs.Common.{rules, refl, sym, ◌∙◌, ap, subst, ◌≡◌, ◌≢◌, None, false}
use Rattle.std.proofs.lemmas.Bool.{eqb-false}
use Rattle.std.specs.Ordering.{is_gt}
use Rattle.mst_topology.specs.Places.{option_at}
use Rattle.mst_topology.specs.Settled.{Designates, IsSilent}
use Rattle.mst_topology.proofs.Below.{one_message}
use Rattle.mst_topology.proofs.Quiet.{silent_before, best_unconcerned, not_some}
use Rattle.mst_progress.proofs.progress.Progress.concerns.Goals as goal

pub returns-in-None : goal.returns-in-None
returns-in-None g c = rw (← c.self.view_is) (λ e.
    let silent : IsSilent g.M.Metric.rules c.self.inside.topology.now (option_at c.self.inside.vectors.now) c.args.port.now.lan = rw (← c.self.view_is, ap (λ q. q.lan) c.port.view_is) at (c.in-None.ensures.none refl) in
    let none : c.designated_vector_with-before.result ≡ None = not_some c.designated_vector_with-before.result (search rules) in
    silent_before g.M.Metric.rules c.self.inside.topology.now (option_at c.self.inside.vectors.now) c.args.stored c.args.port.now silent (c.designated_vector_with-before.ensures.none none))

pub returns-in-None-before : goal.returns-in-None-before
returns-in-None-before g c = rw (← c.self.view_is) (λ e.
    let b = rw (← c.self.view_is) at (c.in-Some.ensures.some c.in-Some.best refl) in
    let designates : Designates g.M.Metric.rules c.self.inside.topology.now (option_at c.self.inside.vectors.now) c.args.port.now.lan b.0 c.in-Some.best.message = rw (ap (λ q. q.lan) c.port.view_is) at b.2 in
    let other : c.in-Some.best.port ≢ c.port.inside.number = eqb-false c.in-Some.best.port c.port.inside.number (sym c.if-eq.ensures) in
    best_unconcerned g.M.Metric.rules g.met.M.Metric.lawful c.self.inside.topology.now c.self.invariant.topology (option_at c.self.inside.vectors.now) c.args.stored c.args.port.now b.0 c.in-Some.best.message designates
    (λ f. other (sym b.1 ∙ f ∙ sym (ap (λ q. q.number) c.port.view_is))) (λ y s. absurd (c.in-None-before.ensures.none refl y s)))

pub returns-in-Some-before : goal.returns-in-Some-before
returns-in-Some-before g c = rw (← c.self.view_is) (λ e.
    let b = rw (← c.self.view_is) at (c.in-Some.ensures.some c.in-Some.best refl) in
    let designates : Designates g.M.Metric.rules c.self.inside.topology.now (option_at c.self.inside.vectors.now) c.args.port.now.lan b.0 c.in-Some.best.message = rw (ap (λ q. q.lan) c.port.view_is) at b.2 in
    let other : c.in-Some.best.port ≢ c.port.inside.number = eqb-false c.in-Some.best.port c.port.inside.number (sym c.if-eq.ensures) in
    let low : is_gt (g.M.Metric.rules.order c.in-Some.best.message c.in-Some-before.message) ≡ false = sym (c.is_gt.ensures ∙ ap is_gt c.order.ensures) ∙ e in
    best_unconcerned g.M.Metric.rules g.met.M.Metric.lawful c.self.inside.topology.now c.self.invariant.topology (option_at c.self.inside.vectors.now) c.args.stored c.args.port.now b.0 c.in-Some.best.message designates
    (λ f. other (sym b.1 ∙ f ∙ sym (ap (λ q. q.number) c.port.view_is)))
    (λ y s.
    let same = one_message g.M.Metric.rules g.met.M.Metric.lawful c.self.inside.topology.now c.self.invariant.topology (λ n. c.args.stored) c.args.port.now c.in-Some-before.message y (c.in-Some-before.ensures.some c.in-Some-before.message refl) s in
    subst (λ z. is_gt (g.M.Metric.rules.order c.in-Some.best.message z) ≡ false) same low))
