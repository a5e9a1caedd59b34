use Rattle.std.proofs.Common.{rules, sym, ◌∙◌, ap, subst, ◌≡◌, ◌≢◌, true, eqb-true}
use Rattle.std.proofs.lemmas.Bool.{eqb-false}
use Rattle.mst_topology.specs.Topology.{TreePort}
use Rattle.mst_topology.specs.Seen.{IsSeen}
use Rattle.mst_progress.specs.Progress.{vector_of, vectors_with}
use Rattle.mst_settle.proofs.Taken.{takes_none, takes_looked}
use Rattle.mst_settle.proofs.queue.Queue.take_in.Goals as goal

pub take_in_other-requires-clause-other : goal.take_in_other-requires-clause-other
take_in_other-requires-clause-other g c =
    let at : c.port.inside.bridge ≡ c.args.port.now.bridge = ap (λ (q : TreePort _ _ _ _). q.bridge) c.port.view_is in
    let ne : c.port.inside.bridge ≢ c.args.written = eqb-false c.port.inside.bridge c.args.written (sym c.if-eq.ensures) in
    λ e. ne (at ∙ e)

pub returns-then-eq-clause-taken : goal.returns-then-eq-clause-taken
returns-then-eq-clause-taken g c =
    let at : c.port.inside.bridge ≡ c.args.port.now.bridge = ap (λ (q : TreePort _ _ _ _). q.bridge) c.port.view_is in
    let same : c.port.inside.bridge ≡ c.args.written = eqb-true c.port.inside.bridge c.args.written (sym c.if-eq.ensures) in
    takes_none g.M.Metric.rules c.args.progress.now.topology (vectors_with (vector_of c.args.progress.now) c.args.written c.args.stored) (vector_of c.args.progress.now) c.args.written c.args.self.now.looked_on c.args.self.now.keys (λ p. p ≡ c.args.port.now) (λ n p ne hp on is. ne (sym on ∙ ap (λ (q : TreePort _ _ _ _). q.bridge) is ∙ sym at ∙ same))

pub returns-else-not-has-clause-taken : goal.returns-else-not-has-clause-taken
returns-else-not-has-clause-taken g c =
    let at : c.port.inside.bridge ≡ c.args.port.now.bridge = ap (λ (q : TreePort _ _ _ _). q.bridge) c.port.view_is in
    let ne : c.port.inside.bridge ≢ c.args.written = eqb-false c.port.inside.bridge c.args.written (sym c.if-eq.ensures) in
    let yes : c.has.result ≡ true = search rules in
    let seen : IsSeen c.args.self.now.looked c.args.port.now.bridge = subst (λ z. IsSeen c.args.self.now.looked z) (c.number.view_is ∙ at) (c.has.ensures yes) in
    takes_looked g.M.Metric.rules c.args.progress.now.topology (vectors_with (vector_of c.args.progress.now) c.args.written c.args.stored) (vector_of c.args.progress.now) c.args.written g.met.M.Metric.lawful c.requires.taking.topology c.args.self.now.looked_on c.args.self.now.keys c.args.port.now (λ e. ne (at ∙ e)) (c.requires.seen c.args.port.now.bridge seen)
