use Rattle.std.proofs.Common.{rules, refl, sym, ◌∙◌, ap, ◌≡◌, Some, None, eqb-true}
use Rattle.std.proofs.lemmas.Bool.{eqb-false}
use Rattle.mst_topology.specs.Places.{option_at}
use Rattle.mst_topology.specs.Topology.{TreePort}
use Rattle.mst_topology.specs.Settled.{IsDesignated, IsDesignatedVector, IsSilent}
use Rattle.mst_topology.proofs.Parts.{no_designated, designated_silent, offers_own, offers_some, designated_cost}
use Rattle.mst_topology.proofs.Search.{some_is}
use Rattle.mst_progress.specs.Progress.{vectors_with, vector_of}
use Rattle.mst_progress.proofs.Before.{says_there, says_here, costs_with}
use Rattle.mst_progress.proofs.progress.Progress.offered_before.Goals as goal

pub returns-in_err-designated-clause-none : goal.returns-in_err-designated-clause-none
returns-in_err-designated-clause-none g c = λ e x o.
    let silent : IsSilent g.M.Metric.rules c.args.self.now.topology (vectors_with (vector_of c.args.self.now) c.args.written c.args.stored) c.args.port.now.lan = rw c.in_err-designated.was at c.requires.designated in
    let s = o.along.0 in
    silent s.from s.message (s.designates.on_lan ∙ ap (λ (q : TreePort _ _ _ _). q.lan) o.along.1) s.designates.says

pub returns-in_err-from-clause-none : goal.returns-in_err-from-clause-none
returns-in_err-from-clause-none g c = rw (← c.self.view_is) (λ e x o.
    let designates : IsDesignated g.M.Metric.rules c.self.inside.topology.now (vectors_with (option_at c.self.inside.vectors.now) c.args.written c.args.stored) c.args.port.now.lan (Some c.in_ok-designated.designated) = rw c.in_ok-designated.was at (rw (← c.self.view_is) at c.requires.designated) in
    no_designated g.M.Metric.rules g.met.M.Metric.lawful c.self.inside.topology.now c.self.invariant.topology (vectors_with (option_at c.self.inside.vectors.now) c.args.written c.args.stored) c.args.port.now c.in_ok-designated.designated designates (c.in_err-from.ensures.none refl))

pub returns-then-eq-clause-none : goal.returns-then-eq-clause-none
returns-then-eq-clause-none g c = rw (← c.self.view_is) (λ e.
    let designates : IsDesignated g.M.Metric.rules c.self.inside.topology.now (vectors_with (option_at c.self.inside.vectors.now) c.args.written c.args.stored) c.args.port.now.lan (Some c.in_ok-designated.designated) = rw c.in_ok-designated.was at (rw (← c.self.view_is) at c.requires.designated) in
    offers_own g.M.Metric.rules g.met.M.Metric.lawful c.self.inside.topology.now c.self.invariant.topology (vectors_with (option_at c.self.inside.vectors.now) c.args.written c.args.stored) c.args.port.now c.in_ok-designated.designated designates c.in_ok-from.from (c.in_ok-from.ensures.some c.in_ok-from.from refl).0 (c.in_ok-from.ensures.some c.in_ok-from.from refl).1
    (ap (λ q. q.bridge) (sym c.from.view_is) ∙ eqb-true c.from.inside.bridge c.port.inside.bridge (sym c.if-eq.ensures) ∙ ap (λ q. q.bridge) c.port.view_is))

pub returns-in_err-message-clause-none : goal.returns-in_err-message-clause-none
returns-in_err-message-clause-none g c = rw (← c.self.view_is) (λ e x o.
    let designates : IsDesignated g.M.Metric.rules c.self.inside.topology.now (vectors_with (option_at c.self.inside.vectors.now) c.args.written c.args.stored) c.args.port.now.lan (Some c.in_ok-designated.designated) = rw c.in_ok-designated.was at (rw (← c.self.view_is) at c.requires.designated) in
    let same : c.vector_with-root.result ≡ (vectors_with (option_at c.self.inside.vectors.now) c.args.written c.args.stored) c.in_ok-from.from.bridge = c.vector_with-root.ensures ∙ ap (λ (q : TreePort _ _ _ _). (vectors_with (option_at c.self.inside.vectors.now) c.args.written c.args.stored) q.bridge) c.from.view_is in
    designated_silent g.M.Metric.rules g.met.M.Metric.lawful c.self.inside.topology.now c.self.invariant.topology (vectors_with (option_at c.self.inside.vectors.now) c.args.written c.args.stored) c.args.port.now c.in_ok-designated.designated designates c.in_ok-from.from (c.in_ok-from.ensures.some c.in_ok-from.from refl).0 (c.in_ok-from.ensures.some c.in_ok-from.from refl).1 (λ y s. c.in_err-message.ensures.none refl y (says_here g.M.Metric.rules c.self.inside.topology.now (vectors_with (option_at c.self.inside.vectors.now) c.args.written c.args.stored) c.vector_with-root.result c.in_ok-from.from same y s)))

pub returns-in_err-receiver-clause-none : goal.returns-in_err-receiver-clause-none
returns-in_err-receiver-clause-none g c = rw (← c.self.view_is) (λ e x o.
    let same = ap (λ q. q.bridge) c.port.view_is in
    c.in_err-receiver.ensures.none refl o.bridge (rw (← same) at o.has_bridge))

pub returns-in_err-sender-clause-none : goal.returns-in_err-sender-clause-none
returns-in_err-sender-clause-none g c = rw (← c.self.view_is) (λ e x o.
    let says = c.in_ok-message.ensures.some c.in_ok-message.message refl in
    let same = ap (λ q. q.bridge) c.from.view_is in
    c.in_err-sender.ensures.none refl says.bridge (rw (← same) at says.has_bridge))

pub root_path_vector-requires-clause-cost : goal.root_path_vector-requires-clause-cost
root_path_vector-requires-clause-cost g c =
    let same : c.vector_with-root.result ≡ (vectors_with (option_at c.self.inside.vectors.now) c.args.written c.args.stored) c.in_ok-from.from.bridge = c.vector_with-root.ensures ∙ ap (λ (q : TreePort _ _ _ _). (vectors_with (option_at c.self.inside.vectors.now) c.args.written c.args.stored) q.bridge) c.from.view_is in
    designated_cost g.M.Metric.rules g.met.M.Metric.lawful c.self.inside.topology.now c.self.invariant.topology (vectors_with (option_at c.self.inside.vectors.now) c.args.written c.args.stored) c.in_ok-from.from c.in_ok-message.message 4611686018427387904
    (costs_with g.M.Metric.rules (option_at c.self.inside.vectors.now) c.args.written c.args.stored 4611686018427387904 c.self.invariant.costs (λ n x e. c.requires.cost x e)) (says_there g.M.Metric.rules c.self.inside.topology.now (vectors_with (option_at c.self.inside.vectors.now) c.args.written c.args.stored) c.vector_with-root.result c.in_ok-from.from same c.in_ok-message.message (c.in_ok-message.ensures.some c.in_ok-message.message refl))

pub returns-clause-some : goal.returns-clause-some
returns-clause-some g c = rw (← c.self.view_is) (λ x e.
    let designates : IsDesignated g.M.Metric.rules c.self.inside.topology.now (vectors_with (option_at c.self.inside.vectors.now) c.args.written c.args.stored) c.args.port.now.lan (Some c.in_ok-designated.designated) = rw c.in_ok-designated.was at (rw (← c.self.view_is) at c.requires.designated) in
    let same : c.vector_with-root.result ≡ (vectors_with (option_at c.self.inside.vectors.now) c.args.written c.args.stored) c.in_ok-from.from.bridge = c.vector_with-root.ensures ∙ ap (λ (q : TreePort _ _ _ _). (vectors_with (option_at c.self.inside.vectors.now) c.args.written c.args.stored) q.bridge) c.from.view_is in
    let value = sym c.root_path_vector.ensures ∙ some_is c.root_path_vector.result x e in
    let other = eqb-false c.from.inside.bridge c.port.inside.bridge (sym c.if-eq.ensures) in
    let from = ap (λ q. q.bridge) c.from.view_is in
    let port = ap (λ q. q.bridge) c.port.view_is in
    rw (← value) (rw (ap (λ q. q.settings) c.port.view_is)
    (offers_some g.M.Metric.rules g.met.M.Metric.lawful c.self.inside.topology.now c.self.invariant.topology (vectors_with (option_at c.self.inside.vectors.now) c.args.written c.args.stored) c.args.port.now c.in_ok-designated.designated designates c.in_ok-from.from (c.in_ok-from.ensures.some c.in_ok-from.from refl).0 (c.in_ok-from.ensures.some c.in_ok-from.from refl).1 c.in_ok-message.message (says_there g.M.Metric.rules c.self.inside.topology.now (vectors_with (option_at c.self.inside.vectors.now) c.args.written c.args.stored) c.vector_with-root.result c.in_ok-from.from same c.in_ok-message.message (c.in_ok-message.ensures.some c.in_ok-message.message refl))
    (rw (from, port) at other) (rw (← c.self.view_is) at c.requires.port) (rw (ap (λ q. q.is_part) c.port.view_is) at c.if-not-port.false) (rw (ap (λ q. q.is_restricted) c.port.view_is) at c.if-port.false)
    c.in_ok-receiver.receiver.now c.in_ok-sender.sender.now
    (rw port at (c.in_ok-receiver.ensures.some c.in_ok-receiver.receiver refl)) (rw from at (c.in_ok-sender.ensures.some c.in_ok-sender.sender refl)))))
