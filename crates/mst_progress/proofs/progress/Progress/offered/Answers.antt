use Rattle.std.proofs.Common.{rules, refl, sym, ◌∙◌, ap, ◌≡◌, Some, None, eqb-true}
use Rattle.std.proofs.lemmas.Bool.{eqb-false}
use Rattle.mst_topology.specs.Places.{option_at}
use Rattle.mst_topology.specs.Settled.{IsDesignated}
use Rattle.mst_topology.proofs.Parts.{silent_offers, no_designated, designated_silent, offers_own, offers_some, designated_cost}
use Rattle.mst_topology.proofs.Search.{some_is}
use Rattle.mst_progress.proofs.progress.Progress.offered.Goals as goal

pub returns-in_err-designated-clause-none : goal.returns-in_err-designated-clause-none
returns-in_err-designated-clause-none g c = rw (← c.self.view_is) (λ e.
    let none : option_at c.self.inside.ports.now c.port.inside.lan ≡ None = search rules in
    let there = ap (λ q. q.lan) c.port.view_is in
    silent_offers g.M.Metric.rules g.met.M.Metric.lawful c.self.inside.topology.now c.self.invariant.topology (option_at c.self.inside.vectors.now) c.args.port.now (rw (rw there at none) at (c.self.invariant.designated c.args.port.now.lan)))

pub returns-in_err-from-clause-none : goal.returns-in_err-from-clause-none
returns-in_err-from-clause-none g c = rw (← c.self.view_is) (λ e x o.
    let stored : option_at c.self.inside.ports.now c.port.inside.lan ≡ Some c.in_ok-designated.designated = search rules in
    let designates : IsDesignated g.M.Metric.rules c.self.inside.topology.now (option_at c.self.inside.vectors.now) c.args.port.now.lan (Some c.in_ok-designated.designated) =
    rw (rw (ap (λ q. q.lan) c.port.view_is) at stored) at (c.self.invariant.designated c.args.port.now.lan) in
    no_designated g.M.Metric.rules g.met.M.Metric.lawful c.self.inside.topology.now c.self.invariant.topology (option_at c.self.inside.vectors.now) c.args.port.now c.in_ok-designated.designated designates (c.in_err-from.ensures.none refl))

pub returns-then-eq-clause-none : goal.returns-then-eq-clause-none
returns-then-eq-clause-none g c = rw (← c.self.view_is) (λ e.
    let stored : option_at c.self.inside.ports.now c.port.inside.lan ≡ Some c.in_ok-designated.designated = search rules in
    let designates : IsDesignated g.M.Metric.rules c.self.inside.topology.now (option_at c.self.inside.vectors.now) c.args.port.now.lan (Some c.in_ok-designated.designated) =
    rw (rw (ap (λ q. q.lan) c.port.view_is) at stored) at (c.self.invariant.designated c.args.port.now.lan) in
    offers_own g.M.Metric.rules g.met.M.Metric.lawful c.self.inside.topology.now c.self.invariant.topology (option_at c.self.inside.vectors.now) c.args.port.now c.in_ok-designated.designated designates c.in_ok-from.from (c.in_ok-from.ensures.some c.in_ok-from.from refl).0 (c.in_ok-from.ensures.some c.in_ok-from.from refl).1
    (ap (λ q. q.bridge) (sym c.from.view_is) ∙ eqb-true c.from.inside.bridge c.port.inside.bridge (sym c.if-eq.ensures) ∙ ap (λ q. q.bridge) c.port.view_is))

pub returns-in_err-message-clause-none : goal.returns-in_err-message-clause-none
returns-in_err-message-clause-none g c = rw (← c.self.view_is) (λ e x o.
    let stored : option_at c.self.inside.ports.now c.port.inside.lan ≡ Some c.in_ok-designated.designated = search rules in
    let designates : IsDesignated g.M.Metric.rules c.self.inside.topology.now (option_at c.self.inside.vectors.now) c.args.port.now.lan (Some c.in_ok-designated.designated) =
    rw (rw (ap (λ q. q.lan) c.port.view_is) at stored) at (c.self.invariant.designated c.args.port.now.lan) in
    designated_silent g.M.Metric.rules g.met.M.Metric.lawful c.self.inside.topology.now c.self.invariant.topology (option_at c.self.inside.vectors.now) c.args.port.now c.in_ok-designated.designated designates c.in_ok-from.from (c.in_ok-from.ensures.some c.in_ok-from.from refl).0 (c.in_ok-from.ensures.some c.in_ok-from.from refl).1 (c.in_err-message.ensures.none refl))

pub returns-in_err-bridge-clause-none : goal.returns-in_err-bridge-clause-none
returns-in_err-bridge-clause-none g c = rw (← c.self.view_is) (λ e x o.
    let same = ap (λ q. q.bridge) c.port.view_is in
    c.in_err-bridge.ensures.none refl o.bridge (rw (← same) at o.has_bridge))

pub returns-in_err-sender-clause-none : goal.returns-in_err-sender-clause-none
returns-in_err-sender-clause-none g c = rw (← c.self.view_is) (λ e x o.
    let says = c.in_ok-message.ensures.some c.in_ok-message.message refl in
    let same = ap (λ q. q.bridge) c.from.view_is in
    c.in_err-sender.ensures.none refl says.bridge (rw (← same) at says.has_bridge))

pub root_path_vector-requires-clause-cost : goal.root_path_vector-requires-clause-cost
root_path_vector-requires-clause-cost g c =
    designated_cost g.M.Metric.rules g.met.M.Metric.lawful c.self.inside.topology.now c.self.invariant.topology (option_at c.self.inside.vectors.now) c.in_ok-from.from c.in_ok-message.message 4611686018427387904 c.self.invariant.costs (c.in_ok-message.ensures.some c.in_ok-message.message refl)

pub returns-clause-some : goal.returns-clause-some
returns-clause-some g c = rw (← c.self.view_is) (λ x e.
    let stored : option_at c.self.inside.ports.now c.port.inside.lan ≡ Some c.in_ok-designated.designated = search rules in
    let designates : IsDesignated g.M.Metric.rules c.self.inside.topology.now (option_at c.self.inside.vectors.now) c.args.port.now.lan (Some c.in_ok-designated.designated) =
    rw (rw (ap (λ q. q.lan) c.port.view_is) at stored) at (c.self.invariant.designated c.args.port.now.lan) in
    let value = sym c.root_path_vector.ensures ∙ some_is c.root_path_vector.result x e in
    let other = eqb-false c.from.inside.bridge c.port.inside.bridge (sym c.if-eq.ensures) in
    let from = ap (λ q. q.bridge) c.from.view_is in
    let port = ap (λ q. q.bridge) c.port.view_is in
    rw (← value) (rw (ap (λ q. q.settings) c.port.view_is)
    (offers_some g.M.Metric.rules g.met.M.Metric.lawful c.self.inside.topology.now c.self.invariant.topology (option_at c.self.inside.vectors.now) c.args.port.now c.in_ok-designated.designated designates c.in_ok-from.from (c.in_ok-from.ensures.some c.in_ok-from.from refl).0 (c.in_ok-from.ensures.some c.in_ok-from.from refl).1 c.in_ok-message.message (c.in_ok-message.ensures.some c.in_ok-message.message refl)
    (rw (from, port) at other) (rw (← c.self.view_is) at c.requires) (rw (ap (λ q. q.is_part) c.port.view_is) at c.if-not-port.false) (rw (ap (λ q. q.is_restricted) c.port.view_is) at c.if-is_restricted.false)
    c.in_ok-bridge.bridge.now c.in_ok-sender.sender.now
    (rw port at (c.in_ok-bridge.ensures.some c.in_ok-bridge.bridge refl)) (rw from at (c.in_ok-sender.ensures.some c.in_ok-sender.sender refl)))))
