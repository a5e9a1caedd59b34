use Rattle.std.proofs.Common.{rules, refl, sym, ◌∙◌, ap, subst, ◌≡◌, Some, None}
use Rattle.mst_topology.specs.Places.{option_at}
use Rattle.mst_topology.specs.Settled.{IsDesignatedVector, Designates, IsDesignated}
use Rattle.mst_topology.proofs.Below.{one_message}
use Rattle.mst_topology.proofs.Parts.{port_of_number}
use Rattle.mst_topology.proofs.Search.{some_is}
use Rattle.mst_progress.proofs.progress.Progress.best_on.Goals as goal

pub returns-in_err-designated-clause-none : goal.returns-in_err-designated-clause-none
returns-in_err-designated-clause-none g c = rw (← c.self.view_is) (λ e.
    let none : option_at c.self.inside.ports.now c.args.lan ≡ None = search rules in
    rw none at (c.self.invariant.designated c.args.lan))

pub returns-in_err-from-clause-none : goal.returns-in_err-from-clause-none
returns-in_err-from-clause-none g c = rw (← c.self.view_is) (λ e p x on s.
    let stored : option_at c.self.inside.ports.now c.args.lan ≡ Some c.in_ok-designated.designated = search rules in
    let d : IsDesignated g.M.Metric.rules c.self.inside.topology.now (option_at c.self.inside.vectors.now) c.args.lan (Some c.in_ok-designated.designated) = rw stored at (c.self.invariant.designated c.args.lan) in
    absurd (c.in_err-from.ensures.none refl d.0 d.3.says.has_port d.2))

pub returns-in_err-message-clause-none : goal.returns-in_err-message-clause-none
returns-in_err-message-clause-none g c = rw (← c.self.view_is) (λ e p x on s.
    let stored : option_at c.self.inside.ports.now c.args.lan ≡ Some c.in_ok-designated.designated = search rules in
    let d : IsDesignated g.M.Metric.rules c.self.inside.topology.now (option_at c.self.inside.vectors.now) c.args.lan (Some c.in_ok-designated.designated) = rw stored at (c.self.invariant.designated c.args.lan) in
    let same : d.0 ≡ c.in_ok-from.from = port_of_number g.M.Metric.rules g.met.M.Metric.lawful c.self.inside.topology.now c.self.invariant.topology (option_at c.self.inside.vectors.now) c.in_ok-designated.designated d.0 c.in_ok-from.from d.3.says.has_port d.2 (c.in_ok-from.ensures.some c.in_ok-from.from refl) in
    absurd (c.in_err-message.ensures.none refl d.1 (subst (λ z. IsDesignatedVector g.M.Metric.rules c.self.inside.topology.now (option_at c.self.inside.vectors.now) z d.1) same d.3.says)))

pub returns-clause-some : goal.returns-clause-some
returns-clause-some g c = rw (← c.self.view_is) (λ h e.
    let stored : option_at c.self.inside.ports.now c.args.lan ≡ Some c.in_ok-designated.designated = search rules in
    let d : IsDesignated g.M.Metric.rules c.self.inside.topology.now (option_at c.self.inside.vectors.now) c.args.lan (Some c.in_ok-designated.designated) = rw stored at (c.self.invariant.designated c.args.lan) in
    let same : d.0 ≡ c.in_ok-from.from = port_of_number g.M.Metric.rules g.met.M.Metric.lawful c.self.inside.topology.now c.self.invariant.topology (option_at c.self.inside.vectors.now) c.in_ok-designated.designated d.0 c.in_ok-from.from d.3.says.has_port d.2 (c.in_ok-from.ensures.some c.in_ok-from.from refl) in
    let says : IsDesignatedVector g.M.Metric.rules c.self.inside.topology.now (option_at c.self.inside.vectors.now) d.0 c.in_ok-message.message = subst (λ z. IsDesignatedVector g.M.Metric.rules c.self.inside.topology.now (option_at c.self.inside.vectors.now) z c.in_ok-message.message) (sym same) (c.in_ok-message.ensures.some c.in_ok-message.message refl) in
    let message : d.1 ≡ c.in_ok-message.message = one_message g.M.Metric.rules g.met.M.Metric.lawful c.self.inside.topology.now c.self.invariant.topology (option_at c.self.inside.vectors.now) d.0 d.1 c.in_ok-message.message d.3.says says in
    let heard = some_is (record { port = c.in_ok-designated.designated; message = c.in_ok-message.message }) h e in
    (d.0, d.2 ∙ ap (λ z. z.port) heard, subst (λ z. Designates g.M.Metric.rules c.self.inside.topology.now (option_at c.self.inside.vectors.now) c.args.lan d.0 z) (message ∙ ap (λ z. z.message) heard) d.3))
