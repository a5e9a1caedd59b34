use Rattle.std.proofs.Common.{sym, ◌∙◌, ap, subst, ◌≡◌, Some}
use Rattle.mst_topology.specs.Topology.{TreePort}
use Rattle.mst_topology.specs.Places.{in_map}
use Rattle.mst_settle.specs.Mixed.{is_upto}
use Rattle.mst_progress.specs.Progress.{vector_of, vectors_with}
use Rattle.mst_settle.proofs.Compared.{high_above}
use Rattle.mst_settle.proofs.Mixed.{offers_are}
use Rattle.mst_settle.proofs.queue.Queue.was_due.Goals as goal

pub offered_before-before-requires-clause-designated : goal.offered_before-before-requires-clause-designated
offered_before-before-requires-clause-designated g c =
    let there : in_map c.args.self.now.former c.lan.inside.0 ≡ Some c.in-Some.designated = sym c.get.ensures ∙ c.in-Some.is in
    let noted = subst (λ z. in_map c.args.self.now.former z ≡ Some c.in-Some.designated) (c.lan.view_is ∙ ap (λ (q : TreePort _ _ _ _). q.lan) c.port.view_is) there in
    c.requires.taking.noted c.args.port.now.lan c.in-Some.designated c.requires.lan noted

pub returns-in-Some : goal.returns-in-Some
returns-in-Some g c = λ e x o.
    let same = offers_are g.M.Metric.rules g.met.M.Metric.lawful c.args.progress.now.topology c.requires.taking.topology (vectors_with (vector_of c.args.progress.now) c.args.written c.args.stored) c.args.port.now c.offered_before-before.result c.offered_before-before.ensures.some c.offered_before-before.ensures.none x o in
    high_above g.M.Metric.rules.order x c.args.lower (ap (λ z. is_upto g.M.Metric.rules.order z c.args.lower) (sym same) ∙ sym c.is_upto.ensures ∙ e)
