use Rattle.std.proofs.Common.{refl, ap, inl, inr, ◌≡◌, Some}
use Rattle.mst_topology.specs.Places.{option_at}
use Rattle.mst_topology.specs.Topology.{TreePort}
use Rattle.mst_topology.specs.Settled.{IsDesignatedVector}
use Rattle.mst_topology.specs.Effects.{IsEither}
use Rattle.mst_topology.proofs.Below.{one_message}
use Rattle.mst_topology.proofs.Standing.{lowest_of_both}
use Rattle.mst_topology.proofs.designations.lower_heard.Goals as goal

pub returns : goal.returns
returns g c =
    let number = ap (λ (q : TreePort _ _ _ _). q.number) c.port.view_is in
    rw c.lower.ensures (rw number
    (lowest_of_both g.M.Metric.rules.order g.met.M.Metric.lawful.total
    (λ q x. (c.args.number ≡ Some q.number) × IsDesignatedVector g.M.Metric.rules c.args.topology.now (option_at c.args.vectors.now) q x)
    (λ q x. IsEither c.args.number c.args.port.now q × IsDesignatedVector g.M.Metric.rules c.args.topology.now (option_at c.args.vectors.now) q x)
    c.args.port.now (λ q x h. (inl h.0, h.1)) (λ q x h. elim h.0 [ inl e ↦ inl (e, h.1) | inr e ↦ inr e ])
    c.designated_vector-message.result (λ x e. (inr refl, c.designated_vector-message.ensures.some x e)) (λ e x h. c.designated_vector-message.ensures.none e x h.1)
    (λ x y h i. one_message g.M.Metric.rules g.met.M.Metric.lawful c.args.topology.now c.known.ensures (option_at c.args.vectors.now) c.args.port.now x y h.1 i.1)
    c.heard_from-best.result c.heard_from-best.ensures))
