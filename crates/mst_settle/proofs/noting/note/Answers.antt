use Rattle.std.proofs.Common.{sym, ap, subst, inl, inr, ◌≡◌, ◌+◌, ◌<◌, ◌∙◌, length, Some}
use Rattle.mst_topology.specs.Chains.{IsLast, upto_place}
use Rattle.mst_topology.specs.Places.{in_map, option_at}
use Rattle.mst_topology.proofs.Lowest.{next_step, walk_falls, walk_port}
use Rattle.mst_topology.proofs.Effects.{passed_none, passed_more, passed_all}
use Rattle.mst_topology.proofs.Entries.{same_or_other}
use Rattle.mst_settle.proofs.noting.note.Goals as goal

pub loop-next-init : goal.loop-next-init
loop-next-init g c = record {
  next = next_step c.args.topology.now.ports (λ p. p.bridge ≡ c.args.bridge) (length c.args.topology.now.ports) c.last_of-next.result c.last_of-next.ensures;
  noted = λ lan o h. absurd (passed_none c.args.topology.now.ports (λ p. p.bridge ≡ c.args.bridge) (λ p a. (p.bridge ≡ c.args.bridge) × (p.lan ≡ a)) (λ p n i. i.0) c.last_of-next.result c.last_of-next.ensures lan h);
}

pub at-port-requires : goal.at-port-requires
at-port-requires g c = (c.loop-next.invariant.next c.in-Some.place c.in-Some.is).1.0

pub before_of-next-requires : goal.before_of-next-requires
before_of-next-requires g c = (c.loop-next.invariant.next c.in-Some.place c.in-Some.is).1.0

pub loop-next-smaller : goal.loop-next-smaller
loop-next-smaller g c =
    let falls : upto_place c.before_of-next.result < c.in-Some.place + 1 = walk_falls c.args.topology.now.ports (λ q. q.bridge ≡ c.at-port.result.bridge) c.in-Some.place c.before_of-next.result (c.before_of-next.ensures c.at-port.result c.at-port.ensures) in
    rw c.in-Some.is falls

pub loop-next-preserved : goal.loop-next-preserved
loop-next-preserved g c =
    let there = walk_port c.args.topology.now.ports (λ p. p.bridge ≡ c.args.bridge) c.loop-next.next c.loop-next.invariant.next c.in-Some.place c.in-Some.is c.at-port.result c.at-port.ensures in
    let last : IsLast c.args.topology.now.ports (λ q. q.bridge ≡ c.args.bridge) c.in-Some.place c.before_of-next.result = rw there at (c.before_of-next.ensures c.at-port.result c.at-port.ensures) in
    let at : c.port.inside.lan ≡ c.at-port.result.lan = ap (λ q. q.lan) c.port.view_is in
    record {
      next = next_step c.args.topology.now.ports (λ p. p.bridge ≡ c.args.bridge) c.in-Some.place c.before_of-next.result last;
      noted = λ lan o h e. elim (same_or_other lan c.port.inside.lan) [
        | inl here ↦ c.note_one.ensures.here o (subst (λ z. in_map c.note_one.new.former z ≡ Some o) here e) ∙ ap (option_at c.args.ports.now) (sym here)
        | inr other ↦ elim (c.note_one.ensures.others lan o e) [
          | inl here ↦ absurd (other here)
          | inr old ↦ elim (passed_more c.args.topology.now.ports (λ p. p.bridge ≡ c.args.bridge) (λ p a. (p.bridge ≡ c.args.bridge) × (p.lan ≡ a)) (λ p n i. i.0) c.in-Some.place c.at-port.result c.at-port.ensures c.before_of-next.result last lan h) [
            | inl before ↦ c.loop-next.invariant.noted lan o (rw c.in-Some.is before) old
            | inr this ↦ absurd (other (sym this.1 ∙ sym at))
          ]
        ]
      ];
    }

pub returns : goal.returns
returns g c = λ lan o on e. (rw c.in_default.is at c.loop-next.invariant.noted) lan o (passed_all c.args.topology.now.ports (λ p a. (p.bridge ≡ c.args.bridge) × (p.lan ≡ a)) lan on.0 on.1 (on.2, on.3)) e
