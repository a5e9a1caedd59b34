use Rattle.std.proofs.Common.{refl, sym, ◌∙◌, subst, inl, inr, ◌≡◌, ◌+◌, ◌<◌, [], ℕ, length}
use Rattle.std.specs.List.{Contains}
use Rattle.mst_topology.specs.Topology.{TreePort, HasPort}
use Rattle.mst_topology.specs.Chains.{IsLast, upto_place}
use Rattle.mst_topology.specs.Effects.{HasRightKey, IsUnconcerned}
use Rattle.mst_topology.specs.Places.{in_map}
use Rattle.mst_topology.proofs.Lowest.{next_step, walk_falls, walk_port}
use Rattle.mst_topology.proofs.Effects.{passed_none, passed_more, passed_all}
use Rattle.mst_topology.proofs.Entries.{same_or_other}
use Rattle.mst_topology.proofs.Quiet.{unconcerned_stable}
use Rattle.mst_progress.specs.Progress.{vector_of, vectors_with}
use Rattle.mst_settle.proofs.Mixed.{mixed_before, right_by_mixed}
use Rattle.mst_settle.proofs.Taken.{with_other, taking_on, offers_forth, offers_back}
use Rattle.mst_settle.proofs.queue.Queue.look_after.Goals as goal

pub loop-next-init : goal.loop-next-init
loop-next-init g c = record {
  next = next_step c.topology-topology.result.now.ports (λ p. p.bridge ≡ c.args.bridge) (length c.topology-topology.result.now.ports) c.last_of-next.result c.last_of-next.ensures;
  mixed = λ n other. (
    [],
    mixed_before g.M.Metric.rules g.met.M.Metric.lawful c.args.progress.now.topology c.requires.taking.topology (vectors_with (vector_of c.args.progress.now) c.args.bridge c.args.stored) (vector_of c.args.progress.now) n c.args.self.now.keys (with_other (vector_of c.args.progress.now) c.args.bridge c.args.stored n other) (c.requires.before n other),
    λ p hp on is. absurd (c.clear.ensures p.lan is),
    λ p hp on h. absurd (passed_none c.topology-topology.result.now.ports (λ p. p.bridge ≡ c.args.bridge) (λ (r : TreePort ℕ ℕ ℕ g.row.M-Port.Denot) (p : TreePort ℕ ℕ ℕ g.row.M-Port.Denot). (r.bridge ≡ c.args.bridge) × (p.lan ≡ r.lan) × (IsUnconcerned g.M.Metric.rules c.args.progress.now.topology (vector_of c.args.progress.now) c.args.stored r → ⊥)) (λ p n h. h.0) c.last_of-next.result c.last_of-next.ensures p h),
  );
  own = λ k h. h;
  rooms = λ n r. r;
  seen = λ n s. absurd (c.clear-2.ensures n s);
  former = refl;
}

pub at-port-requires : goal.at-port-requires
at-port-requires g c = (c.loop-next.invariant.next c.in-Some.place c.in-Some.is).1.0

pub before_of-next-requires : goal.before_of-next-requires
before_of-next-requires g c = (c.loop-next.invariant.next c.in-Some.place c.in-Some.is).1.0

pub loop-next-smaller : goal.loop-next-smaller
loop-next-smaller g c =
    let falls : upto_place c.before_of-next.result < c.in-Some.place + 1 = walk_falls c.topology-topology.result.now.ports (λ q. q.bridge ≡ c.at-port.result.bridge) c.in-Some.place c.before_of-next.result (c.before_of-next.ensures c.at-port.result c.at-port.ensures) in
    rw c.in-Some.is falls

pub take_in_along-requires-clause-port : goal.take_in_along-requires-clause-port
take_in_along-requires-clause-port g c =
    let there : HasPort c.topology-topology.result.now c.at-port.result = (c.in-Some.place, c.at-port.ensures.0, c.at-port.ensures.1) in
    rw c.topology-topology.ensures at there

pub take_in_along-requires-clause-lan : goal.take_in_along-requires-clause-lan
take_in_along-requires-clause-lan g c =
    let there : HasPort c.topology-topology.result.now c.at-port.result = (c.in-Some.place, c.at-port.ensures.0, c.at-port.ensures.1) in
    let on = walk_port c.topology-topology.result.now.ports (λ p. p.bridge ≡ c.args.bridge) c.loop-next.next c.loop-next.invariant.next c.in-Some.place c.in-Some.is c.at-port.result c.at-port.ensures in
    (c.at-port.result, (rw c.topology-topology.ensures at there), on, refl)

pub take_in_along-requires-clause-taking : goal.take_in_along-requires-clause-taking
take_in_along-requires-clause-taking g c = rw c.loop-next.invariant.former (taking_on g.M.Metric.rules c.args.progress.now.topology (vector_of c.args.progress.now) c.args.bridge c.args.stored (in_map c.args.self.now.former) c.args.self.now.keys c.loop-next.self.keys c.requires.taking c.loop-next.invariant.rooms)

pub loop-next-preserved : goal.loop-next-preserved
loop-next-preserved g c =
    let there = walk_port c.topology-topology.result.now.ports (λ p. p.bridge ≡ c.args.bridge) c.loop-next.next c.loop-next.invariant.next c.in-Some.place c.in-Some.is c.at-port.result c.at-port.ensures in
    let last : IsLast c.topology-topology.result.now.ports (λ q. q.bridge ≡ c.args.bridge) c.in-Some.place c.before_of-next.result = rw there at (c.before_of-next.ensures c.at-port.result c.at-port.ensures) in
    let before = c.loop-next.invariant in
    let taken = c.take_in_along.ensures.taken in
    record {
      next = next_step c.topology-topology.result.now.ports (λ p. p.bridge ≡ c.args.bridge) c.in-Some.place c.before_of-next.result last;
      mixed = λ n other.
          let f = before.mixed n other in
          let h = taken.mixed n f.0 other f.2 f.1 in (
            h.0,
            h.1,
            h.2,
            λ p hp on passed. h.3 p hp on (elim (passed_more c.topology-topology.result.now.ports (λ p. p.bridge ≡ c.args.bridge) (λ (r : TreePort ℕ ℕ ℕ g.row.M-Port.Denot) (p : TreePort ℕ ℕ ℕ g.row.M-Port.Denot). (r.bridge ≡ c.args.bridge) × (p.lan ≡ r.lan) × (IsUnconcerned g.M.Metric.rules c.args.progress.now.topology (vector_of c.args.progress.now) c.args.stored r → ⊥)) (λ p n i. i.0) c.in-Some.place c.at-port.result c.at-port.ensures c.before_of-next.result last p passed) [
              | inl i ↦ inl (f.3 p hp on (rw c.in-Some.is i))
              | inr i ↦ inr (i.1, i.2)
            ]),
          );
      own = λ k h. before.own k (taken.own k h);
      rooms = λ n r. taken.rooms n (before.rooms n r);
      seen = c.take_in_along.ensures.seen;
      former = c.take_in_along.ensures.former ∙ before.former;
    }

pub returns : goal.returns
returns g c =
    let mixed = rw c.in_default.is at c.loop-next.invariant.mixed in
    let all : (n : ℕ) → HasRightKey g.M.Metric.rules c.args.progress.now.topology (vector_of c.args.progress.now) c.loop-next.self.keys n = λ n. elim (same_or_other n c.args.bridge) [
      | inl e ↦ subst (λ z. HasRightKey g.M.Metric.rules c.args.progress.now.topology (vector_of c.args.progress.now) c.loop-next.self.keys z) (sym e) (λ k o h d. c.requires.own k o (c.loop-next.invariant.own k h) d)
      | inr other ↦ (
          let f = mixed n other in
          let quiet : (p : TreePort ℕ ℕ ℕ g.row.M-Port.Denot) → HasPort c.args.progress.now.topology p → p.bridge ≡ n → (Contains f.0 p → ⊥) → (q : TreePort ℕ ℕ ℕ g.row.M-Port.Denot) → HasPort c.args.progress.now.topology q → q.bridge ≡ c.args.bridge → q.lan ≡ p.lan → IsUnconcerned g.M.Metric.rules c.args.progress.now.topology (vector_of c.args.progress.now) c.args.stored q =
          λ p hp on left q hq onq e. unconcerned_stable g.M.Metric.rules c.args.progress.now.topology (vector_of c.args.progress.now) c.args.stored q (λ nay. left (f.3 p hp on (passed_all c.topology-topology.result.now.ports (λ (r : TreePort ℕ ℕ ℕ g.row.M-Port.Denot) (p : TreePort ℕ ℕ ℕ g.row.M-Port.Denot). (r.bridge ≡ c.args.bridge) × (p.lan ≡ r.lan) × (IsUnconcerned g.M.Metric.rules c.args.progress.now.topology (vector_of c.args.progress.now) c.args.stored r → ⊥)) p q (rw c.topology-topology.ensures hq) (onq, sym e, nay)))) in
          right_by_mixed g.M.Metric.rules g.met.M.Metric.lawful c.args.progress.now.topology c.requires.taking.topology (vectors_with (vector_of c.args.progress.now) c.args.bridge c.args.stored) (vector_of c.args.progress.now) f.0 n c.loop-next.self.keys f.1
          (λ p hp on left. offers_forth g.M.Metric.rules g.met.M.Metric.lawful c.args.progress.now.topology c.requires.taking.topology (vector_of c.args.progress.now) c.args.bridge c.args.stored p.lan (quiet p hp on left) p refl)
          (λ p hp on left. offers_back g.M.Metric.rules g.met.M.Metric.lawful c.args.progress.now.topology c.requires.taking.topology (vector_of c.args.progress.now) c.args.bridge c.args.stored p.lan (quiet p hp on left) p refl))
    ] in
    record { right = λ n r. all n; found = λ n h. all n; rooms = c.loop-next.invariant.rooms }
