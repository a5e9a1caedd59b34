use Rattle.std.proofs.Common.{◌≡◌, ℕ, Option, None, sym, subst, true, false}
use Rattle.mst_topology.specs.Places.{option_at}
use Rattle.mst_topology.specs.Effects.{HasRightKey}
use Rattle.mst_topology.proofs.Places.{keys_room}
use Rattle.mst_settle.proofs.Scratch.{first_progress}
use Rattle.mst_settle.proofs.settler.Settler.settle_first.Goals as goal

pub queue_all-requires-clause-rooms : goal.queue_all-requires-clause-rooms
queue_all-requires-clause-rooms g c =
    let old = c.self.invariant in
    let space = rw (← c.self.view_is) at c.requires.space in
    λ n b h. old.in_queue n (old.for_bridges n (space.bridges n b h))

pub settle_queued-requires-clause-progress : goal.settle_queued-requires-clause-progress
settle_queued-requires-clause-progress g c = first_progress g.M.Metric.rules c.args.topology.now c.known.ensures (option_at c.self.inside.settling.vectors) (rw (← c.self.view_is) at c.requires.vectors) (option_at c.self.inside.settling.designations.ports) (rw (← c.self.view_is) at c.requires.designated)

pub settle_queued-requires-clause-space : goal.settle_queued-requires-clause-space
settle_queued-requires-clause-space g c =
    let old = c.self.invariant in
    let space = rw (← c.self.view_is) at c.requires.space in
    record {
      for_bridges = λ n b h. old.for_bridges n (space.bridges n b h);
      for_ports = λ p h. old.for_lans p.lan (space.lans p h);
      for_bridges_of_ports = λ p h. old.for_bridges p.bridge (space.bridges_of_ports p h);
      in_queue = λ n r. c.queue_all.ensures.rooms n (old.in_queue n r);
    }

pub settle_queued-requires-clause-keys : goal.settle_queued-requires-clause-keys
settle_queued-requires-clause-keys g c =
    let none : (n : ℕ) → option_at c.self.inside.settling.vectors n ≡ None = rw (← c.self.view_is) at c.requires.vectors in
    subst (λ (v : ℕ → Option g.row.M-Vector.Denot). (n : ℕ) → HasRightKey g.M.Metric.rules c.args.topology.now v c.queue_all.new.self.keys n) (λ i n. sym (none n) i) c.queue_all.ensures.right

pub invariant_of-self : goal.invariant_of-self
invariant_of-self g c =
    let old = c.self.invariant in
    let new = c.settle_queued.ensures in
    record {
      in_queue = new.space.in_queue;
      for_bridges = λ n r. keys_room c.self.inside.settling.vectors c.settle_queued.new.self.vectors (sym new.keys) n (old.for_bridges n (c.fill.ensures.back n r));
      for_lans = λ n r. keys_room c.self.inside.settling.designations.ports c.settle_queued.new.self.designations.ports (sym new.lan_keys) n (old.for_lans n (c.fill-2.ensures.back n r));
      idle = new.idle;
    }

pub returns-clause-settled : goal.returns-clause-settled
returns-clause-settled g c = record { vectors = c.settle_queued.ensures.settled; designated = c.settle_queued.ensures.designated }

pub returns-clause-bounds : goal.returns-clause-bounds
returns-clause-bounds g c = rw (← c.self.view_is) c.settle_queued.ensures.bounds

pub returns-clause-space : goal.returns-clause-space
returns-clause-space g c = rw (← c.self.view_is) (record { bridges = c.fill.ensures.rooms; lans = c.fill-2.ensures.rooms })

pub returns-clause-rested : goal.returns-clause-rested
returns-clause-rested g c = record {
  bridges = λ n touched. let no : true ≡ false = c.fill.ensures.values n true touched in cc;
  lans = λ lan touched. let no : true ≡ false = c.fill-2.ensures.values lan true touched in cc;
}
