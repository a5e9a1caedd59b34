use Rattle.std.proofs.Common.{refl, sym, ◌∙◌, ap, ◌≡◌, ℕ, ◌+◌, length, slice_index_or, Bool, false, arith}
use Rattle.std.specs.List.{Contains}
use Rattle.mst_topology.specs.Places.{option_at}
use Rattle.mst_topology.specs.Effects.{HearsAnew, IsLanOfMarked}
use Rattle.mst_topology.proofs.Places.{keys_room}
use Rattle.mst_topology.proofs.Effects.{Before, before_none, before_more, before_all, item_is, hears_none, hears_more, hears_fewer}
use Rattle.mst_topology.proofs.designations.Designations.hear_around_marked.Goals as goal

pub loop-entry-init : goal.loop-entry-init
loop-entry-init g c = record {
  heard = hears_none g.M.Metric.rules c.args.topology.now (option_at c.args.vectors.now) (option_at c.args.self.now.ports) (Before c.args.bridges.now (IsLanOfMarked c.args.topology.now) 0) (before_none c.args.bridges.now (IsLanOfMarked c.args.topology.now));
  keys_same = refl;
  seen = λ lan s. absurd (c.clear.ensures lan s);
}

pub hear_around_if_marked-requires-clause-rooms : goal.hear_around_if_marked-requires-clause-rooms
hear_around_if_marked-requires-clause-rooms g c = λ p h. keys_room c.args.self.now.ports c.loop-entry.self.ports (sym c.loop-entry.invariant.keys_same) p.lan (c.requires p h)

pub loop-entry-preserved : goal.loop-entry-preserved
loop-entry-preserved g c =
    let before = c.loop-entry.invariant in
    let heard : HearsAnew g.M.Metric.rules c.args.topology.now (option_at c.args.vectors.now) (option_at c.loop-entry.self.ports) (option_at c.hear_around_if_marked.new.self.ports) (IsLanOfMarked c.args.topology.now (slice_index_or c.args.bridges.now c.loop-entry.entry-index (0, false))) = rw c.entries-entry-items.ensures.value at c.hear_around_if_marked.ensures.heard in
    record {
      heard = hears_more g.M.Metric.rules c.args.topology.now (option_at c.args.vectors.now) (option_at c.args.self.now.ports) (option_at c.loop-entry.self.ports) (option_at c.hear_around_if_marked.new.self.ports)
          (Before c.args.bridges.now (IsLanOfMarked c.args.topology.now) c.loop-entry.entry-index) (IsLanOfMarked c.args.topology.now (slice_index_or c.args.bridges.now c.loop-entry.entry-index (0, false))) (Before c.args.bridges.now (IsLanOfMarked c.args.topology.now) (c.loop-entry.entry-index + 1)) before.heard heard
          (before_more c.args.bridges.now (IsLanOfMarked c.args.topology.now) c.loop-entry.entry-index (slice_index_or c.args.bridges.now c.loop-entry.entry-index (0, false)) (item_is c.args.bridges.now c.loop-entry.entry-index (0, false) (rw c.entries-entry-items.ensures.value at c.loop-entry-test.true)) (rw c.entries-entry-items.ensures.value at c.loop-entry-test.true));
      keys_same = c.hear_around_if_marked.ensures.keys ∙ before.keys_same;
      seen = c.hear_around_if_marked.ensures.seen;
    }

pub returns-clause-heard : goal.returns-clause-heard
returns-clause-heard g c =
    let e : length c.entries-entry-items.result.now ≡ length c.args.bridges.now = ap length c.entries-entry-items.ensures.value in
    let at : c.loop-entry.entry-index ≡ length c.args.bridges.now = omega arith in
    hears_fewer g.M.Metric.rules c.args.topology.now (option_at c.args.vectors.now) (option_at c.args.self.now.ports) (option_at c.loop-entry.self.ports) (Before c.args.bridges.now (IsLanOfMarked c.args.topology.now) (length c.args.bridges.now)) (λ k. (e : ℕ × Bool) × Contains c.args.bridges.now e × IsLanOfMarked c.args.topology.now e k)
    (rw at at c.loop-entry.invariant.heard) (λ k h. before_all c.args.bridges.now (IsLanOfMarked c.args.topology.now) k h.0 h.1 h.2)
