use Rattle.std.proofs.Common.{◌≡◌, true, length, ap}
use Rattle.std.specs.List.{Contains}
use Rattle.mst_topology.specs.Topology.{TreePort, HasPort}
use Rattle.mst_topology.specs.Chains.{IsLast}
use Rattle.mst_topology.proofs.Lowest.{next_step, walk_port}
use Rattle.mst_settle.proofs.Roomy.{keeps_all, keeps_trans}
use Rattle.mst_settle.proofs.Kept.{lans_more}
use Rattle.mst_settle.proofs.differences.touch_lans_of.Goals as goal

pub loop-next-init : goal.loop-next-init
loop-next-init g c = record {
  keeps = keeps_all c.args.settler.now;
  next = next_step c.args.topology.now.ports (λ p. p.bridge ≡ c.args.bridge) (length c.args.topology.now.ports) c.last_of-next.result c.last_of-next.ensures;
  touched = λ k p upto at on. absurd (c.last_of-next.ensures.none_after k p upto at.0 at on);
}

pub loop-next-preserved : goal.loop-next-preserved
loop-next-preserved g c =
    let before = c.loop-next.invariant in
    let keeps = c.touch-in-Some.ensures.keeps in
    let port = c.at.result in
    let on = walk_port c.args.topology.now.ports (λ p. p.bridge ≡ c.args.bridge) c.loop-next.next before.next c.in-Some.place c.in-Some.is port c.at.ensures in
    let has : HasPort c.args.topology.now port = (c.in-Some.place, c.at.ensures.0, c.at.ensures.1) in
    let last : IsLast c.args.topology.now.ports (λ q. q.bridge ≡ c.args.bridge) c.in-Some.place c.before_of-next.result = rw on at (c.before_of-next.ensures port c.at.ensures) in
    let lan : Contains c.touch-in-Some.new.self.touched_lans (port.lan, true) = (rw (ap (λ (q : TreePort _ _ _ g.row.M-Port.Denot). q.lan) c.touch.view_is) at c.touch-in-Some.ensures.touched) (before.keeps.space.lans port.lan (c.requires.lans port has)) in
    record {
      keeps = keeps_trans c.args.settler.now c.loop-next.settler c.touch-in-Some.new.self before.keeps keeps;
      next = next_step c.args.topology.now.ports (λ p. p.bridge ≡ c.args.bridge) c.in-Some.place c.before_of-next.result last;
      touched = lans_more c.args.topology.now c.args.bridge c.loop-next.settler c.touch-in-Some.new.self keeps c.in-Some.place port c.at.ensures c.before_of-next.result last lan (rw c.in-Some.is at before.touched);
    }
