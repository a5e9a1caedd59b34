use Rattle.std.proofs.Common.{◌≡◌, ◌≤◌, ℕ, length, ap, arith}
use Rattle.mst_topology.specs.Slots.{HasRoom}
use Rattle.mst_settle.proofs.Roomy.{keeps_trans}
use Rattle.mst_settle.proofs.Marked.{all_more, all_there}
use Rattle.mst_settle.proofs.differences.reserve_bridges.Goals as goal

pub loop-bridge-preserved : goal.loop-bridge-preserved
loop-bridge-preserved g c =
    let before = c.loop-bridge.invariant in
    let keeps = c.in_ok-reserve_bridge.ensures.keeps in
    record {
      keeps = keeps_trans c.args.settler.now c.loop-bridge.settler c.reserve_bridge.new.self before.keeps keeps;
      room = all_more (λ (e : ℕ × g.row.M-Bridge.Denot). HasRoom c.loop-bridge.settler.touched_bridges e.0) (λ (e : ℕ × g.row.M-Bridge.Denot). HasRoom c.reserve_bridge.new.self.touched_bridges e.0) c.args.topology.now.bridges c.loop-bridge.bridge-index c.bridge-item.result
          (rw c.bridges-bridge-items.ensures at c.loop-bridge-test.true) (rw c.bridges-bridge-items.ensures at c.bridge-item.is)
          (λ e h. keeps.space.bridges e.0 h) before.room c.in_ok-reserve_bridge.ensures.ok;
    }

pub returns-in_err-reserve_bridge-clause-keeps : goal.returns-in_err-reserve_bridge-clause-keeps
returns-in_err-reserve_bridge-clause-keeps g c = keeps_trans c.args.settler.now c.loop-bridge.settler c.reserve_bridge.new.self c.loop-bridge.invariant.keeps c.reserve_bridge.ensures.keeps

pub returns-clause-ok : goal.returns-clause-ok
returns-clause-ok g c =
    let e : length c.bridges-bridge-items.result.now ≡ length c.args.topology.now.bridges = ap length c.bridges-bridge-items.ensures in
    let end : length c.args.topology.now.bridges ≤ c.loop-bridge.bridge-index = omega arith in
    let space = c.loop-bridge.invariant.keeps.space in
    record {
      bridges = λ n b h. all_there (λ (e : ℕ × g.row.M-Bridge.Denot). HasRoom c.loop-bridge.settler.touched_bridges e.0) c.args.topology.now.bridges c.loop-bridge.bridge-index (n, b) end c.loop-bridge.invariant.room h;
      lans = λ p h. space.lans p.lan (c.requires p h).1;
      bridges_of_ports = λ p h. space.bridges p.bridge (c.requires p h).0;
    }
