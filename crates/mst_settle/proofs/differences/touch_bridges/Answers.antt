use Rattle.std.proofs.Common.{◌≡◌, ◌≤◌, ℕ, length, ap, arith}
use Rattle.mst_settle.proofs.Roomy.{keeps_trans}
use Rattle.mst_settle.proofs.Scratch.{space_kept}
use Rattle.mst_settle.specs.Differences.{BridgeIsDone}
use Rattle.mst_settle.proofs.Kept.{done_kept}
use Rattle.mst_settle.proofs.Marked.{all_more, all_there}
use Rattle.mst_settle.proofs.differences.touch_bridges.Goals as goal

pub touch_bridge-requires-clause-here : goal.touch_bridge-requires-clause-here
touch_bridge-requires-clause-here g c = space_kept c.args.here.now c.args.settler.now c.loop-bridge.settler c.requires.here c.loop-bridge.invariant.keeps.space

pub touch_bridge-requires-clause-there : goal.touch_bridge-requires-clause-there
touch_bridge-requires-clause-there g c = space_kept c.args.there.now c.args.settler.now c.loop-bridge.settler c.requires.there c.loop-bridge.invariant.keeps.space

pub loop-bridge-preserved : goal.loop-bridge-preserved
loop-bridge-preserved g c =
    let before = c.loop-bridge.invariant in
    let keeps = c.touch_bridge.ensures.keeps in
    record {
      keeps = keeps_trans c.args.settler.now c.loop-bridge.settler c.touch_bridge.new.settler before.keeps keeps;
      done = all_more (λ (e : ℕ × g.row.M-Bridge.Denot). BridgeIsDone c.args.here.now c.args.there.now c.loop-bridge.settler e.0 e.1) (λ (e : ℕ × g.row.M-Bridge.Denot). BridgeIsDone c.args.here.now c.args.there.now c.touch_bridge.new.settler e.0 e.1) c.args.here.now.bridges c.loop-bridge.bridge-index c.bridge-item.result
          (rw c.bridges-bridge-items.ensures at c.loop-bridge-test.true) (rw c.bridges-bridge-items.ensures at c.bridge-item.is)
          (λ e h. done_kept c.args.here.now c.args.there.now c.loop-bridge.settler c.touch_bridge.new.settler keeps e.0 e.1 h) before.done c.touch_bridge.ensures.done;
    }

pub returns-clause-done : goal.returns-clause-done
returns-clause-done g c = λ n b h.
    let e : length c.bridges-bridge-items.result.now ≡ length c.args.here.now.bridges = ap length c.bridges-bridge-items.ensures in
    let end : length c.args.here.now.bridges ≤ c.loop-bridge.bridge-index = omega arith in
    all_there (λ (e : ℕ × g.row.M-Bridge.Denot). BridgeIsDone c.args.here.now c.args.there.now c.loop-bridge.settler e.0 e.1) c.args.here.now.bridges c.loop-bridge.bridge-index (n, b) end c.loop-bridge.invariant.done h
