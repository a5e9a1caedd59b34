use Rattle.std.proofs.Common.{subst, sym, inl, inr, arith}
use Rattle.mst_topology.specs.Slots.{HasRoom}
use Rattle.mst_topology.proofs.Entries.{same_or_other}
use Rattle.mst_topology.proofs.Reserved.{below_other}
use Rattle.mst_settle.proofs.settler.Settler.with_space.Goals as goal

pub loop-bridge-preserved : goal.loop-bridge-preserved
loop-bridge-preserved g c = λ n low. elim (same_or_other n c.loop-bridge.bridge) [
  | inl e ↦ subst (λ z. HasRoom c.reserve_bridge.new.self.touched_bridges z) (sym e) c.in_ok-reserve_bridge.ensures.ok
  | inr e ↦ c.in_ok-reserve_bridge.ensures.keeps.space.bridges n (c.loop-bridge.invariant n (below_other n c.loop-bridge.bridge low e))
]

pub loop-lan-init : goal.loop-lan-init
loop-lan-init g c = record {
  bridges = λ n low. c.loop-bridge.invariant n (omega arith);
  lans = λ lan low. absurd (omega arith);
}

pub loop-lan-preserved : goal.loop-lan-preserved
loop-lan-preserved g c =
    let keeps = c.in_ok-reserve_lan.ensures.keeps in
    record {
      bridges = λ n low. keeps.space.bridges n (c.loop-lan.invariant.bridges n low);
      lans = λ lan low. elim (same_or_other lan c.loop-lan.lan) [
        | inl e ↦ subst (λ z. HasRoom c.reserve_lan.new.self.touched_lans z) (sym e) c.in_ok-reserve_lan.ensures.ok
        | inr e ↦ keeps.space.lans lan (c.loop-lan.invariant.lans lan (below_other lan c.loop-lan.lan low e))
      ];
    }
