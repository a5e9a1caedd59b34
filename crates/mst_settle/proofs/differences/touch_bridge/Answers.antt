use Rattle.std.proofs.Common.{inr}
use Rattle.mst_settle.proofs.Roomy.{keeps_trans}
use Rattle.mst_settle.proofs.Scratch.{space_kept}
use Rattle.mst_settle.proofs.differences.touch_bridge.Goals as goal

pub touch_lans_of-requires : goal.touch_lans_of-requires
touch_lans_of-requires g c = space_kept c.args.here.now c.args.settler.now c.touch_bridge.new.self c.requires.here c.touch_bridge.ensures.keeps.space

pub touch_lans_of-requires-then-not-has_bridge : goal.touch_lans_of-requires-then-not-has_bridge
touch_lans_of-requires-then-not-has_bridge g c =
    let keeps = keeps_trans c.args.settler.now c.touch_bridge.new.self c.touch_lans_of.new.settler c.touch_bridge.ensures.keeps c.touch_lans_of.ensures.keeps in
    space_kept c.args.there.now c.args.settler.now c.touch_lans_of.new.settler c.requires.there keeps.space

pub returns-then-not-has_bridge-clause-keeps : goal.returns-then-not-has_bridge-clause-keeps
returns-then-not-has_bridge-clause-keeps g c =
    let keeps = keeps_trans c.args.settler.now c.touch_bridge.new.self c.touch_lans_of.new.settler c.touch_bridge.ensures.keeps c.touch_lans_of.ensures.keeps in
    keeps_trans c.args.settler.now c.touch_lans_of.new.settler c.touch_lans_of-then-not-has_bridge.new.settler keeps c.touch_lans_of-then-not-has_bridge.ensures.keeps

pub returns-then-not-has_bridge-clause-done : goal.returns-then-not-has_bridge-clause-done
returns-then-not-has_bridge-clause-done g c =
    let last = c.touch_lans_of-then-not-has_bridge.ensures in
    let keeps = keeps_trans c.touch_bridge.new.self c.touch_lans_of.new.settler c.touch_lans_of-then-not-has_bridge.new.settler c.touch_lans_of.ensures.keeps last.keeps in
    inr (
      keeps.touched_bridges c.args.number (c.touch_bridge.ensures.touched (c.requires.here.bridges c.args.number c.args.bridge.now c.requires.bridge)),
      (λ p h on. last.keeps.touched_lans p.lan (c.touch_lans_of.ensures.touched p h on)),
      last.touched,
    )
