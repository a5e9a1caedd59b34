use Rattle.std.proofs.Common.{◌≡◌, ℕ, true, sym, ◌∙◌, ap}
use Rattle.std.specs.List.{Contains}
use Rattle.mst_topology.specs.Topology.{TreePort}
use Rattle.mst_settle.proofs.Roomy.{keeps_trans}
use Rattle.mst_settle.proofs.differences.touch_port.Goals as goal

pub returns-in-Some-clause-keeps : goal.returns-in-Some-clause-keeps
returns-in-Some-clause-keeps g c = keeps_trans c.args.settler.now c.touch.new.self c.touch_bridge.new.self c.touch.ensures.keeps c.touch_bridge.ensures.keeps

pub returns-in-Some-clause-touched : goal.returns-in-Some-clause-touched
returns-in-Some-clause-touched g c = λ p h number.
    let there = c.port.ensures.some c.in-Some.port c.in-Some.is in
    let same : c.in-Some.port ≡ p = c.known.ensures.one_port c.in-Some.port p there.0 h (there.1 ∙ sym number) in
    let is = c.port-in-Some.view_is ∙ same in
    let lan : Contains c.touch.new.self.touched_lans (p.lan, true) = (rw (ap (λ (q : TreePort ℕ ℕ ℕ g.row.M-Port.Denot). q.lan) is) at c.touch.ensures.touched) (c.requires.lans p h) in
    let bridge = (rw (ap (λ (q : TreePort ℕ ℕ ℕ g.row.M-Port.Denot). q.bridge) is) at c.touch_bridge.ensures.touched) (c.touch.ensures.keeps.space.bridges p.bridge (c.requires.bridges_of_ports p h)) in
    (bridge, c.touch_bridge.ensures.keeps.touched_lans p.lan lan)

pub returns-in_default-clause-touched : goal.returns-in_default-clause-touched
returns-in_default-clause-touched g c = λ p h number. absurd (c.port.ensures.none c.in_default.is p h number)
