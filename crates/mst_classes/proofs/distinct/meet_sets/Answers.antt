use Rattle.std.proofs.Common.{◌≡◌, ◌<◌, ◌≤◌, ℕ, List, Bool, length, get_or, ap, subst, ◌∙◌}
use Rattle.std.specs.Cmp.Lexicographic.{pointwise}
use Rattle.std.specs.Bool.{beq}
use Rattle.std.specs.List.{AllByRecursion, Contains}
use Rattle.std.proofs.lemmas.List.{take_all}
use Rattle.mst_tables.specs.ByTree.{ByTree, vlans_in}
use Rattle.mst_view.specs.declared.in_view.PortInView.{PortInView}
use Rattle.mst_classes.proofs.Gathered.{none_so_far, one_put, one_there}
use Rattle.mst_classes.proofs.Told.{same_sets}
use Rattle.mst_classes.proofs.distinct.meet_sets.Goals as goal
use Rattle.mst_classes.proofs.distinct.meet_sets.Goals.{then-not-is_last_set+in_ok-insert, else-not-is_last_set}

pub loop-port-init : goal.loop-port-init
loop-port-init c = none_so_far (λ (b : PortInView). vlans_in c.args.view.now.settings.vlans b.name) c.args.met.now.keys

pub loop-port-preserved : goal.loop-port-preserved
loop-port-preserved c =
    let v = c.args.view.now in
    let key : PortInView → List Bool = λ b. vlans_in v.settings.vlans b.name in
    let old : List (List Bool) = c.loop-port.met.keys in
    let i : ℕ = c.loop-port.port-index in
    let b = c.port-item.result in
    let l : i < length v.ports = subst (λ bs. i < length bs) c.ports-port-items.ensures c.loop-port-test.true in
    let is : b ≡ get_or v.ports i b = c.port-item.is ∙ ap (λ bs. get_or bs i b) c.ports-port-items.ensures in
    let set : c.port_vlans-vlans.result ≡ key b = c.port_vlans-vlans.ensures ∙ ap (λ (all : ByTree). vlans_in all.vlans b.name) c.settings.ensures in
    elim c.if-not-is_last_set.branch [
      | then-not-is_last_set+in_ok-insert w ↦
          rw w.met-is
          (one_put key v.ports i b l is c.args.met.now.keys old c.loop-port.invariant (pointwise beq) same_sets w.insert.new.self.keys c.port_vlans-vlans.result set w.in_ok-insert.ensures.keys)
      | else-not-is_last_set w ↦
          rw w.met-is
          (one_there key v.ports i b l is c.args.met.now.keys old c.loop-port.invariant c.port_vlans-vlans.result set
          (subst (λ ts. Contains ts c.port_vlans-vlans.result) c.as_slice.ensures.keys (c.is_last_set.ensures w.if-not-is_last_set.false)))
    ]

pub returns-clause-there : goal.returns-clause-there
returns-clause-there c =
    let v = c.args.view.now in
    subst (λ bs. AllByRecursion (λ (b : PortInView). Contains c.loop-port.met.keys (vlans_in v.settings.vlans b.name)) bs)
    (take_all c.loop-port.port-index v.ports (subst (λ bs. length bs ≤ c.loop-port.port-index) c.ports-port-items.ensures c.loop-port-test.false)) c.loop-port.invariant.there

pub returns-clause-before : goal.returns-clause-before
returns-clause-before c = c.loop-port.invariant.before
