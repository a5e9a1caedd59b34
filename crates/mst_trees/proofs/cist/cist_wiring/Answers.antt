use Rattle.std.proofs.Common.{◌≡◌, ℕ, List, IfOk, sym, subst, ◌∙◌}
use Rattle.mst_vector.specs.declared.cist.CistPort.{CistPort}
use Rattle.mst_forest.specs.topology.Topology.{TreePort}
use Rattle.mst_trees.specs.Wirings.{HaveNumbers}
use Rattle.mst_trees.proofs.OwnSettings.{own_cist_ports}
use Rattle.mst_trees.proofs.cist.cist_wiring.Goals as goal

pub wiring_of-requires : goal.wiring_of-requires
wiring_of-requires c = subst HaveNumbers (sym (c.in_ok-ports.ensures ∙ own_cist_ports c.args.view.now c.args.own.now.entries c.requires.own)) c.requires.numbers

pub returns : goal.returns
returns c =
    subst (λ (ports : List (TreePort ℕ ℕ ℕ CistPort)). IfOk c.wiring_of.result (λ (wiring : List (TreePort ℕ ℕ ℕ CistPort)). wiring ≡ ports))
    (c.in_ok-ports.ensures ∙ own_cist_ports c.args.view.now c.args.own.now.entries c.requires.own) c.wiring_of.ensures
