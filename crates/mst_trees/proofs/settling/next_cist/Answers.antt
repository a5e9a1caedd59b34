use Rattle.std.proofs.Common.{sym, ap, subst, ◌∙◌}
use Rattle.mst_trees.specs.Wirings.{AreOwn, own_in}
use Rattle.mst_trees.proofs.OnWiring.{cist_numbers}
use Rattle.mst_trees.proofs.settling.next_cist.Goals as goal

pub cist_wiring-requires : goal.cist_wiring-requires
cist_wiring-requires c =
    let k = c.requires.known in
    record { own = subst (AreOwn c.args.view.now c.args.view.now.ports 0) (sym (c.own_of.ensures ∙ ap (own_in c.args.own.now.entries) c.cist.ensures)) c.requires.own; numbers = cist_numbers k.net k.numbers c.args.view.now c.args.regions.now k.of }

pub repaired_cist-requires : goal.repaired_cist-requires
repaired_cist-requires c = record { known = c.requires.known; held = c.cist_wired.ensures.held; to = c.in_ok-wiring.ensures }

pub returns-clause-settled : goal.returns-clause-settled
returns-clause-settled c = rw (← c.cist_wired.ensures.outcome) c.in_ok-cist.ensures.settled
