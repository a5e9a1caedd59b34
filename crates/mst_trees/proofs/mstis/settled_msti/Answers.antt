use Rattle.std.proofs.Common.{IfOk, sym, subst, ap, ◌∙◌}
use Rattle.mst_vector.specs.Msti.{msti_rules}
use Rattle.mst_forest.specs.outcome.Assignment.{vector_of}
use Rattle.mst_forest.specs.outcome.Held.{IsHeld}
use Rattle.mst_trees.specs.Ground.{Ground, rewiring_of}
use Rattle.mst_trees.specs.Mstis.{IsSettledFrom}
use Rattle.mst_trees.specs.Wirings.{AreOwn, msti_wires}
use Rattle.mst_trees.proofs.Gathering.{among_some, among_none, settled_from}
use Rattle.mst_trees.proofs.Spaced.{same_both, anew_both}
use Rattle.mst_trees.proofs.mstis.settled_msti.Goals as goal

pub repaired_msti-requires-clause-held : goal.repaired_msti-requires-clause-held
repaired_msti-requires-clause-held c =
    subst (λ wires. IsHeld msti_rules wires c.in-Some.msti.now) (sym (ap (λ (g : Ground). g.from) c.ground.view_is))
    (c.requires.held c.args.tree c.in-Some.msti.now (sym c.in-Some.ensures.value))

pub repaired_msti-requires-clause-own : goal.repaired_msti-requires-clause-own
repaired_msti-requires-clause-own c = subst (AreOwn c.ground.inside.view.now c.ground.inside.internal.now c.args.tree) (sym c.own_of-own.ensures) (c.ground.invariant.own c.args.tree)

pub repaired_msti-requires-in-None-clause-own : goal.repaired_msti-requires-in-None-clause-own
repaired_msti-requires-in-None-clause-own c =
    subst (AreOwn c.ground.inside.view.now c.ground.inside.internal.now c.args.tree) (sym c.own_of-own.ensures) (c.ground.invariant.own c.args.tree)

pub repaired_msti-requires-clause-space : goal.repaired_msti-requires-clause-space
repaired_msti-requires-clause-space c =
    let ground : Ground = c.args.ground.now in
    same_both c.ground.inside.rewiring.now (rewiring_of ground) c.args.settler.now (c.ground.invariant.to ∙ ap (λ (g : Ground). msti_wires g.internal) c.ground.view_is) c.requires.space (ap (λ (g : Ground). g.from) c.ground.view_is)

pub repaired_msti-requires-in-None-clause-held : goal.repaired_msti-requires-in-None-clause-held
repaired_msti-requires-in-None-clause-held c = subst (λ wires. IsHeld msti_rules wires c.new-nothing.result) (sym (c.in_ok-anew-in-None.ensures.from ∙ c.ground.invariant.none)) c.new-nothing.ensures.held

pub repaired_msti-requires-in-None-clause-to : goal.repaired_msti-requires-in-None-clause-to
repaired_msti-requires-in-None-clause-to c = c.in_ok-anew-in-None.ensures.to ∙ c.to.ensures ∙ c.ground.invariant.to

pub repaired_msti-requires-in-None-clause-space : goal.repaired_msti-requires-in-None-clause-space
repaired_msti-requires-in-None-clause-space c =
    let ground : Ground = c.args.ground.now in
    anew_both c.in_ok-anew-in-None.anew (rewiring_of ground) c.args.settler.now (c.in_ok-anew-in-None.ensures.to ∙ c.to.ensures ∙ c.ground.invariant.to ∙ ap (λ (g : Ground). msti_wires g.internal) c.ground.view_is) c.requires.space (c.in_ok-anew-in-None.ensures.from ∙ c.ground.invariant.none)

pub returns-in-Some-clause-settled : goal.returns-in-Some-clause-settled
returns-in-Some-clause-settled c =
    let former = c.args.former.now.entries in
    let g : Ground = record { view = c.ground.inside.view.now; internal = c.ground.inside.internal.now; from = c.ground.inside.rewiring.now.from } in
    subst (λ g. IfOk c.repaired_msti.result (IsSettledFrom g former c.args.tree)) c.ground.view_is
    (settled_from g former c.args.tree (vector_of c.in-Some.msti.now.outcome) (among_some former c.args.tree c.in-Some.msti.now c.in-Some.ensures.value)
    c.ground.inside.rewiring.now.to c.ground.invariant.to c.repaired_msti.result c.repaired_msti.ensures.settled c.repaired_msti.ensures.held)

pub returns-clause-settled : goal.returns-clause-settled
returns-clause-settled c =
    let former = c.args.former.now.entries in
    let g : Ground = record { view = c.ground.inside.view.now; internal = c.ground.inside.internal.now; from = c.ground.inside.rewiring.now.from } in
    subst (λ g. IfOk c.repaired_msti-in-None.result (IsSettledFrom g former c.args.tree)) c.ground.view_is
    (settled_from g former c.args.tree (vector_of c.new-nothing.result.outcome) (among_none former c.args.tree c.new-nothing.result.outcome c.new-nothing.ensures.vectors c.in-None.ensures.value)
    c.in_ok-anew-in-None.anew.to (c.in_ok-anew-in-None.ensures.to ∙ c.to.ensures ∙ c.ground.invariant.to) c.repaired_msti-in-None.result c.repaired_msti-in-None.ensures.settled c.repaired_msti-in-None.ensures.held)
