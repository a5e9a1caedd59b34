use Rattle.std.proofs.Common.{map, Some, ap, ◌∙◌}
use Rattle.std.proofs.lemmas.Result.{IfOk-weaker}
use Rattle.mst_forest.specs.Settled.{outcome_of}
use Rattle.mst_forest.proofs.SettledNet.{forest_of}
use Rattle.mst_roles.proofs.ActiveListed.{active_numbers}
use Rattle.mst_roles.proofs.topology.active.Goals as goal

pub returns-clause-seen : goal.returns-clause-seen
returns-clause-seen c =
    IfOk-weaker c.numbers_of.result _ _ (λ ports e. e ∙ ap (map (λ p. p.number)) (c.as_slice.ensures.value ∙ c.in_ok-ports.ensures.seen)) c.numbers_of.ensures

pub returns-clause-named : goal.returns-clause-named
returns-clause-named c =
    let s = c.args.plan.now in
    IfOk-weaker c.numbers_of.result _ _ (λ ports e.
    ap (map Some) (e ∙ ap (map (λ p. p.number)) (c.as_slice.ensures.value ∙ c.in_ok-ports.ensures.seen)) ∙ active_numbers s.net s.numbers s.view s.forest c.known.ensures.of (forest_of s c.known.ensures) c.args.vid) c.numbers_of.ensures

pub returns-clause-joined : goal.returns-clause-joined
returns-clause-joined c =
    let s = c.args.plan.now in
    let is = c.known.ensures in
    IfOk-weaker c.numbers_of.result _ _ (λ ports e free. c.joined_without_loop.ensures.active s.net (outcome_of s) c.args.vid is.of.network is.is_outcome free) c.numbers_of.ensures
