use Rattle.std.proofs.Common.{[], ◌∷◌, refl, sym, ap, subst, ◌∙◌}
use Rattle.std.proofs.lemmas.Result.{IfOk-weaker}
use Rattle.mst_net.specs.tables.Contents.{Tables}
use Rattle.mst_net.specs.tables.Tables.{Net}
use Rattle.mst_path.specs.Places.{named_path}
use Rattle.mst_roles.specs.forest.Agrees.{AreOf}
use Rattle.mst_roles.specs.forest.Forest.{IsForest}
use Rattle.mst_roles.specs.forest.Settled.{SettledNet, outcome_of}
use Rattle.mst_tracing.specs.Fates.{HasPathIn}
use Rattle.mst_tracing.proofs.Ahead.{made_ahead}
use Rattle.mst_tracing.proofs.always.path_failed.Goals as goal

pub ahead-failed-requires-clause-of : goal.ahead-failed-requires-clause-of
ahead-failed-requires-clause-of c =
    let trees = c.in_ok-trees.trees in
    subst (λ (t : Tables). AreOf t.net t.numbers c.trees_failed.new.seen trees.regions) (sym (made_ahead c.args.failure.now c.edit.result c.from_ref.result.now c.args.network.now c.edit.ensures c.from_ref.ensures.value)) c.in_ok-trees.ensures.trees.of

pub ahead-failed-requires-clause-forest : goal.ahead-failed-requires-clause-forest
ahead-failed-requires-clause-forest c =
    let trees = c.in_ok-trees.trees in
    subst (λ (t : Tables). IsForest t.net t.numbers trees) (sym (made_ahead c.args.failure.now c.edit.result c.from_ref.result.now c.args.network.now c.edit.ensures c.from_ref.ensures.value)) c.in_ok-trees.ensures.trees.forest

pub returns-clause-path : goal.returns-clause-path
returns-clause-path c =
    let s = c.ahead-failed.result in
    let net_is = ap (λ (s : SettledNet). s.net) c.ahead-failed.ensures ∙ ap (λ (t : Tables). t.net) (made_ahead c.args.failure.now c.edit.result (c.args.failure.now ∷ []) c.args.network.now c.edit.ensures refl) in
    IfOk-weaker c.path.result _ _
    (λ path is. subst (λ (net : Net). HasPathIn net c.args.trace.now (named_path path)) net_is (record { outcome = outcome_of s; is_outcome = c.known.ensures.is_outcome; is_path = is }))
    c.path.ensures
