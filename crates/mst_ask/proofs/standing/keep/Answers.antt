use Rattle.std.proofs.Common.{◌∙◌, ◌∷◌, [], ◌++◌, cond, ap}
use Rattle.mst_ask.proofs.standing.keep.Goals as goal

pub returns-clause-ok : goal.returns-clause-ok
returns-clause-ok c =
    let made = c.args.made.now.items in
    let kept = c.in_ok-kept.kept in
    (kept, c.in_ok-kept.ensures.items, c.push.ensures.items ∙ ap (λ b. cond b (made ++ kept ∷ []) made) c.if-is_err.ensures.negation)
