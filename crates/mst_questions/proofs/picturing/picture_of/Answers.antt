use Rattle.std.proofs.Common.{ap, subst, ◌∙◌, ◌++◌}
use Rattle.mst_net.specs.tables.Tables.{Net}
use Rattle.mst_roles.specs.forest.Settled.{outcome_of}
use Rattle.mst_picture.specs.Picture.{picture}
use Rattle.mst_questions.specs.Picturing.{Depicts}
use Rattle.mst_questions.proofs.picturing.picture_of.Goals as goal

pub returns : goal.returns
returns c =
    let plan = c.settled-plan.result in
    let o = outcome_of plan in
    subst (λ (net : Net). Depicts net c.args.tree c.push_picture.new.out.items) c.settled-plan.ensures
    (record { outcome = o; is_outcome = c.known.ensures.is_outcome; drawn = c.in_ok-push_picture.ensures ∙ ap (λ l. l ++ picture plan.net o c.args.tree) c.new-text.ensures.items })
