use Rattle.std.proofs.Common.{refl, sym, ◌∙◌}
use Rattle.mst_picture.specs.Picture.{picture}
use Rattle.mst_questions.proofs.laws.one_picture.Goals as goal

pub returns-clause-some : goal.returns-clause-some
returns-clause-some g net tree ok =
    let o = g.has_outcome.ensures net ok in
    (picture net o.0 tree, record { outcome = o.0; is_outcome = o.1; drawn = refl })

pub returns-clause-one : goal.returns-clause-one
returns-clause-one g net tree text other ok a b = a.drawn ∙ g.one_picture.ensures net a.outcome b.outcome tree ok a.is_outcome b.is_outcome ∙ sym b.drawn
