use Rattle.std.proofs.Common.{ap}
use Rattle.mst_picture.specs.Picture.{picture}
use Rattle.mst_picture.proofs.laws.one_picture.Goals as goal

pub returns : goal.returns
returns g net o q tree ok oo oq = ap (λ o. picture net o tree) (g.one_outcome.ensures net o q ok oo oq)
