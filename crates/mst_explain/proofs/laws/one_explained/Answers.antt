use Rattle.std.proofs.Common.{sym, subst}
use Rattle.mst_roles.specs.forest.Outcome.{Outcome}
use Rattle.mst_explain.specs.Explained.{IsExplained, AreExplained}
use Rattle.mst_explain.proofs.OneText.{one_explained, all_explained_once}
use Rattle.mst_explain.proofs.laws.one_explained.Goals as goal

pub returns-clause-one : goal.returns-clause-one
returns-clause-one c net o q ok a b p tree rows other e f =
    one_explained net ok o tree p rows other e (subst (λ (r : Outcome). IsExplained net r tree p other) (sym (c.one_outcome.ensures net o q ok a b)) f)

pub returns-clause-all : goal.returns-clause-all
returns-clause-all c net o q ok a b p trees rows other e f =
    all_explained_once net ok o p trees rows other e (subst (λ (r : Outcome). AreExplained net r p trees other) (sym (c.one_outcome.ensures net o q ok a b)) f)
