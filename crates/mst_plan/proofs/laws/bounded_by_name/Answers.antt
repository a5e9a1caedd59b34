use Rattle.std.proofs.Common.{subst}
use Rattle.mst_vector.specs.Cist.{cist_rules}
use Rattle.mst_vector.specs.Msti.{msti_rules}
use Rattle.mst_trees.specs.forest.Cist.{cist_sight}
use Rattle.mst_trees.specs.forest.Msti.{msti_sight}
use Rattle.mst_trees.specs.forest.Outcome.{Outcome}
use Rattle.mst_outcome.specs.Assignment.{vector_of, designated_of}
use Rattle.mst_trees.specs.forest.Forest.{msti_vector, msti_designated, msti_settlings}
use Rattle.mst_trees.proofs.forest_lemmas.CistTopology.{cist_is_sight}
use Rattle.mst_trees.proofs.forest_lemmas.MstiTopology.{msti_is_sight}
use Rattle.mst_plan.specs.ByName.{KeepsBoundByName}
use Rattle.mst_plan.proofs.ByName.{by_name}
use Rattle.mst_plan.proofs.EditNumbers.{together, are_one}
use Rattle.mst_plan.proofs.laws.bounded_by_name.Goals as goal

pub returns-clause-cist : goal.returns-clause-cist
returns-clause-cist c edit old new f g ok fine was now made stood stands bounds o q is_o is_q =
    subst (λ (x : Outcome). KeepsBoundByName x.cist.vector q.cist.vector g.cist.settlings) (c.one_outcome.ensures old.net stood.outcome o ok stood.is_outcome is_o)
    (subst (λ (x : Outcome). KeepsBoundByName stood.outcome.cist.vector x.cist.vector g.cist.settlings) (c.one_outcome.ensures new.net stands.outcome q fine stands.is_outcome is_q)
    (by_name old.numbers.bridges new.numbers.bridges (together old new was now edit made) (vector_of f.cist) (vector_of g.cist) stood.outcome.cist.vector stands.outcome.cist.vector
    (are_one old.net old.numbers ok was cist_rules (cist_sight old.net) (cist_is_sight old.net ok) stood.outcome.cist stood.is_outcome.cist (vector_of f.cist) (designated_of f.cist) stood.cist)
    (are_one new.net new.numbers fine now cist_rules (cist_sight new.net) (cist_is_sight new.net fine) stands.outcome.cist stands.is_outcome.cist (vector_of g.cist) (designated_of g.cist) stands.cist)
    g.cist.settlings bounds.cist))

pub returns-clause-mstis : goal.returns-clause-mstis
returns-clause-mstis c edit old new f g ok fine was now made stood stands bounds o q is_o is_q tree =
    let w = stood.outcome in
    let n = stands.outcome in
    subst (λ (x : Outcome). KeepsBoundByName (x.msti tree).vector (q.msti tree).vector (msti_settlings g tree)) (c.one_outcome.ensures old.net w o ok stood.is_outcome is_o)
    (subst (λ (x : Outcome). KeepsBoundByName (w.msti tree).vector (x.msti tree).vector (msti_settlings g tree)) (c.one_outcome.ensures new.net n q fine stands.is_outcome is_q)
    (by_name old.numbers.bridges new.numbers.bridges (together old new was now edit made) (msti_vector f tree) (msti_vector g tree) (w.msti tree).vector (n.msti tree).vector
    (are_one old.net old.numbers ok was msti_rules (msti_sight old.net tree w.cist.designated) (msti_is_sight old.net ok tree w.cist.designated) (w.msti tree) (stood.is_outcome.mstis tree) (msti_vector f tree) (msti_designated f tree) (stood.mstis tree))
    (are_one new.net new.numbers fine now msti_rules (msti_sight new.net tree n.cist.designated) (msti_is_sight new.net fine tree n.cist.designated) (n.msti tree) (stands.is_outcome.mstis tree) (msti_vector g tree) (msti_designated g tree) (stands.mstis tree))
    (msti_settlings g tree) (bounds.mstis tree)))
