use Rattle.std.proofs.Common.{ℕ, None, subst}
use Rattle.mst_vector.specs.Cist.{cist_rules}
use Rattle.mst_vector.specs.Msti.{msti_rules}
use Rattle.mst_vector.specs.declared.cist.CistVector.{CistVector}
use Rattle.mst_vector.specs.declared.msti.MstiVector.{MstiVector}
use Rattle.mst_net.specs.tables.Contents.{Contents}
use Rattle.mst_trees.specs.forest.Cist.{cist_sight}
use Rattle.mst_trees.specs.forest.Msti.{msti_sight}
use Rattle.mst_trees.specs.forest.Outcome.{Outcome}
use Rattle.mst_outcome.specs.Assignment.{vector_of, designated_of}
use Rattle.mst_trees.specs.forest.Forest.{Forest, msti_vector, msti_designated, msti_settlings}
use Rattle.mst_trees.proofs.forest_lemmas.CistTopology.{cist_is_sight}
use Rattle.mst_trees.proofs.forest_lemmas.MstiTopology.{msti_is_sight}
use Rattle.mst_plan.specs.ByName.{KeepBoundsByName, KeepFirstBounds, StandsFor}
use Rattle.mst_plan.specs.Standing.{standing_of}
use Rattle.mst_plan.proofs.ByName.{AreOne, by_name}
use Rattle.mst_plan.proofs.EditNumbers.{together, are_one, as_together, with_themselves, none_one}
use Rattle.mst_plan.proofs.laws.bounded_since.Goals as goal

-- the vectors of trees that stand, by numbers and by names
cist_one : (c : Contents) (f : Forest) (s : StandsFor c f) → AreOne c.numbers.bridges (vector_of f.cist) s.forest.outcome.cist.vector
cist_one c f s =
    are_one c.net c.numbers s.network s.numbered cist_rules (cist_sight c.net) (cist_is_sight c.net s.network) s.forest.outcome.cist s.forest.is_outcome.cist (vector_of f.cist) (designated_of f.cist) s.forest.cist

msti_one : (c : Contents) (f : Forest) (s : StandsFor c f) (tree : ℕ) → AreOne c.numbers.bridges (msti_vector f tree) (s.forest.outcome.msti tree).vector
msti_one c f s tree =
    let o = s.forest.outcome in
    are_one c.net c.numbers s.network s.numbered msti_rules (msti_sight c.net tree o.cist.designated) (msti_is_sight c.net s.network tree o.cist.designated) (o.msti tree) (s.forest.is_outcome.mstis tree)
    (msti_vector f tree) (msti_designated f tree) (s.forest.mstis tree)

pub returns-clause-since : goal.returns-clause-since
returns-clause-since c old new f g stood stands kept bounds o q is_o is_q =
    let go = as_together old.numbers.bridges new.numbers.bridges stood.numbered.bridges_differ stands.numbered.bridges_differ kept.same kept.one in
    subst (λ (x : Outcome). KeepBoundsByName x q (standing_of g)) (c.one_outcome.ensures old.net stood.forest.outcome o stood.network stood.forest.is_outcome is_o)
    (subst (λ (x : Outcome). KeepBoundsByName stood.forest.outcome x (standing_of g)) (c.one_outcome.ensures new.net stands.forest.outcome q stands.network stands.forest.is_outcome is_q)
    (record {
      cist = by_name old.numbers.bridges new.numbers.bridges go (vector_of f.cist) (vector_of g.cist) stood.forest.outcome.cist.vector stands.forest.outcome.cist.vector
          (cist_one old f stood) (cist_one new g stands) g.cist.settlings bounds.cist;
      mstis = λ tree. by_name old.numbers.bridges new.numbers.bridges go (msti_vector f tree) (msti_vector g tree) (stood.forest.outcome.msti tree).vector (stands.forest.outcome.msti tree).vector
          (msti_one old f stood tree) (msti_one new g stands tree) (msti_settlings g tree) (bounds.mstis tree);
    }))

pub returns-clause-first : goal.returns-clause-first
returns-clause-first c new g stands bounds q is_q =
    let k = new.numbers.bridges in
    let go = with_themselves k stands.numbered.bridges_differ in
    subst (λ (x : Outcome). KeepFirstBounds x (standing_of g)) (c.one_outcome.ensures new.net stands.forest.outcome q stands.network stands.forest.is_outcome is_q)
    (record {
      cist = by_name k k go (λ n. None) (vector_of g.cist) (λ name. None) stands.forest.outcome.cist.vector (none_one {V = CistVector} k) (cist_one new g stands) g.cist.settlings bounds.cist;
      mstis = λ tree. by_name k k go (λ n. None) (msti_vector g tree) (λ name. None) (stands.forest.outcome.msti tree).vector (none_one {V = MstiVector} k) (msti_one new g stands tree) (msti_settlings g tree) (bounds.mstis tree);
    })

pub returns-clause-kept : goal.returns-clause-kept
returns-clause-kept c edit old new was now made =
    let go = together old new was now edit made in
    record { same = go.same; one = go.one }
