use Rattle.std.proofs.Common.{◌≡◌, ℕ, Option, Result, Ok, Err, IfOk, subst}
use Rattle.std.specs.declared.alloc.AllocError.{AllocError}
use Rattle.mst_vector.specs.declared.cist.CistVector.{CistVector}
use Rattle.mst_vector.specs.declared.msti.MstiVector.{MstiVector}
use Rattle.mst_outcome.specs.Assignment.{vector_of}
use Rattle.mst_trees.specs.Bound.{KeepsBound}
use Rattle.mst_plan.specs.Standing.{Standing, nothing, standing_of, msti_vector, msti_settlings, KeepsBounds}
use Rattle.mst_plan.specs.declared.plan.Plan.{Plan}
use Rattle.mst_plan.proofs.kept.KeptPlan.next.Goals as goal

pub returns-in_ok-regions-in-Nothing-clause-bounds : goal.returns-in_ok-regions-in-Nothing-clause-bounds
returns-in_ok-regions-in-Nothing-clause-bounds g c = rw c.in-Nothing.is (go c.plan_from.result c.plan_from.ensures.bounds)
  where
    empty : Standing
    empty = standing_of c.empty.result

    cist_same : vector_of empty.cist ≡ vector_of nothing.cist
    cist_same i n = c.empty.ensures.cist n i

    msti_same : (tree : ℕ) → msti_vector empty tree ≡ msti_vector nothing tree
    msti_same tree i n = c.empty.ensures.mstis tree n i

    from_nothing : (new : Standing) → KeepsBounds empty new → KeepsBounds nothing new
    from_nothing new h = record {
      cist = subst (λ (v : ℕ → Option CistVector). KeepsBound v (vector_of new.cist) new.cist.settlings) cist_same h.cist;
      mstis = λ tree. subst (λ (v : ℕ → Option MstiVector). KeepsBound v (msti_vector new tree) (msti_settlings new tree)) (msti_same tree) (h.mstis tree);
    }

    go : (r : Result Plan AllocError) → IfOk r (λ plan. KeepsBounds empty (standing_of plan.forest)) → IfOk r (λ plan. KeepsBounds nothing (standing_of plan.forest))
    go (Ok plan) h = from_nothing (standing_of plan.forest) h
    go (Err e) h = h
