use Rattle.std.proofs.Common.{◌≡◌, ◌&&◌, true, false, true≢false, List, ℕ, sym, ap, ◌∙◌}
use Rattle.mst_diff.specs.Reach.{same_names}
use Rattle.mst_diff.specs.Seen.{HaveSameEnds}
use Rattle.mst_diff.proofs.SameSides.{names_decide}
use Rattle.mst_diff.proofs.unlike.have_same_ends.Goals as goal
use Rattle.mst_diff.proofs.unlike.have_same_ends.Goals.{then-eq, else-eq}

pub returns : goal.returns
returns c = λ same. elim c.if-eq.branch [
  | then-eq w ↦ record {
    bridges =
        sym c.in_ok-bridges.ensures ∙ sym c.as_slice.ensures.value ∙ (names_decide c.as_slice.result.now c.as_slice-2.result.now).0 (sym c.eq.ensures ∙ w.if-eq.true) ∙ c.as_slice-2.ensures.value ∙ c.in_ok-bridges_after.ensures;
    lans =
        sym c.in_ok-lans.ensures ∙ sym w.as_slice-then-eq.ensures.value
        ∙ (names_decide w.as_slice-then-eq.result.now w.as_slice-then-eq-2.result.now).0 (sym w.eq-then-eq.ensures ∙ sym w.result-is ∙ same) ∙ w.as_slice-then-eq-2.ensures.value ∙ c.in_ok-lans_after.ensures;
  }
  | else-eq w ↦ absurd (true≢false (sym same ∙ w.result-is ∙ w.if-eq.false))
]
