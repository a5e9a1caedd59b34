-- VIDs of a set are grouped by the parts of their classes.
use Rattle.std.proofs.Common.{◌≡◌, ℕ, ◌-◌, Bool, true, List, [], length, get_or, map, sym, ◌∙◌}
use Rattle.std.specs.List.{Contains}
use Rattle.mst_graph.specs.Groups.{AreGroups}
use Rattle.mst_graph.specs.Numbers.{HaveBodies}
use Rattle.mst_judged.specs.reasons.sweep.vlan.classes.AllVids.{NumberEach, all_vids}
use Rattle.mst_judged.specs.reasons.sweep.Cuts.{parts_at}
use Rattle.mst_judged.proofs.ValueGroups.{values_grouped}
use Rattle.mst_judged.proofs.reasons_lemmas.sweep_lemmas.SameParts.{same_parts, parts_decide}
use Rattle.mst_judged.specs.reasons.Reasons.{Parts}

module _ {B : Type 0} (parts : B → Parts) (same : B → B → Bool) (same_is : (a b : B) → same a b ≡ same_parts (parts a) (parts b)) (numbers : List ℕ) (bodies : List B) (each : NumberEach numbers (length bodies))
    (vids : List ℕ) (are_vids : (vid : ℕ) → Contains vids vid → Contains all_vids vid) where
  -- by lists that are these
  pub vids_grouped : (things classes : List ℕ) → things ≡ vids → classes ≡ map (λ vid. get_or numbers (vid - 1) 0) vids → (groups : List (List ℕ))
      → ((body : ℕ → B) → HaveBodies same body things classes bodies → AreGroups (λ x y. same (body x) (body y) ≡ true) things groups) → AreGroups (λ x y. parts_at numbers (map parts bodies) x ≡ parts_at numbers (map parts bodies) y) vids groups
  vids_grouped =
      values_grouped [] parts same (λ a b. (λ e. (parts_decide (parts a) (parts b)).0 (sym (same_is a b) ∙ e), λ e. same_is a b ∙ (parts_decide (parts a) (parts b)).1 e)) numbers bodies each vids are_vids
