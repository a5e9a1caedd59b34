-- There are rows of what a step does.
use Rattle.std.proofs.Common.{◌≡◌, ℕ, ◌||◌, Bool, true, List, ◌∷◌, ◌++◌, refl}
use Rattle.std.specs.Cmp.{IsEquivalence}
use Rattle.std.specs.List.{filter}
use Rattle.mst_ids.specs.Vids.{is_vid}
use Rattle.mst_graph.specs.Groups.{AreGroups}
use Rattle.mst_graph.specs.Islands.{Island}
use Rattle.mst_net.specs.tables.Tables.{Net}
use Rattle.mst_policy.specs.Leaving.{Leaving}
use Rattle.mst_rows.specs.Rows.{Row}
use Rattle.mst_diff.specs.vlan.Reach.{AreIslandsOf}
use Rattle.mst_forest.specs.Outcome.{Outcome}
use Rattle.mst_view.specs.View.{bridge_names}
use Rattle.mst_diff.specs.vlan.classes.AllVids.{all_vids}
use Rattle.mst_graph.specs.Lists.{has_any}
use Rattle.mst_verdict.specs.sweep.Cuts.{runs_of}
use Rattle.mst_verdict.specs.sweep.Moved.{moved_ports, moved_roots}
use Rattle.mst_verdict.specs.sweep.Parts.{ArePartsOf, all_parts, staying}
use Rattle.mst_verdict.proofs.sweep_lemmas.CutsBy as cuts
use Rattle.mst_verdict.specs.sweeping.MovedVids.{ArePartsBut, AreVidsWhere, IsCut, IsJoinedBut, IsMoved, links_differ, remaining}
use Rattle.mst_verdict.specs.sweeping.Restarts.{restarting}
use Rattle.mst_verdict.specs.sweeping.StepText.{AreStepRows, cut_by, deed_row, rows_behind}
use Rattle.mst_verdict.specs.sweeping.Turns.{turning}
use Rattle.mst_verdict.specs.sweeping.declared.step.Deed.{Deed}
use Rattle.mst_verdict.specs.sweeping.declared.step.Stepped.{Stepped}

-- each VID has islands
abbrev pub HasIslands : Net → Outcome → Type 0
HasIslands net o = (vid : ℕ) → (islands : List (Island (List ℕ) (List ℕ))) × AreIslandsOf net o vid islands

-- things that a test takes for the same have groups
abbrev pub HasGroups : Type 0
HasGroups = (same : ℕ → ℕ → Bool) (things : List ℕ) → IsEquivalence same → (groups : List (List ℕ)) × AreGroups (λ x y. same x y ≡ true) things groups

-- the VIDs that are so, by a flag of each
some_where : (Is : ℕ → Bool → Type 0) (flags : ℕ → Bool) → ((vid : ℕ) → Is vid (flags vid)) → AreVidsWhere Is (filter flags all_vids)
some_where Is flags each = record { flags = flags; each = λ vid _. each vid; are = refl }

-- the parts of a VID, of some bridges
module _ (bridges : ℕ → List (List ℕ)) (a b : Net) (o p : Outcome) (olds : HasIslands a o) (news : HasIslands b p) where
  abbrev parts : ℕ → List (List (List ℕ))
  parts vid = all_parts (staying (olds vid).0 (news vid).0 (bridges vid))

  are_parts : (vid : ℕ) → ArePartsOf (bridges vid) a o b p vid (parts vid)
  are_parts vid = ((olds vid).0, (news vid).0, (olds vid).1, (news vid).1, refl)

-- whether it is cut, and by which bridges that aren't to leave it
module _ (a b : Net) (o p : Outcome) (olds : HasIslands a o) (news : HasIslands b p) where
  abbrev cut_flag : ℕ → Bool
  cut_flag vid = has_any (parts (λ vid. bridge_names a) a b o p olds news vid)

  is_cut : (vid : ℕ) → IsCut a o b p vid (cut_flag vid)
  is_cut vid = (parts (λ vid. bridge_names a) a b o p olds news vid, are_parts (λ vid. bridge_names a) a b o p olds news vid, refl)

module _ (leaving : Leaving) (a b : Net) (o p : Outcome) (olds : HasIslands a o) (news : HasIslands b p) where
  abbrev parts_but : ℕ → List (List (List ℕ))
  parts_but vid = parts (λ vid. remaining leaving vid a) a b o p olds news vid

  are_parts_but : (vid : ℕ) → ArePartsBut leaving a o b p vid (parts_but vid)
  are_parts_but vid = are_parts (λ vid. remaining leaving vid a) a b o p olds news vid

module _ (a b : Net) (o p : Outcome) (olds : HasIslands a o) (news : HasIslands b p) (grouping : HasGroups) (leaving : Leaving) (step : Deed) where
  abbrev joined_flags : ℕ → Bool
  joined_flags vid = has_any (parts_but leaving b a p o news olds vid)

  abbrev moved_flags : ℕ → Bool
  moved_flags vid = cut_flag a b o p olds news vid || cut_flag b a p o news olds vid || links_differ a o b p vid

  is_moved : (vid : ℕ) → IsMoved a o b p vid (moved_flags vid)
  is_moved vid = (cut_flag a b o p olds news vid, cut_flag b a p o news olds vid, is_cut a b o p olds news vid, is_cut b a p o news olds vid, refl)

  is_joined : (vid : ℕ) → IsJoinedBut leaving a o b p vid (joined_flags vid)
  is_joined vid = (parts_but leaving b a p o news olds vid, are_parts_but leaving b a p o news olds vid, refl)

  abbrev each_part : (vid : ℕ) → is_vid vid ≡ true → ArePartsBut leaving a o b p vid (parts_but leaving a b o p olds news vid)
  each_part vid _ = are_parts_but leaving a b o p olds news vid

  abbrev moved : List ℕ
  moved = filter moved_flags all_vids

  abbrev cut : List ℕ
  cut = cuts.cut_vids (ArePartsBut leaving a o b p) (cut_by step) (parts_but leaving a b o p olds news) each_part grouping

  abbrev joined : List ℕ
  joined = filter joined_flags all_vids

  abbrev cut_rows : List Row
  cut_rows = cuts.cut_rows (ArePartsBut leaving a o b p) (cut_by step) (parts_but leaving a b o p olds news) each_part grouping

  abbrev rows : List Row
  rows = deed_row step (moved_roots a o b p) (moved_ports a o b p) (runs_of moved) (runs_of cut) (runs_of joined) ∷ cut_rows ++ rows_behind step (turning a o b p) (restarting a b)

  abbrev told : Stepped
  told = record { moves = has_any moved; cuts = has_any cut }

  are_rows : AreStepRows leaving a o b p step rows told
  are_rows = record {
    moved = moved;
    cut = cut;
    joined = joined;
    cut_rows = cut_rows;
    are_moved = some_where (IsMoved a o b p) moved_flags is_moved;
    are_cut = cuts.some_cuts (ArePartsBut leaving a o b p) (cut_by step) (parts_but leaving a b o p olds news) each_part grouping;
    are_joined = some_where (IsJoinedBut leaving a o b p) joined_flags is_joined;
    moves = refl;
    cuts = refl;
    are = refl;
  }

  pub has_step : (rows : List Row) × (told : Stepped) × AreStepRows leaving a o b p step rows told
  has_step = (rows, told, are_rows)
