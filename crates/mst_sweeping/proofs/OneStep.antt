-- A step has one list of rows, and one answer of whether it moves and whether it cuts.
use Rattle.std.proofs.Common.{◌≡◌, ℕ, ◌||◌, Bool, List, [], ◌∷◌, ◌++◌, refl, sym, ap, ◌∙◌}
use Rattle.std.specs.List.{Contains, flat_map}
use Rattle.std.proofs.lemmas.List.{append-nil}
use Rattle.mst_net.specs.tables.Tables.{Net}
use Rattle.mst_rows.specs.Rows.{Row}
use Rattle.mst_plan.specs.forest.Outcome.{Outcome}
use Rattle.mst_policy.specs.Leaving.{Leaving}
use Rattle.mst_sweep.specs.vlan.classes.AllVids.{all_vids}
use Rattle.mst_graph.specs.Lists.{has_any}
use Rattle.mst_plan.proofs.forest_lemmas.Entries.{all_weaker}
use Rattle.mst_plan.proofs.forest_lemmas.Lists.{all_there}
use Rattle.mst_plan.proofs.forest_lemmas.Looking.{filter_alike}
use Rattle.mst_sweep.proofs.vlan_lemmas.classes_lemmas.VidPlaces.{is_vid_there, OneGrouping}
use Rattle.mst_sweep.proofs.vlan_lemmas.OneList.{OneList}
use Rattle.mst_sweep.specs.declared.cuts.CutBy.TheVariants as by
use Rattle.mst_sweep.specs.declared.event.Cause.TheVariants.{One}
use Rattle.mst_sweep.specs.declared.failure.Failure.{Failure}
use Rattle.mst_sweep.specs.Cuts.{group_rows, runs_of, AreCutsBy}
use Rattle.mst_sweep.specs.Moved.{moved_roots, moved_ports}
use Rattle.mst_sweep.specs.Parts.{AreParts}
use Rattle.mst_sweep.specs.SweepText.{event_row, AreEventRows}
use Rattle.mst_sweep.proofs.CutsBy.{one_list, one_cut}
use Rattle.mst_sweep.proofs.OneSweep.{one_parts}
use Rattle.mst_sweeping.specs.declared.step.Deed.{Deed}
use Rattle.mst_sweeping.specs.declared.step.Deed.TheVariants as deed
use Rattle.mst_sweeping.specs.declared.step.Stepped.{Stepped}
use Rattle.mst_sweeping.specs.MovedVids.{ArePartsBut, AreVidsWhere, IsCut, IsJoinedBut, IsMoved, links_differ}
use Rattle.mst_sweeping.specs.Restarts.{restarting}
use Rattle.mst_sweeping.specs.StepText.{cut_by, deed_row, restart_rows, rows_behind, turn_rows, AreStepRows, IsAsInSweep}
use Rattle.mst_sweeping.specs.Turns.{turning}
use Rattle.mst_sweeping.proofs.Remaining.{one_parts_but, parts_for_all}

-- the VIDs that are so are one list, where of each VID one is so
one_where : (Is : ℕ → Bool → Type 0) → ((vid : ℕ) (c d : Bool) → Is vid c → Is vid d → c ≡ d) → (us vs : List ℕ) → AreVidsWhere Is us → AreVidsWhere Is vs → us ≡ vs
one_where Is single us vs x y =
    x.are
    ∙ filter_alike x.flags y.flags all_vids
    (all_weaker (Contains all_vids) _ (λ vid h. let v = is_vid_there vid h in single vid (x.flags vid) (y.flags vid) (x.each vid v) (y.each vid v)) all_vids (all_there all_vids))
    ∙ sym y.are

one_cut_flag : (a b : Net) (o p : Outcome) → OneList → (vid : ℕ) (c d : Bool) → IsCut a o b p vid c → IsCut a o b p vid d → c ≡ d
one_cut_flag a b o p one vid c d x y = x.2 ∙ ap has_any (one_parts a b o p one vid x.0 y.0 x.1 y.1) ∙ sym y.2

one_joined : (leaving : Leaving) (a b : Net) (o p : Outcome) → OneList → (vid : ℕ) (c d : Bool) → IsJoinedBut leaving a o b p vid c → IsJoinedBut leaving a o b p vid d → c ≡ d
one_joined leaving a b o p one vid c d x y = x.2 ∙ ap has_any (one_parts_but leaving b a p o vid x.0 one y.0 x.1 y.1) ∙ sym y.2

-- no row of no ports
no_restarts : (step : Deed) → restart_rows step [] ≡ []
no_restarts (deed.Step step) = refl
no_restarts deed.Edits = refl

module _ (a b : Net) (o p : Outcome) (one : OneList) (grouping : OneGrouping) where
  one_moved : (vid : ℕ) (c d : Bool) → IsMoved a o b p vid c → IsMoved a o b p vid d → c ≡ d
  one_moved vid c d x y =
      let cut : x.0 ≡ y.0 = one_cut_flag a b o p one vid x.0 y.0 x.2 y.2 in
      let joined : x.1 ≡ y.1 = one_cut_flag b a p o one vid x.1 y.1 x.3 y.3 in
      x.4 ∙ (λ i. cut i || joined i || links_differ a o b p vid) ∙ sym y.4

  module _ (leaving : Leaving) (step : Deed) (rows other : List Row) (told said : Stepped) (x : AreStepRows leaving a o b p step rows told) (y : AreStepRows leaving a o b p step other said) where
    moved : x.moved ≡ y.moved
    moved = one_where (IsMoved a o b p) one_moved x.moved y.moved x.are_moved y.are_moved

    joined : x.joined ≡ y.joined
    joined = one_where (IsJoinedBut leaving a o b p) (one_joined leaving a b o p one) x.joined y.joined x.are_joined y.are_joined

    one_parts_of : (vid : ℕ) (parts other : List (List (List ℕ))) → ArePartsBut leaving a o b p vid parts → ArePartsBut leaving a o b p vid other → parts ≡ other
    one_parts_of vid parts other = one_parts_but leaving a b o p vid parts one other

    cut : x.cut ≡ y.cut
    cut = one_cut (ArePartsBut leaving a o b p) one_parts_of grouping (cut_by step) x.cut y.cut x.cut_rows y.cut_rows x.are_cut y.are_cut

    cut_rows : x.cut_rows ≡ y.cut_rows
    cut_rows = one_list (ArePartsBut leaving a o b p) one_parts_of grouping (cut_by step) x.cut y.cut x.cut_rows y.cut_rows x.are_cut y.are_cut

    pub rows_same : rows ≡ other
    rows_same = x.are ∙ (λ i. deed_row step (moved_roots a o b p) (moved_ports a o b p) (runs_of (moved i)) (runs_of (cut i)) (runs_of (joined i)) ∷ cut_rows i ++ rows_behind step (turning a o b p) (restarting a b)) ∙ sym y.are

    pub told_same : told ≡ said
    told_same =
        let moves : told.moves ≡ said.moves = x.moves ∙ ap has_any moved ∙ sym y.moves in
        let cuts : told.cuts ≡ said.cuts = x.cuts ∙ ap has_any cut ∙ sym y.cuts in
        λ i. record { moves = moves i; cuts = cuts i }

  -- ---- beside a failure
  module _ (step : Deed) (failure : Failure) (rows swept : List Row) (told : Stepped) (cuts : Bool) (none : restarting a b ≡ []) (x : AreStepRows [] a o b p step rows told) (y : AreEventRows a o b p (One failure) swept cuts) where
    -- the VIDs that the step cuts are cut by the failure, into the same parts
    by_failure : AreCutsBy (AreParts a o b p) (by.One (One failure)) x.cut (flat_map (group_rows (by.One (One failure)) x.are_cut.parts) x.are_cut.groups)
    by_failure = record {
      parts = x.are_cut.parts;
      are_parts = λ vid v. parts_for_all [] a b o p vid (x.are_cut.parts vid) refl (x.are_cut.are_parts vid v);
      groups = x.are_cut.groups;
      are_groups = x.are_cut.are_groups;
      cut = x.are_cut.cut;
      are = refl;
    }

    same_cut : x.cut ≡ y.vids
    same_cut = one_cut (AreParts a o b p) (one_parts a b o p one) grouping (by.One (One failure)) x.cut y.vids (flat_map (group_rows (by.One (One failure)) x.are_cut.parts) x.are_cut.groups) y.cut by_failure y.are_cuts

    same_rows : flat_map (group_rows (by.One (One failure)) x.are_cut.parts) x.are_cut.groups ≡ y.cut
    same_rows = one_list (AreParts a o b p) (one_parts a b o p one) grouping (by.One (One failure)) x.cut y.vids (flat_map (group_rows (by.One (One failure)) x.are_cut.parts) x.are_cut.groups) y.cut by_failure y.are_cuts

    pub as_failure : IsAsInSweep step failure rows told swept cuts
    as_failure = record {
      roots = moved_roots a o b p;
      ports = moved_ports a o b p;
      moved = runs_of x.moved;
      cut = runs_of x.cut;
      joined = runs_of x.joined;
      parts = x.are_cut.parts;
      groups = x.are_cut.groups;
      turning = turning a o b p;
      of_step =
          x.are
          ∙ ap (λ rows. deed_row step (moved_roots a o b p) (moved_ports a o b p) (runs_of x.moved) (runs_of x.cut) (runs_of x.joined) ∷ rows)
          ((λ i. x.are_cut.are i ++ rows_behind step (turning a o b p) (none i))
          ∙ ap (λ none. flat_map (group_rows (cut_by step) x.are_cut.parts) x.are_cut.groups ++ (turn_rows step (turning a o b p) ++ none)) (no_restarts step)
          ∙ ap (λ turns. flat_map (group_rows (cut_by step) x.are_cut.parts) x.are_cut.groups ++ turns) (append-nil (turn_rows step (turning a o b p))));
      of_failure = y.are ∙ (λ i. event_row (One failure) (moved_roots a o b p) (moved_ports a o b p) (runs_of (sym same_cut i)) ∷ sym same_rows i);
      both_cut = x.cuts ∙ ap has_any same_cut ∙ sym y.some;
    }
