-- The VIDs that a step cuts or joins move.
use Rattle.std.proofs.Common.{◌≡◌, ◌||◌, ℕ, Bool, true, false, List, [], ◌∷◌, refl, sym, ap, subst, ◌∙◌, true≢false}
use Rattle.std.specs.List.{Contains}
use Rattle.mst_ids.specs.Vids.{is_vid}
use Rattle.mst_graph.proofs.Members.{from_filter, here, in_filter, in_none}
use Rattle.mst_net.specs.tables.Tables.{Net}
use Rattle.mst_rows.specs.Rows.{Row}
use Rattle.mst_plan.specs.forest.Outcome.{Outcome}
use Rattle.mst_policy.specs.Leaving.{Leaving}
use Rattle.mst_sweep.specs.vlan.classes.AllVids.{all_vids}
use Rattle.mst_graph.specs.Lists.{has_any}
use Rattle.mst_sweep.proofs.vlan_lemmas.classes_lemmas.VidPlaces.{is_vid_there}
use Rattle.mst_sweep.proofs.vlan_lemmas.OneList.{OneList}
use Rattle.mst_sweeping.specs.declared.step.Deed.{Deed}
use Rattle.mst_sweeping.specs.declared.step.Stepped.{Stepped}
use Rattle.mst_sweeping.specs.MovedVids.{links_differ}
use Rattle.mst_sweeping.specs.StepText.{AreStepRows}
use Rattle.mst_sweeping.proofs.Remaining.{cut_at_all}

by_first : (c j d : Bool) → c ≡ true → (c || j || d) ≡ true
by_first c j d e = ap (λ c. c || j || d) e

by_second : (c j d : Bool) → j ≡ true → (c || j || d) ≡ true
by_second true j d e = refl
by_second false j d e = ap (λ j. j || d) e

-- some are there where one is
some_there : (xs : List ℕ) (x : ℕ) → Contains xs x → has_any xs ≡ true
some_there [] x h = absurd (in_none x h)
some_there (y ∷ ys) x h = refl

first_there : (xs : List ℕ) → has_any xs ≡ true → (x : ℕ) × Contains xs x
first_there [] e = absurd (true≢false (sym e))
first_there (x ∷ xs) e = (x, here x xs)

module _ (leaving : Leaving) (a b : Net) (o p : Outcome) (one : OneList) (step : Deed) (rows : List Row) (told : Stepped) (x : AreStepRows leaving a o b p step rows told) where
  flagged_moves : (vid : ℕ) → Contains all_vids vid → x.are_moved.flags vid ≡ true → Contains x.moved vid
  flagged_moves vid h e = subst (λ vids. Contains vids vid) (sym x.are_moved.are) (in_filter x.are_moved.flags all_vids vid h e)

  pub cut_moves : (vid : ℕ) → Contains x.cut vid → Contains x.moved vid
  cut_moves vid h =
      let own = from_filter (λ vid. has_any (x.are_cut.parts vid)) all_vids vid (subst (λ vids. Contains vids vid) x.are_cut.cut h) in
      let v : is_vid vid ≡ true = is_vid_there vid own.0 in
      let m = x.are_moved.each vid v in
      let cut : m.0 ≡ true = m.2.2 ∙ cut_at_all leaving a b o p vid (x.are_cut.parts vid) one m.2.0 (x.are_cut.are_parts vid v) m.2.1 own.1 in
      flagged_moves vid own.0 (m.4 ∙ by_first m.0 m.1 (links_differ a o b p vid) cut)

  pub joined_moves : (vid : ℕ) → Contains x.joined vid → Contains x.moved vid
  joined_moves vid h =
      let own = from_filter x.are_joined.flags all_vids vid (subst (λ vids. Contains vids vid) x.are_joined.are h) in
      let v : is_vid vid ≡ true = is_vid_there vid own.0 in
      let m = x.are_moved.each vid v in
      let j = x.are_joined.each vid v in
      let joined : m.1 ≡ true = m.3.2 ∙ cut_at_all leaving b a p o vid j.0 one m.3.0 j.1 m.3.1 (sym j.2 ∙ own.1) in
      flagged_moves vid own.0 (m.4 ∙ by_second m.0 m.1 (links_differ a o b p vid) joined)

  pub told_moves : told.cuts ≡ true → told.moves ≡ true
  told_moves e =
      let first = first_there x.cut (sym x.cuts ∙ e) in
      x.moves ∙ some_there x.moved first.0 (cut_moves first.0 first.1)
