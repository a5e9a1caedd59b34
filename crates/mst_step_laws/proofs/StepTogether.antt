-- Why all bridges don't stay together behind a step is what the step cuts.
use Rattle.std.proofs.Common.{◌≡◌, ℕ, cond, not, Bool, true, false, List, [], ◌∷◌, ◌++◌, refl, sym, ap, subst, ◌∙◌}
use Rattle.std.specs.Prelude.{if◌then◌else◌}
use Rattle.std.specs.List.{Contains, filter, flat_map}
use Rattle.mst_ids.specs.Vids.{has, set_where}
use Rattle.mst_graph.specs.Groups.{AreGroups}
use Rattle.mst_graph.proofs.Members.{here, there}
use Rattle.mst_view.specs.Trees.{is_among}
use Rattle.mst_net.specs.tables.Tables.{Net}
use Rattle.mst_policy.specs.Leaving.{Leaving, leaves}
use Rattle.mst_policy.specs.declared.item.NameItem.TheVariants.{Any}
use Rattle.mst_rows.specs.Rows.{Row}
use Rattle.mst_forest.specs.Outcome.{Outcome}
use Rattle.mst_view.specs.View.{bridge_names}
use Rattle.mst_diff.specs.vlan.classes.AllVids.{all_vids}
use Rattle.mst_graph.specs.Lists.{has_any}
use Rattle.mst_forest.proofs.Pieces.{flat_map-flat_map}
use Rattle.mst_diff.proofs.vlan_lemmas.classes_lemmas.VidPlaces.{is_vid_there}
use Rattle.mst_verdict.specs.sweep.Cuts.{AreCutsBy, cut_row, group_rows, runs_of}
use Rattle.mst_verdict.specs.sweep.Parts.{ArePartsOf}
use Rattle.mst_verdict.specs.sweeping.MovedVids.{ArePartsBut, remaining as remaining_in}
use Rattle.mst_verdict.specs.sweep.declared.cuts.CutBy.TheVariants.{Step}
use Rattle.mst_verdict.specs.reasons.Named.{is_named, named, remaining, vids_in}
use Rattle.mst_verdict.specs.reasons.Reasons.{AreReasons, HasOneList, group_reasons, together_reason}
use Rattle.mst_verdict.specs.reasons.declared.reason.Reason.{Reason}
use Rattle.mst_verdict.specs.reasons.declared.reason.Reason.TheVariants as why
use Rattle.mst_step_laws.specs.Together.{AreAllVids, as_cut, prior_but, together_all}

-- ---- lists
all_pass : {A : Type 0} (test : A → Bool) (xs : List A) → ((x : A) → Contains xs x → test x ≡ true) → filter test xs ≡ xs
all_pass test [] h = refl
all_pass test (x ∷ xs) h = ap (λ b. cond b (x ∷ filter test xs) (filter test xs)) (h x (here x xs)) ∙ ap (λ ys. x ∷ ys) (all_pass test xs (λ y k. h y (there x y xs k)))

each_same : {A B : Type 0} (f g : A → List B) → ((x : A) → f x ≡ g x) → (xs : List A) → flat_map f xs ≡ flat_map g xs
each_same f g same [] = refl
each_same f g same (x ∷ xs) = λ i. same x i ++ each_same f g same xs i

module _ (leaving : Leaving) (a b : Net) (o p : Outcome) (step : ℕ) (vids : List Bool) (every : AreAllVids vids) (cut : List ℕ) (rows : List Row)
    (cuts : AreCutsBy (ArePartsBut leaving a o b p) (Step step) cut rows) where
  all_are : vids_in vids ≡ all_vids
  all_are = all_pass (has vids) all_vids every

  names_are : named a [] (Any ∷ []) ≡ bridge_names a
  names_are = all_pass (is_named [] (Any ∷ [])) (bridge_names a) (λ name there. refl)

  remaining_are : (vid : ℕ) → remaining leaving vid a [] (Any ∷ []) ≡ remaining_in leaving vid a
  remaining_are vid = ap (filter (λ bridge. not (leaves leaving vid bridge))) names_are

  one_row : (group : List ℕ) → flat_map (as_cut step) (group_reasons together_reason cuts.parts group) ≡ group_rows (Step step) cuts.parts group
  one_row [] = refl
  one_row (vid ∷ others) = go (has_any (cuts.parts vid))
    where
      go : (b : Bool) → flat_map (as_cut step) (if b then why.Together (set_where (is_among (vid ∷ others))) (cuts.parts vid) ∷ [] else [])
          ≡ (if b then cut_row (Step step) (runs_of (vid ∷ others)) (cuts.parts vid) ∷ [] else [])
      go true = refl
      go false = refl

  abbrev own : List Reason
  own = flat_map (group_reasons together_reason cuts.parts) cuts.groups

  are_own : AreReasons b p b [] (prior_but leaving a o) (together_all vids) own
  are_own = record {
    value = cuts.parts;
    has = λ vid h. subst (λ names. ArePartsOf names a o b p vid (cuts.parts vid)) (sym (remaining_are vid)) (cuts.are_parts vid (is_vid_there vid (subst (λ vs. Contains vs vid) all_are h)));
    groups = cuts.groups;
    are_groups = subst (λ vs. AreGroups (λ x y. cuts.parts x ≡ cuts.parts y) vs cuts.groups) (sym all_are) cuts.are_groups;
    are = refl;
  }

  pub together_cut : (reasons : List Reason) → AreReasons b p b [] (prior_but leaving a o) (together_all vids) reasons → HasOneList b p b [] (prior_but leaving a o) (together_all vids) → flat_map (as_cut step) reasons ≡ rows
  together_cut reasons r one =
      ap (flat_map (as_cut step)) (one reasons own r are_own)
      ∙ flat_map-flat_map (as_cut step) (group_reasons together_reason cuts.parts) cuts.groups
      ∙ each_same (λ group. flat_map (as_cut step) (group_reasons together_reason cuts.parts group)) (group_rows (Step step) cuts.parts) one_row cuts.groups
      ∙ sym cuts.are
