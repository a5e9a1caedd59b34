-- Settings by tree: where neither network has one nothing is set.
use Rattle.std.proofs.Common.{◌≡◌, ℕ, Bool, true, false, ◌||◌, List, [], not, Option, Some, None, is_some, refl, sym, ap, ◌∙◌, true≢false}
use Rattle.std.specs.Prelude.{◌==◌, if◌then◌else◌}
use Rattle.std.specs.List.{flat_map, range_with_len}
use Rattle.std.proofs.lemmas.Bool.{eqb-true, eq-eqb}
use Rattle.mst_lang.specs.declared.line.Edit.{Edit}
use Rattle.mst_net.specs.tables.TreesSet.{trees_where}
use Rattle.mst_edits.specs.Edits.{when, in_trees, is_same_cost}
use Rattle.mst_edits.proofs.Listing.{only_passing}
use Rattle.mst_edits.proofs.LinesMade.{flat_none}

-- the edits of the trees that pass a test are all, where the others have none
pub listed_are : (test : ℕ → Bool) (f : ℕ → List Edit) → ((t : ℕ) → test t ≡ false → f t ≡ []) → flat_map f (trees_where test) ≡ in_trees f
unfolding trees_where in_trees
listed_are test f none = only_passing test f none (range_with_len 0 4095)

either_false : (a b : Bool) → (a || b) ≡ false → (a ≡ false) × (b ≡ false)
either_false true b e = absurd (true≢false e)
either_false false b e = (refl, e)

not_false : (a : Bool) → not a ≡ false → a ≡ true
not_false true e = refl
not_false false e = absurd (true≢false e)

same_as_before : (old new : ℕ) (stays : Bool) → old ≡ 8 → new ≡ 8 → (new == (if stays then old else 8)) ≡ true
same_as_before old new true e f = eq-eqb new old (f ∙ sym e)
same_as_before old new false e f = eq-eqb new 8 f

pub same_priority : (old new : ℕ) (stays : Bool) (e : Edit) → (not (old == 8) || not (new == 8)) ≡ false → when (not (new == (if stays then old else 8))) e ≡ []
same_priority old new stays e quiet =
    let both = either_false (not (old == 8)) (not (new == 8)) quiet in
    ap (λ b. when (not b) e) (same_as_before old new stays (eqb-true old 8 (not_false (old == 8) both.0)) (eqb-true new 8 (not_false (new == 8) both.1)))

pub same_cost : (old new : Option ℕ) (stays : Bool) (e : Edit) → (is_some old || is_some new) ≡ false → when (not (is_same_cost new (if stays then old else None))) e ≡ []
same_cost None None true e quiet = refl
same_cost None None false e quiet = refl
same_cost None (Some new) stays e quiet = absurd (true≢false quiet)
same_cost (Some old) new stays e quiet = absurd (true≢false quiet)

-- where no tree has an edit there is none
pub none_in_trees : (f : ℕ → List Edit) → ((t : ℕ) → f t ≡ []) → in_trees f ≡ []
unfolding in_trees
none_in_trees f none = flat_none f none (range_with_len 0 4095)
