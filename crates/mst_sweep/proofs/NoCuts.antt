-- Where no VID has parts, none is cut and there are no rows.
use Rattle.std.proofs.Common.{Vec, Global, ◌≡◌, ℕ, zero, suc, Bool, true, false, cond, List, [], ◌∷◌, ◌++◌, map, get_or, refl, ap, subst, ◌∙◌}
use Rattle.std.specs.Prelude.{if◌then◌else◌}
use Rattle.std.specs.Cmp.{IsEquivalence}
use Rattle.std.specs.List.{filter, flat_map, list_any}
use Rattle.std.proofs.lemmas.Bool.{or_parts}
use Rattle.mst_ids.specs.Vids.{is_vid}
use Rattle.mst_graph.specs.Groups.{AreGroups}
use Rattle.mst_vlan.specs.classes.AllVids.{all_vids}
use Rattle.mst_graph.specs.Lists.{has_any}
use Rattle.mst_sweep.specs.declared.cuts.CutBy.{CutBy}
use Rattle.mst_sweep.specs.Cuts.{cut_row, group_rows, names_of, runs_of, AreCutsBy}
use Rattle.mst_sweep.proofs.CutsBy.{cut_rows, groups, some_cuts}

-- ---- lists
none_left : (test : ℕ → Bool) (xs : List ℕ) → ((x : ℕ) → test x ≡ false) → filter test xs ≡ []
none_left test [] h = refl
none_left test (x ∷ xs) h = ap (λ b. cond b (x ∷ filter test xs) (filter test xs)) (h x) ∙ none_left test xs h

-- the parts at a place of a list where none has any
pub none_at : (each : List (Vec (Vec (List ℕ) Global) Global)) → list_any (λ (t : Vec (Vec (List ℕ) Global) Global). has_any (names_of t)) each ≡ false → (k : ℕ) → has_any (get_or (map names_of each) k []) ≡ false
none_at [] e k = refl
none_at (t ∷ ts) e zero = (or_parts (has_any (names_of t)) (list_any (λ (t : Vec (Vec (List ℕ) Global) Global). has_any (names_of t)) ts) e).0
none_at (t ∷ ts) e (suc k) = none_at ts (or_parts (has_any (names_of t)) (list_any (λ (t : Vec (Vec (List ℕ) Global) Global). has_any (names_of t)) ts) e).1 k

-- ---- parts
module _ (by : CutBy) (parts : ℕ → List (List (List ℕ))) (none : (vid : ℕ) → has_any (parts vid) ≡ false) where
  no_row : (group : List ℕ) → group_rows by parts group ≡ []
  no_row [] = refl
  no_row (vid ∷ others) = λ i. if none vid i then cut_row by (runs_of (vid ∷ others)) (parts vid) ∷ [] else []

  no_rows : (groups : List (List ℕ)) → flat_map (group_rows by parts) groups ≡ []
  no_rows [] = refl
  no_rows (group ∷ groups) = λ i. no_row group i ++ no_rows groups i

  pub no_cuts : (R : ℕ → List (List (List ℕ)) → Type 0) → ((same : ℕ → ℕ → Bool) (things : List ℕ) → IsEquivalence same → (groups : List (List ℕ)) × AreGroups (λ x y. same x y ≡ true) things groups)
      → ((vid : ℕ) → is_vid vid ≡ true → R vid (parts vid)) → AreCutsBy R by [] []
  no_cuts R grouping are =
      let rows = cut_rows R by parts are grouping in
      subst (AreCutsBy R by []) (no_rows (groups R by parts are grouping))
      (subst (λ vids. AreCutsBy R by vids rows) (none_left (λ vid. has_any (parts vid)) all_vids none) (some_cuts R by parts are grouping))
