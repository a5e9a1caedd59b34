-- The rows of pairs of failures: there is one list of them, and one only.
use Rattle.std.proofs.Common.{◌≡◌, ℕ, Bool, true, List, [], ◌∷◌, ◌++◌, refl, sym, ap, subst, ◌∙◌}
use Rattle.std.specs.Cmp.{IsEquivalence}
use Rattle.std.specs.List.{AllZip, count_by, filter_map, flat_map}
use Rattle.mst_graph.specs.Groups.{AreGroups}
use Rattle.mst_graph.specs.Islands.{Island}
use Rattle.mst_net.specs.tables.Tables.{Net, IsNetwork}
use Rattle.mst_vlan.specs.forest.Outcome.{Outcome, IsOutcome}
use Rattle.mst_vlan.specs.Reach.{AreIslandsOf}
use Rattle.mst_vlan.proofs.classes_lemmas.VidPlaces.{OneGrouping}
use Rattle.mst_view.specs.View.{bridge_names}
use Rattle.mst_graph.specs.Lists.{has_any}
use Rattle.mst_vlan.proofs.OneList.{OneList}
use Rattle.mst_sweep.specs.Parts.{all_parts}
use Rattle.mst_rows.specs.Rows.{Row}
use Rattle.mst_sweep.specs.declared.cuts.CutBy.{CutBy}
use Rattle.mst_sweep.specs.declared.cuts.CutBy.TheVariants.{Both}
use Rattle.mst_sweep.specs.Failures.{failed}
use Rattle.mst_sweep.specs.Pairs.{Pair, PairIslands, Outcomes, ArePairIslands, ArePairParts, ArePairRows, IsPairTold, IsPairsOf, last_of_pairs, pair_rows, stays_with_both}
use Rattle.mst_sweep.specs.SweepText.{Told}
use Rattle.mst_sweep.proofs.CutsBy.{one_list, one_cut, cut_vids, cut_rows, some_cuts}
use Rattle.mst_sweep.proofs.OneSweep.{zip_same}
use Rattle.mst_sweep.proofs.PairParts.{one_pair_parts}
use Rattle.mst_sweep.proofs.Together.{failed_network}

module _ (one : OneList) (grouping : OneGrouping) (single : (net : Net) (o p : Outcome) → IsNetwork net → IsOutcome net o → IsOutcome net p → o ≡ p) (net : Net) (o : Outcome) (is : IsNetwork net) where
  pair_same : (pair : Pair) (t u : Told) → IsPairTold net o pair t → IsPairTold net o pair u → t ≡ u
  pair_same pair t u x y =
      let none : y.outcomes.none ≡ x.outcomes.none = y.none ∙ sym x.none in
      let first : y.outcomes.first ≡ x.outcomes.first = single (failed (pair.first ∷ []) net) y.outcomes.first x.outcomes.first (failed_network (pair.first ∷ []) net is) y.are_outcomes.first x.are_outcomes.first in
      let second : y.outcomes.second ≡ x.outcomes.second = single (failed (pair.second ∷ []) net) y.outcomes.second x.outcomes.second (failed_network (pair.second ∷ []) net is) y.are_outcomes.second x.are_outcomes.second in
      let both : y.outcomes.both ≡ x.outcomes.both =
      single (failed (pair.first ∷ pair.second ∷ []) net) y.outcomes.both x.outcomes.both (failed_network (pair.first ∷ pair.second ∷ []) net is) y.are_outcomes.both x.are_outcomes.both in
      let same : y.outcomes ≡ x.outcomes = λ i. record { none = none i; first = first i; second = second i; both = both i } in
      let r : ArePairRows net pair x.outcomes t.rows t.cuts = x.is in
      let s : ArePairRows net pair x.outcomes u.rows u.cuts = subst (λ of. ArePairRows net pair of u.rows u.cuts) same y.is in
      let by : CutBy = Both pair.first pair.second in
      let vids : r.vids ≡ s.vids = one_cut (ArePairParts net pair x.outcomes) (one_pair_parts net pair x.outcomes one) grouping by r.vids s.vids r.cut s.cut r.are_cuts s.are_cuts in
      let cut : r.cut ≡ s.cut = one_list (ArePairParts net pair x.outcomes) (one_pair_parts net pair x.outcomes one) grouping by r.vids s.vids r.cut s.cut r.are_cuts s.are_cuts in
      let rows : t.rows ≡ u.rows = r.are ∙ (λ i. pair_rows pair (vids i) (cut i)) ∙ sym s.are in
      let cuts : t.cuts ≡ u.cuts = r.some ∙ ap has_any vids ∙ sym s.some in
      λ i. record { rows = rows i; cuts = cuts i }

  pub all_pairs_told : (all : List Pair) (told others : List Told) → AllZip (IsPairTold net o) all told → AllZip (IsPairTold net o) all others → told ≡ others
  all_pairs_told all told others x y = zip_same (IsPairTold net o) (IsPairTold net o) all told others (λ pair h. pair_same pair) x y

-- ---- and there is one
module _ (islands : (net : Net) (o : Outcome) (vid : ℕ) → IsNetwork net → (islands : List (Island (List ℕ) (List ℕ))) × AreIslandsOf net o vid islands)
    (grouping : (same : ℕ → ℕ → Bool) (things : List ℕ) → IsEquivalence same → (groups : List (List ℕ)) × AreGroups (λ x y. same x y ≡ true) things groups)
    (outcomes : (net : Net) → IsNetwork net → (o : Outcome) × IsOutcome net o) (net : Net) (is : IsNetwork net) where
  module _ (pair : Pair) (of : Outcomes) where
    of_vid : (vid : ℕ) → (i : PairIslands) × ArePairIslands net pair of vid i
    of_vid vid =
        let none = islands net of.none vid is in
        let first = islands (failed (pair.first ∷ []) net) of.first vid (failed_network (pair.first ∷ []) net is) in
        let second = islands (failed (pair.second ∷ []) net) of.second vid (failed_network (pair.second ∷ []) net is) in
        let both = islands (failed (pair.first ∷ pair.second ∷ []) net) of.both vid (failed_network (pair.first ∷ pair.second ∷ []) net is) in
        (record { none = none.0; first = first.0; second = second.0; both = both.0 }, record { none = none.1; first = first.1; second = second.1; both = both.1 })

    pair_parts_there : (vid : ℕ) → (parts : List (List (List ℕ))) × ArePairParts net pair of vid parts
    pair_parts_there vid =
        let i = of_vid vid in
        (all_parts (filter_map (stays_with_both i.0 (bridge_names net)) (bridge_names net)), record { islands = i.0; are_islands = i.1; are = refl })

    pair_rows_there : (cuts : Bool) × (rows : List Row) × ArePairRows net pair of rows cuts
    pair_rows_there =
        let R : ℕ → List (List (List ℕ)) → Type 0 = ArePairParts net pair of in
        let by : CutBy = Both pair.first pair.second in
        let vids = cut_vids R by (λ vid. (pair_parts_there vid).0) (λ vid _. (pair_parts_there vid).1) grouping in
        let cut = cut_rows R by (λ vid. (pair_parts_there vid).0) (λ vid _. (pair_parts_there vid).1) grouping in (
          has_any vids,
          pair_rows pair vids cut,
          record { vids = vids; cut = cut; are_cuts = some_cuts R by (λ vid. (pair_parts_there vid).0) (λ vid _. (pair_parts_there vid).1) grouping; some = refl; are = refl },
        )

  abbrev pub none : Outcome
  none = (outcomes net is).0

  pair_there : (pair : Pair) → (told : Told) × IsPairTold net none pair told
  pair_there pair =
      let first = outcomes (failed (pair.first ∷ []) net) (failed_network (pair.first ∷ []) net is) in
      let second = outcomes (failed (pair.second ∷ []) net) (failed_network (pair.second ∷ []) net is) in
      let both = outcomes (failed (pair.first ∷ pair.second ∷ []) net) (failed_network (pair.first ∷ pair.second ∷ []) net is) in
      let of : Outcomes = record { none = none; first = first.0; second = second.0; both = both.0 } in
      let t = pair_rows_there pair of in (
        record { rows = t.1; cuts = t.0 },
        record { outcomes = of; none = refl; are_outcomes = record { none = (outcomes net is).1; first = first.1; second = second.1; both = both.1 }; is = t.2 },
      )

  pairs_told : (all : List Pair) → (told : List Told) × AllZip (IsPairTold net none) all told
  pairs_told [] = ([], tt)
  pairs_told (pair ∷ pairs) = let first = pair_there pair in let others = pairs_told pairs in (first.0 ∷ others.0, (first.1, others.1))

  pub pairs_there : (all : List Pair) → (cuts : ℕ) × (rows : List Row) × IsPairsOf net none all rows cuts
  pairs_there all =
      let told = pairs_told all in
      let cuts : ℕ = count_by (λ (t : Told). t.cuts) told.0 in
      (cuts, flat_map (λ (t : Told). t.rows) told.0 ++ last_of_pairs all cuts ∷ [], record { told = told.0; each = told.1; counted = refl; is = refl })
