-- The rows of each event, and of all failures of a network: there is one list of them, and one only.
use Rattle.std.proofs.Common.{◌≡◌, ℕ, ◌++◌, ◌∷◌, [], Bool, true, List, refl, sym, ap, subst, ◌∙◌}
use Rattle.std.specs.Cmp.{IsEquivalence}
use Rattle.std.specs.List.{AllZip, Contains, flat_map, count_by}
use Rattle.mst_graph.specs.Groups.{AreGroups}
use Rattle.mst_graph.specs.Islands.{Island}
use Rattle.mst_graph.proofs.Members.{here, there}
use Rattle.mst_net.specs.tables.Tables.{Net, IsNetwork}
use Rattle.mst_vlan.specs.forest.Outcome.{Outcome, IsOutcome}
use Rattle.mst_vlan.specs.Reach.{AreIslandsOf}
use Rattle.mst_vlan.proofs.classes_lemmas.VidPlaces.{OneGrouping}
use Rattle.mst_view.specs.View.{bridge_names}
use Rattle.mst_graph.specs.Lists.{has_any}
use Rattle.mst_vlan.proofs.OneList.{OneList}
use Rattle.mst_sweep.specs.declared.event.Cause.{Cause}
use Rattle.mst_sweep.specs.declared.failure.Failure.{Failure}
use Rattle.mst_sweep.specs.Failures.{Event, alone, failed}
use Rattle.mst_sweep.specs.Moved.{moved_roots, moved_ports}
use Rattle.mst_sweep.specs.Parts.{staying, all_parts, AreParts}
use Rattle.mst_rows.specs.Rows.{Row}
use Rattle.mst_sweep.specs.declared.cuts.CutBy.TheVariants.{One}
use Rattle.mst_sweep.specs.Cuts.{runs_of}
use Rattle.mst_sweep.proofs.CutsBy.{one_list, one_cut, cut_vids, cut_rows, some_cuts}
use Rattle.mst_sweep.proofs.Together.{failed_network}
use Rattle.mst_sweep.specs.SweepText.{event_row, AreEventRows, Told, IsTold, AreRowsOf, sweep_row, IsSweepOf}

-- ---- one event
module _ (a b : Net) (o p : Outcome) (one : OneList) where
  pub one_parts : (vid : ℕ) (parts other : List (List (List ℕ))) → AreParts a o b p vid parts → AreParts a o b p vid other → parts ≡ other
  one_parts vid parts other s t =
      let olds = one a o vid s.0 t.0 s.2 t.2 in
      let news = one b p vid s.1 t.1 s.3 t.3 in
      s.4 ∙ (λ i. all_parts (staying (olds i) (news i) (bridge_names a))) ∙ sym t.4

module _ (a b : Net) (o p : Outcome) (one : OneList) (grouping : OneGrouping) where
  module _ (cause : Cause) (rows other : List Row) (c d : Bool) (x : AreEventRows a o b p cause rows c) (y : AreEventRows a o b p cause other d) where
    abbrev cut : x.vids ≡ y.vids
    cut = one_cut (AreParts a o b p) (one_parts a b o p one) grouping (One cause) x.vids y.vids x.cut y.cut x.are_cuts y.are_cuts

    pub one_event : rows ≡ other
    one_event =
        x.are ∙ (λ i. event_row cause (moved_roots a o b p) (moved_ports a o b p) (runs_of (cut i)) ∷ one_list (AreParts a o b p) (one_parts a b o p one) grouping (One cause) x.vids y.vids x.cut y.cut x.are_cuts y.are_cuts i) ∙ sym y.are

    pub cuts_alike : c ≡ d
    cuts_alike = x.some ∙ ap has_any cut ∙ sym y.some

-- and there is one
module _ (a b : Net) (o p : Outcome) (olds : (vid : ℕ) → (islands : List (Island (List ℕ) (List ℕ))) × AreIslandsOf a o vid islands) (news : (vid : ℕ) → (islands : List (Island (List ℕ) (List ℕ))) × AreIslandsOf b p vid islands)
    (grouping : (same : ℕ → ℕ → Bool) (things : List ℕ) → IsEquivalence same → (groups : List (List ℕ)) × AreGroups (λ x y. same x y ≡ true) things groups) (cause : Cause) where
  abbrev parts : ℕ → List (List (List ℕ))
  parts vid = all_parts (staying (olds vid).0 (news vid).0 (bridge_names a))

  are_parts : (vid : ℕ) → AreParts a o b p vid (parts vid)
  are_parts vid = ((olds vid).0, (news vid).0, (olds vid).1, (news vid).1, refl)

  abbrev vids : List ℕ
  vids = cut_vids (AreParts a o b p) (One cause) parts (λ vid _. are_parts vid) grouping

  abbrev rows : List Row
  rows = event_row cause (moved_roots a o b p) (moved_ports a o b p) (runs_of vids) ∷ cut_rows (AreParts a o b p) (One cause) parts (λ vid _. are_parts vid) grouping

  are_rows : AreEventRows a o b p cause rows (has_any vids)
  are_rows = record {
    vids = vids;
    cut = cut_rows (AreParts a o b p) (One cause) parts (λ vid _. are_parts vid) grouping;
    are_cuts = some_cuts (AreParts a o b p) (One cause) parts (λ vid _. are_parts vid) grouping;
    some = refl;
    are = refl;
  }

  pub has_event : (c : Bool) × (rows : List Row) × AreEventRows a o b p cause rows c
  has_event = (has_any vids, rows, are_rows)

-- ---- all failures
-- two lists of what is told of things, each of which tells one only
pub zip_same : {A B : Type 0} (R S : A → B → Type 0) (xs : List A) (ys zs : List B) → ((x : A) → Contains xs x → (y z : B) → R x y → S x z → y ≡ z) → AllZip R xs ys → AllZip S xs zs → ys ≡ zs
zip_same R S [] [] [] one h k = refl
zip_same R S [] (y ∷ ys) zs one h k = absurd h
zip_same R S [] [] (z ∷ zs) one h k = absurd k
zip_same R S (x ∷ xs) [] zs one h k = absurd h
zip_same R S (x ∷ xs) (y ∷ ys) [] one h k = absurd k
zip_same R S (x ∷ xs) (y ∷ ys) (z ∷ zs) one h k =
    let first = one x (here x xs) y z h.0 k.0 in
    let others = zip_same R S xs ys zs (λ w c. one w (there x w xs c)) h.1 k.1 in
    λ i. first i ∷ others i

-- so the rows of things are one list, where of each one only is told
module _ {A : Type 0} (Tells : A → Told → Type 0) (last : List A → ℕ → Row) (all : List A) (one : (told others : List Told) → AllZip Tells all told → AllZip Tells all others → told ≡ others)
    (rows other : List Row) (c d : ℕ) (x : AreRowsOf Tells last all rows c) (y : AreRowsOf Tells last all other d) where
  all_same : x.told ≡ y.told
  all_same = one x.told y.told x.each y.each

  pub one_count : c ≡ d
  one_count = x.counted ∙ ap (count_by (λ (t : Told). t.cuts)) all_same ∙ sym y.counted

  pub one_rows : rows ≡ other
  one_rows = x.is ∙ (λ i. flat_map (λ (t : Told). t.rows) (all_same i) ++ last all (one_count i) ∷ []) ∙ sym y.is

module _ (one : OneList) (grouping : OneGrouping) (single : (net : Net) (o p : Outcome) → IsNetwork net → IsOutcome net o → IsOutcome net p → o ≡ p) (net : Net) (o : Outcome) (is : IsNetwork net) where
  pub told_same : (event : Event) (t u : Told) → IsTold net o event t → IsTold net o event u → t ≡ u
  told_same event t u x y =
      let b = failed event.failures net in
      let outcome : y.outcome ≡ x.outcome = single b y.outcome x.outcome (failed_network event.failures net is) y.is_outcome x.is_outcome in
      let other : AreEventRows net o b x.outcome event.cause u.rows u.cuts = subst (λ p. AreEventRows net o b p event.cause u.rows u.cuts) outcome y.is in
      λ i. record {
        rows = one_event net b o x.outcome one grouping event.cause t.rows u.rows t.cuts u.cuts x.is other i;
        cuts = cuts_alike net b o x.outcome one grouping event.cause t.rows u.rows t.cuts u.cuts x.is other i;
      }

  -- of some risks
  pub all_risks_told : (risks : List Event) (told others : List Told) → AllZip (IsTold net o) risks told → AllZip (IsTold net o) risks others → told ≡ others
  all_risks_told risks told others x y = zip_same (IsTold net o) (IsTold net o) risks told others (λ event h. told_same event) x y

  -- of some failures, each alone
  abbrev TellsAlone : Failure → Told → Type 0
  TellsAlone failure told = IsTold net o (alone failure) told

  module _ (fs : List Failure) where
    pub all_told : (told others : List Told) → AllZip TellsAlone fs told → AllZip TellsAlone fs others → told ≡ others
    all_told told others x y = zip_same TellsAlone TellsAlone fs told others (λ f h. told_same (alone f)) x y

    module _ (rows other : List Row) (c d : ℕ) (x : IsSweepOf net o fs rows c) (y : IsSweepOf net o fs other d) where
      pub count_same : c ≡ d
      count_same = one_count TellsAlone sweep_row fs all_told rows other c d x y

      pub one_sweep : rows ≡ other
      one_sweep = one_rows TellsAlone sweep_row fs all_told rows other c d x y
