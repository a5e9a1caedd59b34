-- A network has one advice for a goal.
use Rattle.std.proofs.Common.{◌≡◌, ◌⊎◌, ⊎_elim, ℕ, List, [], ◌∷◌, ◌++◌, length, map, Result, Ok, Err, IsErr, refl, sym, ap, subst, ◌∙◌}
use Rattle.std.specs.List.{AllByRecursion}
use Rattle.mst_net.specs.tables.Tables.{Net, IsNetwork}
use Rattle.mst_rows.specs.Rows.{Row}
use Rattle.mst_roles.specs.forest.Outcome.{Outcome, IsOutcome}
use Rattle.mst_policy.specs.Leaving.{Leaving}
use Rattle.mst_sweeping.specs.StepText.{AreStepRows}
use Rattle.mst_sweeping.specs.declared.step.Deed.{Deed}
use Rattle.mst_sweeping.specs.declared.step.Deed.TheVariants as deed
use Rattle.mst_sweeping.specs.declared.step.Stepped.{Stepped}
use Rattle.mst_advise.specs.Candidates.{AreCandidates}
use Rattle.mst_advise.specs.Hindrances.{apart_from, hindrance_of}
use Rattle.mst_advise.specs.Made.{Has, Make, after_settings}
use Rattle.mst_advise.specs.Told.{because_row, count_row, none_row, setting_row}
use Rattle.mst_advise.specs.declared.goal.Goal.{Goal}
use Rattle.mst_advise.specs.declared.goal.Goal.TheVariants.{Root, Forward}
use Rattle.mst_advise.specs.declared.setting.Setting.{Setting}
use Rattle.mst_advise.specs.Advising.{AdvisesIn, AreApart, Bring, Fail, LeaveApart, Tells, TellsFirst, TellsNone, last_of}
use Rattle.mst_advise.specs.declared.advising.Advised.{Advised}
use Rattle.mst_advise.specs.declared.advising.Advised.TheVariants as advised

-- one network has one settled outcome, and a step of it one list of rows
abbrev pub OneOutcome : Type 0
OneOutcome = (net : Net) (o p : Outcome) → IsNetwork net → IsOutcome net o → IsOutcome net p → o ≡ p

abbrev pub OneStep : Type 0
OneStep =
    (a b : Net) (o p q r : Outcome) → IsNetwork a → IsNetwork b → IsOutcome a o → IsOutcome b p → IsOutcome a q → IsOutcome b r
    → (leaving : Leaving) (step : Deed) (rows other : List Row) (told said : Stepped) → AreStepRows leaving a o b p step rows told → AreStepRows leaving a q b r step other said → (rows ≡ other) × (told ≡ said)

-- a result isn't both
not_both : {A E : Type 0} (r : Result A E) (a : A) → r ≡ Ok a → IsErr r → ⊥
not_both (Ok b) a e err = absurd (cc)
not_both (Err f) a e err = absurd (cc)

-- what a result has is one
one_ok : {A E : Type 0} (r : Result A E) (a b : A) → r ≡ Ok a → r ≡ Ok b → a ≡ b
one_ok r a b e f = let same : Ok a ≡ Ok b = sym e ∙ f in cc

module _ (goal : Goal) (net : Net) (o : Outcome) (outcomes : OneOutcome) (steps : OneStep) (is : IsNetwork net) (settled : IsOutcome net o) where
  same_now : (settings : List Setting) (a b : Net) (p q : Outcome) → Make net settings a p → Make net settings b q → a ≡ b
  same_now settings a b p q x y = one_ok (after_settings net settings) a b x.is y.is

  same_outcome : (settings : List Setting) (a b : Net) (p q : Outcome) → Make net settings a p → Make net settings b q → p ≡ q
  same_outcome settings a b p q x y =
      let now = same_now settings a b p q x y in
      outcomes a p q x.is_network x.is_outcome (subst (λ n. IsOutcome n q) (sym now) y.is_outcome)

  -- settings that don't bring it about don't
  never_both : (settings : List Setting) (rows : List Row) → Fail goal net settings → Bring goal net o settings rows → ⊥
  never_both settings rows fails brings =
      ⊎_elim (λ err. not_both (after_settings net settings) brings.now brings.made.is err)
      (λ lack. lack.lacks
      (subst (λ p. Has goal lack.now p) (same_outcome settings brings.now lack.now brings.outcome lack.outcome brings.made lack.made)
      (subst (λ n. Has goal n brings.outcome) (same_now settings brings.now lack.now brings.outcome lack.outcome brings.made lack.made) brings.has)))
      fails

  same_told : (settings : List Setting) (rows other : List Row) → Bring goal net o settings rows → Bring goal net o settings other → rows ≡ other
  same_told settings rows other x y =
      let now = same_now settings x.now y.now x.outcome y.outcome x.made y.made in
      let outcome = same_outcome settings x.now y.now x.outcome y.outcome x.made y.made in
      let told : AreStepRows [] net o x.now x.outcome deed.Edits y.own y.does = subst (λ p. AreStepRows [] net o x.now p deed.Edits y.own y.does) (sym outcome) (subst (λ n. AreStepRows [] net o n y.outcome deed.Edits y.own y.does) (sym now) y.told) in
      let own : x.own ≡ y.own = (steps net x.now o x.outcome o x.outcome is x.made.is_network settled x.made.is_outcome settled x.made.is_outcome [] deed.Edits x.own y.own x.does y.does x.told told).0 in
      x.are ∙ ap (λ (rows : List Row). map setting_row settings ++ rows ++ count_row (length settings) ∷ []) own ∙ sym y.are

  -- the first of a list that brings it about
  one_first : (before other : List (List Setting)) (settings those : List Setting) (behind beyond : List (List Setting)) → before ++ settings ∷ behind ≡ other ++ those ∷ beyond
      → AllByRecursion (Fail goal net) before → AllByRecursion (Fail goal net) other → (rows said : List Row) → Bring goal net o settings rows → Bring goal net o those said → settings ≡ those
  one_first [] [] settings those behind beyond e f g rows said x y = cc
  one_first [] (c ∷ other) settings those behind beyond e f g rows said x y =
      let same : settings ≡ c = cc in absurd (never_both c rows g.0 (subst (λ s. Bring goal net o s rows) same x))
  one_first (c ∷ before) [] settings those behind beyond e f g rows said x y =
      let same : those ≡ c = cc in absurd (never_both c said f.0 (subst (λ s. Bring goal net o s said) same y))
  one_first (c ∷ before) (d ∷ other) settings those behind beyond e f g rows said x y =
      let rest : before ++ settings ∷ behind ≡ other ++ those ∷ beyond = cc in one_first before other settings those behind beyond rest f.1 g.1 rows said x y

  one_tells_first : (candidates : List (List Setting)) (m n : ℕ) (rows other : List Row) → TellsFirst goal net o candidates m rows → TellsFirst goal net o candidates n other → (m ≡ n) × (rows ≡ other)
  one_tells_first candidates m n rows other x y =
      let same : x.settings ≡ y.settings = one_first x.before y.before x.settings y.settings x.behind y.behind (sym x.among ∙ y.among) x.fail y.fail rows other x.brings y.brings in
      (x.counted ∙ ap length same ∙ sym y.counted, same_told y.settings rows other (subst (λ s. Bring goal net o s rows) same x.brings) y.brings)

  -- one that brings it about is none of some that all fail
  none_brings : (before : List (List Setting)) (settings : List Setting) (behind : List (List Setting)) (rows : List Row) → AllByRecursion (Fail goal net) (before ++ settings ∷ behind) → Bring goal net o settings rows → ⊥
  none_brings [] settings behind rows fails x = never_both settings rows fails.0 x
  none_brings (c ∷ before) settings behind rows fails x = none_brings before settings behind rows fails.1 x

  not_none : (candidates : List (List Setting)) (n : ℕ) (rows : List Row) → AllByRecursion (Fail goal net) candidates → TellsFirst goal net o candidates n rows → ⊥
  not_none candidates n rows fails x = none_brings x.before x.settings x.behind rows (subst (AllByRecursion (Fail goal net)) x.among fails) x.brings

  -- ---- why there is none
  -- a refused setting makes no network
  not_made : (settings : List Setting) (now : Net) (p : Outcome) → Make net settings now p → IsErr (after_settings net settings) → ⊥
  not_made settings now p made err = not_both (after_settings net settings) now made.is err

  same_left : (tree : ℕ) (b : List ℕ) (settings : List Setting) (a c : List (List ℕ)) → LeaveApart net tree b settings a → LeaveApart net tree b settings c → a ≡ c
  same_left tree b settings a c x y =
      x.are ∙ (λ i. apart_from (same_now settings x.now y.now x.outcome y.outcome x.made y.made i) (same_outcome settings x.now y.now x.outcome y.outcome x.made y.made i) tree b) ∙ sym y.are

  same_apart : (g : Goal) (settings : List Setting) (a c : List (List ℕ)) → AreApart g net settings a → AreApart g net settings c → a ≡ c
  same_apart (Root tree b) settings a c x y =
      ⊎_elim
      (λ none. ⊎_elim (λ other. none.1 ∙ sym other.1) (λ left. absurd (not_made settings left.now left.outcome left.made none.0)) y)
      (λ left. ⊎_elim (λ none. absurd (not_made settings left.now left.outcome left.made none.0)) (λ other. same_left tree b settings a c left other) y) x
  same_apart (Forward tree port) settings a c x y = x ∙ sym y

  one_none : (candidates : List (List Setting)) (rows other : List Row) → TellsNone goal net candidates rows → TellsNone goal net candidates other → rows ≡ other
  one_none candidates rows other x y =
      x.are ∙ ap (λ (apart : List (List ℕ)). because_row (hindrance_of net goal) apart (length candidates) ∷ none_row ∷ []) (same_apart goal (last_of candidates) x.apart y.apart x.are_apart y.are_apart) ∙ sym y.are

  one_in : (candidates : List (List Setting)) (a b : Advised) (rows other : List Row) → AdvisesIn goal net o candidates a rows → AdvisesIn goal net o candidates b other → (a ≡ b) × (rows ≡ other)
  one_in candidates advised.Already b rows other x y = absurd x
  one_in candidates (advised.Edits m) advised.Already rows other x y = absurd y
  one_in candidates advised.Nothing advised.Already rows other x y = absurd y
  one_in candidates (advised.Edits m) (advised.Edits n) rows other x y = let same = one_tells_first candidates m n rows other x y in (ap advised.Edits same.0, same.1)
  one_in candidates (advised.Edits m) advised.Nothing rows other x y = absurd (not_none candidates m rows y.fail x)
  one_in candidates advised.Nothing (advised.Edits n) rows other x y = absurd (not_none candidates n other x.fail y)
  one_in candidates advised.Nothing advised.Nothing rows other x y = (refl, one_none candidates rows other x y)

  by_lists : ((lists those : List (List Setting)) → AreCandidates net o goal lists → AreCandidates net o goal those → lists ≡ those)
      → (a b : Advised) (rows other : List Row) (lists those : List (List Setting)) → AreCandidates net o goal lists → AreCandidates net o goal those
      → AdvisesIn goal net o lists a rows → AdvisesIn goal net o those b other → (a ≡ b) × (rows ≡ other)
  by_lists single a b rows other lists those is are x y = one_in lists a b rows other x (subst (λ (l : List (List Setting)). AdvisesIn goal net o l b other) (sym (single lists those is are)) y)

  pub one_told : ((lists those : List (List Setting)) → AreCandidates net o goal lists → AreCandidates net o goal those → lists ≡ those)
      → (a b : Advised) (rows other : List Row) → Tells goal net o a rows → Tells goal net o b other → (a ≡ b) × (rows ≡ other)
  one_told single advised.Already advised.Already rows other x y = (refl, x.1 ∙ sym y.1)
  one_told single advised.Already (advised.Edits n) rows other x y = absurd (y.0 x.0)
  one_told single advised.Already advised.Nothing rows other x y = absurd (y.0 x.0)
  one_told single (advised.Edits m) advised.Already rows other x y = absurd (x.0 y.0)
  one_told single advised.Nothing advised.Already rows other x y = absurd (x.0 y.0)
  one_told single (advised.Edits m) (advised.Edits n) rows other x y = by_lists single (advised.Edits m) (advised.Edits n) rows other x.1 y.1 x.2 y.2 x.3 y.3
  one_told single (advised.Edits m) advised.Nothing rows other x y = by_lists single (advised.Edits m) advised.Nothing rows other x.1 y.1 x.2 y.2 x.3 y.3
  one_told single advised.Nothing (advised.Edits n) rows other x y = by_lists single advised.Nothing (advised.Edits n) rows other x.1 y.1 x.2 y.2 x.3 y.3
  one_told single advised.Nothing advised.Nothing rows other x y = by_lists single advised.Nothing advised.Nothing rows other x.1 y.1 x.2 y.2 x.3 y.3
