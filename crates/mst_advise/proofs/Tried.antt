-- What trying settings comes to.
use Rattle.std.proofs.Common.{◌≡◌, ℕ, ◌+◌, List, [], ◌∷◌, ◌++◌, ◌<◌, length, ◌≤◌, take, drop, get_or, fold, map, Result, Ok, Err, IsErr, refl, sym, ap, subst, ◌∙◌, append-nil, append_assoc}
use Rattle.std.specs.Prelude.{IfOk}
use Rattle.std.specs.List.{AllByRecursion}
use Rattle.std.specs.declared.alloc.AllocError.{AllocError}
use Rattle.std.proofs.lemmas.Result.{IfOk-weaker}
use Rattle.std.proofs.lemmas.List.{map-append, take_all, take_more, take-append-drop}
use Rattle.mst_net.specs.tables.After.{after}
use Rattle.mst_net.specs.tables.Contents.{Contents, SameContents, Tables}
use Rattle.mst_net.specs.tables.Tables.{Net}
use Rattle.mst_net.specs.tables.declared.refusal.Refusal.{Refusal}
use Rattle.mst_rows.specs.Rows.{Row}
use Rattle.mst_roles.specs.forest.Outcome.{Outcome, IsOutcome}
use Rattle.mst_advise.specs.declared.advising.Advised.{Advised}
use Rattle.mst_advise.specs.declared.advising.Advised.TheVariants as advised
use Rattle.mst_advise.specs.declared.goal.Goal.{Goal}
use Rattle.mst_sweeping.specs.plan.declared.plan.Plan.{Plan}
use Rattle.mst_advise.specs.declared.setting.Setting.{Setting}
use Rattle.mst_advise.specs.Advising.{Advises, AdvisesIn, Tells}
use Rattle.mst_advise.specs.Made.{Has, after_settings, then_set}
use Rattle.mst_advise.specs.Candidates.{AreCandidates}
use Rattle.mst_advise.specs.Settings.{alone, edit_of}
use Rattle.mst_sweeping.specs.plan.Plan.{IsPlan}
use Rattle.mst_sweeping.specs.Sweeping.{Puts}

-- what holds by the plan of contents that are as they were
pub by_plan : (old now : Contents) → SameContents old now → (p : Plan) (Q : Net → Outcome → Type 0) → ((is : IsPlan now.net now.numbers p) → Q now.net is.forest.outcome) → (is : IsPlan old.net old.numbers p) → Q old.net is.forest.outcome
by_plan old now same p Q h = subst (λ (t : Tables). (is : IsPlan t.net t.numbers p) → Q t.net is.forest.outcome) (λ i. record { net = same.net i; numbers = same.numbers i }) h

module _ {P : Type 0} (grew : P → P → List Row → Type 0) where
  -- nothing was put
  pub none_put : (p : P) → Puts grew p p []
  none_put p = λ first before h. subst (grew first p) (sym (append-nil before)) h

  pub put_then : (old now new : P) (rows more : List Row) → Puts grew old now rows → Puts grew now new more → Puts grew old new (rows ++ more)
  put_then old now new rows more x y = λ first before h. subst (grew first new) (append_assoc before rows more) (y first (before ++ rows) (x first before h))

-- contents that are as others were, which are as those before were
pub same_then : (a b c : Contents) → SameContents a b → SameContents b c → SameContents a c
same_then a b c x y = record { net = y.net ∙ x.net; numbers = y.numbers ∙ x.numbers; next = y.next ∙ x.next }

-- ---- settings, one after another
-- one that is refused stays so
err_stays : (settings : List Setting) (r : Result Net Refusal) → IsErr r → IsErr (fold then_set r settings)
err_stays [] r h = h
err_stays (x ∷ xs) (Err e) h = err_stays xs (Err e) h
err_stays (x ∷ xs) (Ok net) h = absurd (cc)

-- two lists of them
fold_both : (xs ys : List Setting) (r : Result Net Refusal) → fold then_set r (xs ++ ys) ≡ fold then_set (fold then_set r xs) ys
fold_both [] ys r = refl
fold_both (x ∷ xs) ys r = fold_both xs ys (then_set r x)

module _ (settings : List Setting) (i : ℕ) (x : Setting) (below : i < length settings) (is : x ≡ get_or settings i x) where
  taken : take (i + 1) settings ≡ take i settings ++ x ∷ []
  taken = take_more settings i x below ∙ ap (λ y. take i settings ++ y ∷ []) (sym is)

  -- those before one, it, and those behind it
  parted : settings ≡ take i settings ++ x ∷ drop (i + 1) settings
  parted = sym (take-append-drop (i + 1) settings) ∙ ap (λ front. front ++ drop (i + 1) settings) taken ∙ append_assoc (take i settings) (x ∷ []) (drop (i + 1) settings)

  pub settings_more : (net : Net) → after_settings net (take (i + 1) settings) ≡ then_set (after_settings net (take i settings)) x
  settings_more net = ap (after_settings net) taken ∙ fold_both (take i settings) (x ∷ []) (Ok net)

  -- one of them is refused, behind those that are made
  pub settings_refused : (net now : Net) → after_settings net (take i settings) ≡ Ok now → IsErr (after (edit_of x) now) → IsErr (after_settings net settings)
  settings_refused net now made refused =
      subst (λ (all : List Setting). IsErr (after_settings net all)) (sym parted)
      (subst IsErr (sym (fold_both (take i settings) (x ∷ drop (i + 1) settings) (Ok net)))
      (subst (λ (r : Result Net Refusal). IsErr (fold then_set (then_set r x) (drop (i + 1) settings))) (sym made) (err_stays (drop (i + 1) settings) (after (edit_of x) now) refused)))

-- ---- settings, each by itself
module _ (settings : List Setting) (i : ℕ) (x : Setting) (below : i < length settings) (is : x ≡ get_or settings i x) where
  each_taken : map alone (take (i + 1) settings) ≡ map alone (take i settings) ++ (x ∷ []) ∷ []
  each_taken = ap (map alone) (taken settings i x below is) ∙ map-append alone (take i settings) (x ∷ [])

  -- those before one, it, and those behind it
  pub each_parted : map alone settings ≡ map alone (take i settings) ++ (x ∷ []) ∷ map alone (drop (i + 1) settings)
  each_parted = ap (map alone) (parted settings i x below is) ∙ map-append alone (take i settings) (x ∷ drop (i + 1) settings)

  pub each_more : (P : List Setting → Type 0) → AllByRecursion P (map alone (take i settings)) → P (x ∷ []) → AllByRecursion P (map alone (take (i + 1) settings))
  each_more P all one = subst (AllByRecursion P) (sym each_taken) (at_end (map alone (take i settings)) all)
    where
      at_end : (ys : List (List Setting)) → AllByRecursion P ys → AllByRecursion P (ys ++ (x ∷ []) ∷ [])
      at_end [] h = (one, tt)
      at_end (y ∷ ys) h = (h.0, at_end ys h.1)

-- all of them
pub each_all : (settings : List Setting) (i : ℕ) → length settings ≤ i → (P : List Setting → Type 0) → AllByRecursion P (map alone (take i settings)) → AllByRecursion P (map alone settings)
each_all settings i above P all = subst (λ (ss : List Setting). AllByRecursion P (map alone ss)) (take_all i settings above) all

-- where the goal doesn't hold already
pub now_told : (goal : Goal) (net : Net) (o : Outcome) (lists : List (List Setting)) → (Has goal net o → ⊥) → AreCandidates net o goal lists → (advice : Advised) (rows : List Row) → AdvisesIn goal net o lists advice rows → Tells goal net o advice rows
now_told goal net o lists lacks are advised.Already rows h = absurd h
now_told goal net o lists lacks are (advised.Edits count) rows h = (lacks, lists, are, h)
now_told goal net o lists lacks are advised.Nothing rows h = (lacks, lists, are, h)

-- a network lacks a goal, by what is settled of it
pub lacking : (goal : Goal) (a b : Net) (o p : Outcome) → a ≡ b → o ≡ p → (Has goal a o → ⊥) → Has goal b p → ⊥
lacking goal a b o p nets outcomes lacks has = lacks (subst (λ n. Has goal n o) (sym nets) (subst (λ q. Has goal b q) (sym outcomes) has))

-- what is advised of one goal is so of the one that was asked for
module _ {P : Type 0} (grew : P → P → List Row → Type 0) (goal : Goal) (net : Net) (o : Outcome) (is_outcome : IsOutcome net o) (lacks : Has goal net o → ⊥)
    (wanted : Goal) (same : goal ≡ wanted) (lists : List (List Setting)) (are : AreCandidates net o wanted lists) (old new : P) (result : Result Advised AllocError) where
  abbrev TellsOf : Goal → Advised → Type 0
  TellsOf g advice = (rows : List Row) × Advises net g advice rows × Puts grew old new rows

  pub told_of : IfOk result (λ advice. (rows : List Row) × AdvisesIn wanted net o lists advice rows × Puts grew old new rows) → IfOk result (TellsOf goal)
  told_of said =
      let lacks_it : Has wanted net o → ⊥ = λ has. lacks (subst (λ g. Has g net o) (sym same) has) in
      subst (λ (g : Goal). IfOk result (TellsOf g)) (sym same)
      (IfOk-weaker result (λ advice. (rows : List Row) × AdvisesIn wanted net o lists advice rows × Puts grew old new rows) (TellsOf wanted)
      (λ advice told. (told.0, record { outcome = o; is_outcome = is_outcome; told = now_told wanted net o lists lacks_it are advice told.0 told.1 }, told.2)) said)
