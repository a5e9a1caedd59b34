-- What answers queries.
use Rattle.std.proofs.Common.{◌≡◌, ◌≢◌, ℕ, List, [], ◌∷◌, Option, None, Some, Result, Ok, Err, MatchOption, refl, sym, ap, subst, ◌∙◌}
use Rattle.std.specs.Prelude.{unwrap_or}
use Rattle.std.specs.FinMap as fin
use Rattle.std.specs.Option.{option_map, option_map_or}
use Rattle.mst_lang.specs.declared.line.Query.{Query}
use Rattle.mst_lang.specs.declared.line.Query.TheVariants.{ShowPlan, ShowLag, ShowRegions, ShowNotes, ShowTree, ShowVlan, ShowConfiguration, Changes, Save, Digest}
use Rattle.mst_net.specs.tables.After.{table_of}
use Rattle.mst_net.specs.tables.Tables.{Net, BridgeRow, IsNetwork}
use Rattle.mst_net.specs.tables.declared.refusal.Refusal.{Refusal}
use Rattle.mst_net.specs.tables.declared.refusal.Refusal.TheVariants.{E04, E16}
use Rattle.mst_plan_text.specs.forest.Outcome.{Outcome, IsOutcome}
use Rattle.mst_changes.specs.ChangesText.{all_changes}
use Rattle.mst_changes.specs.Kept.{entries_of}
use Rattle.mst_changes.specs.declared.subject.Entry.{Entry}
use Rattle.mst_plan_text.specs.text.LagText.{lags_rows}
use Rattle.mst_note_text.specs.NotesText.{AreNoteRows}
use Rattle.mst_plan_text.specs.PlanText.{ArePlanRows}
use Rattle.mst_plan_text.specs.text.ConfigurationText.{configuration_rows, rows_of_bridge}
use Rattle.mst_plan_text.specs.text.RegionsText.{regions_rows}
use Rattle.mst_rows.specs.Rows.{Row}
use Rattle.mst_edits.specs.Digest.{digest_row}
use Rattle.mst_edits.specs.EditRows.{save_rows}
use Rattle.mst_plan_text.specs.text.TreeText.{tree_rows}
use Rattle.mst_plan_text.specs.text.VlanText.{AreVlanRows}
use Rattle.mst_report.specs.Answers.{Answers, TellsOutcome, TellsChanges}
use Rattle.mst_report.specs.Refusing.{HasRows}
use Rattle.mst_report.specs.State.{State, IsState, IsMark, IsMarkNow}

-- by the laws that a network has an outcome, and an outcome its rows
module _ (outcomes : (net : Net) → IsNetwork net → (o : Outcome) × IsOutcome net o)
    (plans : (net : Net) (o : Outcome) → IsNetwork net → (rows : List Row) × ArePlanRows net o rows)
    (vids : (net : Net) (o : Outcome) (vid : ℕ) → IsNetwork net → (rows : List Row) × AreVlanRows net o vid rows)
    (notes : (net : Net) (o : Outcome) → IsNetwork net → IsOutcome net o → (rows : List Row) × AreNoteRows net o rows) where
  -- what is said of every outcome is told
  told : (net : Net) → IsNetwork net → (Says : Outcome → List Row → Type 0) → ((o : Outcome) → IsOutcome net o → (rows : List Row) × Says o rows) → (rows : List Row) × TellsOutcome net Says (Ok rows)
  told net ok Says there = let o = outcomes net ok in let t = there o.0 o.1 in (t.0, (o.0, o.1, t.0, t.1, refl))

  -- what has changed since a mark
  pub changes_told : (net : Net) → IsNetwork net → (entries : List Entry) → IsMark entries → (rows : List Row) × TellsChanges (Some entries) net (Ok rows)
  changes_told net ok entries was = let t = told net ok (λ o rows. rows ≡ all_changes was.net was.outcome net o) (λ o is. (all_changes was.net was.outcome net o, refl)) in (t.0, (was, t.1))

  changes_there : (net : Net) → IsNetwork net → (mark : Option (List Entry)) → MatchOption mark (Unit {0}) IsMark → (answer : Result (List Row) Refusal) × TellsChanges mark net answer
  changes_there net ok None is = (Err E16, refl)
  changes_there net ok (Some entries) is = let t = changes_told net ok entries is in (Ok t.0, t.1)

  -- each query has an answer
  pub answer_there : (query : Query) (s : State) → IsState s → (answer : Result (List Row) Refusal) × Answers query s answer
  answer_there ShowPlan s ok = let t = told s.net ok.network (ArePlanRows s.net) (λ o is. plans s.net o ok.network) in (Ok t.0, t.1)
  answer_there (ShowTree tree) s ok = let t = told s.net ok.network (λ o rows. rows ≡ tree_rows s.net o tree) (λ o is. (tree_rows s.net o tree, refl)) in (Ok t.0, t.1)
  answer_there (ShowVlan vid) s ok = let t = told s.net ok.network (λ o. AreVlanRows s.net o vid) (λ o is. vids s.net o vid ok.network) in (Ok t.0, t.1)
  answer_there ShowNotes s ok = let t = told s.net ok.network (AreNoteRows s.net) (λ o is. notes s.net o ok.network is) in (Ok t.0, t.1)
  answer_there ShowLag s ok = (Ok (lags_rows s.net), refl)
  answer_there ShowRegions s ok = (Ok (regions_rows s.net), refl)
  answer_there (ShowConfiguration bridge) s ok = (option_map_or (λ rows. Ok rows) (configuration_rows s.net bridge) (Err E04), refl)
  answer_there Changes s ok = changes_there s.net ok.network s.mark ok.mark
  answer_there Save s ok = (Ok (save_rows s.net), refl)
  answer_there Digest s ok = (Ok (digest_row s.net ∷ []), refl)

-- a query that has an answer and can't be refused has rows
pub has_rows : ((query : Query) (s : State) → IsState s → (answer : Result (List Row) Refusal) × Answers query s answer)
    → (query : Query) (s : State) → IsState s → ((bridge : List ℕ) → query ≢ ShowConfiguration bridge) → query ≢ Changes → HasRows query s
has_rows there ShowPlan s ok other since = let h = (there ShowPlan s ok).1 in (h.2, (h.0, h.1, h.2, h.3, refl))
has_rows there (ShowTree tree) s ok other since = let h = (there (ShowTree tree) s ok).1 in (h.2, (h.0, h.1, h.2, h.3, refl))
has_rows there (ShowVlan vid) s ok other since = let h = (there (ShowVlan vid) s ok).1 in (h.2, (h.0, h.1, h.2, h.3, refl))
has_rows there ShowNotes s ok other since = let h = (there ShowNotes s ok).1 in (h.2, (h.0, h.1, h.2, h.3, refl))
has_rows there ShowLag s ok other since = (lags_rows s.net, refl)
has_rows there ShowRegions s ok other since = (regions_rows s.net, refl)
has_rows there (ShowConfiguration bridge) s ok other since = absurd (other bridge refl)
has_rows there Changes s ok other since = absurd (since refl)
has_rows there Save s ok other since = (save_rows s.net, refl)
has_rows there Digest s ok other since = (digest_row s.net ∷ [], refl)

-- what tells of changes since a mark has rows
told_rows : (net : Net) (entries : List Entry) (answer : Result (List Row) Refusal) → TellsChanges (Some entries) net answer → (rows : List Row) × TellsChanges (Some entries) net (Ok rows)
told_rows net entries answer t = (t.1.2, (t.0, (t.1.0, t.1.1, t.1.2, t.1.3, refl)))

-- so has one about changes, once something is marked
pub changes_have_rows : (net : Net) (mark : Option (List Entry)) (entries : List Entry) → mark ≡ Some entries → (answer : Result (List Row) Refusal) × TellsChanges mark net answer → HasRows Changes (record { net = net; mark = mark })
changes_have_rows net mark entries e there =
    subst (λ m. HasRows Changes (record { net = net; mark = m })) (sym e)
    (let h = subst (λ m. (answer : Result (List Row) Refusal) × TellsChanges m net answer) e there in told_rows net entries h.0 h.1)

-- a bridge that is there has a configuration to show
pub configuration_there : (s : State) (bridge : List ℕ) (row : BridgeRow) → Some row ≡ fin.get s.net.bridges bridge → HasRows (ShowConfiguration bridge) s
configuration_there s bridge row e = (
  rows_of_bridge bridge row (table_of s.net bridge),
  ap (λ o. option_map_or (λ rows. Ok rows) (option_map (λ row. rows_of_bridge bridge row (table_of s.net bridge)) o) (Err E04)) e,
)

-- no rows are a refusal
abbrev is_rows : Result (List Row) Refusal → Type 0
is_rows (Ok rows) = Unit {0}
is_rows (Err refusal) = ⊥

no_error : (rows : List Row) (refusal : Refusal) → ◌≡◌ {A = Result (List Row) Refusal} (Ok rows) (Err refusal) → ⊥
no_error rows refusal e = subst is_rows e tt

-- where it has some, the configuration's rows are what answers
pub configuration_is : (s : State) (bridge : List ℕ) → HasRows (ShowConfiguration bridge) s → Answers (ShowConfiguration bridge) s (Ok (unwrap_or (configuration_rows s.net bridge) []))
configuration_is s bridge has = go (configuration_rows s.net bridge) has.1
  where
    go : (o : Option (List Row)) → Ok has.0 ≡ option_map_or (λ rows. Ok rows) o (Err E04) → Ok (unwrap_or o []) ≡ option_map_or (λ rows. Ok rows) o (Err E04)
    go (Some rows) e = refl
    go None e = absurd (no_error has.0 E04 e)

-- by the laws that a network has one outcome, and an outcome one list of each
module _ (outcomes : (net : Net) (o p : Outcome) → IsNetwork net → IsOutcome net o → IsOutcome net p → o ≡ p)
    (plans : (net : Net) (o : Outcome) (rows other : List Row) → ArePlanRows net o rows → ArePlanRows net o other → rows ≡ other)
    (vids : (net : Net) (o : Outcome) (vid : ℕ) (rows other : List Row) → AreVlanRows net o vid rows → AreVlanRows net o vid other → rows ≡ other)
    (notes : (net : Net) (o : Outcome) (rows other : List Row) → IsNetwork net → IsOutcome net o → AreNoteRows net o rows → AreNoteRows net o other → rows ≡ other)
    (entries_tell : (a b c d : Net) (o p q r : Outcome) → entries_of a o ≡ entries_of c q → entries_of b p ≡ entries_of d r → all_changes a o b p ≡ all_changes c q d r) where
  one_told : (net : Net) → IsNetwork net → (Says : Outcome → List Row → Type 0) → ((o : Outcome) → IsOutcome net o → (rows other : List Row) → Says o rows → Says o other → rows ≡ other)
      → (a b : Result (List Row) Refusal) → TellsOutcome net Says a → TellsOutcome net Says b → a ≡ b
  one_told net ok Says one a b x y =
      let same : x.0 ≡ y.0 = outcomes net x.0 y.0 ok x.1 y.1 in
      x.4 ∙ ap Ok (one y.0 y.1 x.2 y.2 (subst (λ o. Says o x.2) same x.3) y.3) ∙ sym y.4

  one_change : (net : Net) → IsNetwork net → (mark : Option (List Entry)) → (a b : Result (List Row) Refusal) → TellsChanges mark net a → TellsChanges mark net b → a ≡ b
  one_change net ok None a b x y = x ∙ sym y
  one_change net ok (Some entries) a b x y =
      let u = x.1 in
      let v = y.1 in
      let same : u.0 ≡ v.0 = outcomes net u.0 v.0 ok u.1 v.1 in
      u.4
      ∙ ap Ok (u.3 ∙ entries_tell x.0.net net y.0.net net x.0.outcome u.0 y.0.outcome v.0 (sym x.0.are_entries ∙ y.0.are_entries) (ap (entries_of net) same) ∙ sym v.3)
      ∙ sym v.4

  -- a query has one answer
  pub one_rows : (query : Query) (s : State) (a b : Result (List Row) Refusal) → IsNetwork s.net → Answers query s a → Answers query s b → a ≡ b
  one_rows ShowPlan s a b ok x y = one_told s.net ok (ArePlanRows s.net) (λ o is rows other h k. plans s.net o rows other h k) a b x y
  one_rows (ShowTree tree) s a b ok x y = one_told s.net ok (λ o rows. rows ≡ tree_rows s.net o tree) (λ o is rows other h k. h ∙ sym k) a b x y
  one_rows (ShowVlan vid) s a b ok x y = one_told s.net ok (λ o. AreVlanRows s.net o vid) (λ o is rows other h k. vids s.net o vid rows other h k) a b x y
  one_rows ShowNotes s a b ok x y = one_told s.net ok (AreNoteRows s.net) (λ o is rows other h k. notes s.net o rows other ok is h k) a b x y
  one_rows ShowLag s a b ok x y = x ∙ sym y
  one_rows ShowRegions s a b ok x y = x ∙ sym y
  one_rows (ShowConfiguration bridge) s a b ok x y = x ∙ sym y
  one_rows Changes s a b ok x y = one_change s.net ok s.mark a b x y
  one_rows Save s a b ok x y = x ∙ sym y
  one_rows Digest s a b ok x y = x ∙ sym y

-- the mark of which changes have rows
pub was_marked : (net : Net) (mark : Option (List Entry)) (entries : List Entry) → mark ≡ Some entries → HasRows Changes (record { net = net; mark = mark }) → IsMark entries
was_marked net mark entries e has = let t = subst (λ m. (rows : List Row) × TellsChanges m net (Ok rows)) e has in t.1.0

-- without a mark they have none
pub not_marked : (net : Net) (mark : Option (List Entry)) → mark ≡ None → HasRows Changes (record { net = net; mark = mark }) → ⊥
not_marked net mark e has = let t = subst (λ m. (rows : List Row) × TellsChanges m net (Ok rows)) e has in no_error t.0 E16 t.1

-- the rows from the marked network to the one now
pub changes_are : (net : Net) (mark : Option (List Entry)) (entries news : List Entry) → mark ≡ Some entries → (was : IsMark entries) → (now : IsMarkNow net news)
    → TellsChanges mark net (Ok (all_changes was.net was.outcome net now.0))
changes_are net mark entries news e was now =
    let rows = all_changes was.net was.outcome net now.0 in subst (λ m. TellsChanges m net (Ok rows)) (sym e) (was, (now.0, now.1, rows, refl, refl))
