-- A script has one output by the lines that lack memory, and one without; a query's answer is the network's alone.
use Rattle.std.proofs.Common.{◌≡◌, ℕ, ◌+◌, Bool, true, false, true≢false, cond, nat_eq, List, [], ◌∷◌, Some, Result, Ok, Err, refl, sym, ap, subst, ◌∙◌, arith}
use Rattle.std.proofs.lemmas.List.Sums.{sum_by-cons}
use Rattle.mst_lang.specs.declared.line.Line.{Line}
use Rattle.mst_lang.specs.declared.line.Line.TheVariants.{Blank, Mark, Edit as edit, Query as query}
use Rattle.mst_lang.specs.declared.line.Edit.{Edit}
use Rattle.mst_lang.specs.declared.line.Query.{Query}
use Rattle.mst_lang.specs.declared.line.Fault.{Fault}
use Rattle.mst_lang.specs.Reading.{reading_as}
use Rattle.mst_lang.specs.declared.line.Version.{Version}
use Rattle.mst_lang.specs.declared.line.Version.TheVariants.{V1, V2}
use Rattle.mst_lang.specs.Ranges.{InRange}
use Rattle.mst_lang.specs.Faults as fault
use Rattle.mst_net.specs.tables.declared.refusal.Refusal.{Refusal}
use Rattle.mst_net.specs.tables.Refusals as refusal
use Rattle.mst_net.specs.tables.Tables.{Net, IsNetwork, empty_net}
use Rattle.mst_net.specs.tables.After.{after}
use Rattle.mst_report.specs.changes.declared.subject.Entry.{Entry}
use Rattle.mst_report.specs.Answers.{Answers}
use Rattle.mst_report.specs.State.{State, IsState, IsMark, IsMarkNow, empty_state}
use Rattle.mst_rows.specs.Rows.{Row}
use Rattle.mst_engine.specs.Script.{ServesRead, loading, reading_at, refused, edited, marked, answered}
use Rattle.mst_engine.specs.Steps.{Step, RunsBy, silent, left_by, lacks_of, lacking_of, differing_of}
use Rattle.mst_print.specs.declared.form.Shape.{Shape}
use Rattle.mst_engine.proofs.Steps.{ServesBy, runs-none, runs-first, no_more_lack, alike_both}

-- a query whose answer meets no want of memory
answer_of : (shape : Shape) (number : ℕ) (now : State) (q : Query) (s : Step) → ServesRead shape number now (Ok (query q)) s → s.lacking ≡ false → (answer : Result (List Row) Refusal) × Answers q now answer × (s ≡ answered shape false number now q answer)
answer_of shape number now q s h given = (h.0, h.1, h.2 ∙ ap (λ lacks. answered shape lacks number now q h.0) given)

-- a query leaves the state
pub answered_keeps : (shape : Shape) (lacks : Bool) (number : ℕ) (now : State) (q : Query) (answer : Result (List Row) Refusal) → (answered shape lacks number now q answer).state ≡ now
answered_keeps shape true number now q (Err r) = refl
answered_keeps shape false number now q (Err r) = refl
answered_keeps shape true number now q (Ok rows) = refl
answered_keeps shape false number now q (Ok rows) = refl

-- no line of a script is a message that differs
answered_same : (shape : Shape) (lacks : Bool) (number : ℕ) (now : State) (q : Query) (answer : Result (List Row) Refusal) → (answered shape lacks number now q answer).differs ≡ false
answered_same shape true number now q (Err r) = refl
answered_same shape false number now q (Err r) = refl
answered_same shape true number now q (Ok rows) = refl
answered_same shape false number now q (Ok rows) = refl

edited_same : (shape : Shape) (lacks : Bool) (number : ℕ) (now : State) (new : Result Net Refusal) → (edited shape lacks number now new).differs ≡ false
edited_same shape true number now (Err r) = refl
edited_same shape false number now (Err r) = refl
edited_same shape true number now (Ok net) = refl
edited_same shape false number now (Ok net) = refl

marked_same : (shape : Shape) (lacks : Bool) (number : ℕ) (now : State) (entries : List Entry) → (marked shape lacks number now entries).differs ≡ false
marked_same shape true number now entries = refl
marked_same shape false number now entries = refl

served_same : (shape : Shape) (number : ℕ) (now : State) (r : Result Line Fault) (s : Step) → ServesRead shape number now r s → s.differs ≡ false
served_same shape number now (Err f) s h = ap (λ (t : Step). t.differs) h
served_same shape number now (Ok Blank) s h = ap (λ (t : Step). t.differs) h
served_same shape number now (Ok Mark) s h = ap (λ (t : Step). t.differs) h.2 ∙ marked_same shape s.lacking number now h.0
served_same shape number now (Ok (edit d)) s h = ap (λ (t : Step). t.differs) h.0 ∙ edited_same shape s.lacking number now (after d now.net)
served_same shape number now (Ok (query q)) s h = ap (λ (t : Step). t.differs) h.2 ∙ answered_same shape s.lacking number now q h.0

pub none_differ : (shape : Shape) (how : Result Line Fault → Result Line Fault) (version : Version) (number : ℕ) (now : State) (lines : List (List ℕ)) (steps : List Step) → RunsBy (ServesBy shape how version) number now lines steps → differing_of steps ≡ 0
unfolding RunsBy
none_differ shape how version number now [] [] h = refl
none_differ shape how version number now [] (s ∷ steps) h = absurd h
none_differ shape how version number now (line ∷ lines) [] h = absurd h
none_differ shape how version number now (line ∷ lines) (s ∷ steps) h =
    sum_by-cons (λ (t : Step). cond t.differs 1 0) s steps ∙ ap (λ b. cond b 1 0 + differing_of steps) (served_same shape number now (how (reading_at version number line)) s h.0)
    ∙ omega (arith, none_differ shape how version (number + 1) s.state lines steps h.1)

same_state : (s t : Step) (now : State) → s ≡ t → t.state ≡ now → IsState now → IsState s.state
same_state s t now e f is = subst IsState (sym (ap (λ (u : Step). u.state) e ∙ f)) is

-- at first nothing is there
pub empty_is : IsNetwork empty_net → IsState empty_state
empty_is is = record { network = is; mark = tt }

-- how what a line says may be taken: each edit that is made is one that stands there
abbrev KeepsEdits : (Result Line Fault → Result Line Fault) → Type 0
KeepsEdits how = (r : Result Line Fault) (e : Edit) → how r ≡ Ok (edit e) → r ≡ Ok (edit e)

pub as_it_stands : KeepsEdits (λ r. r)
as_it_stands r e h = h

pub as_loaded : KeepsEdits loading
as_loaded (Err f) e h = h
as_loaded (Ok Blank) e h = h
as_loaded (Ok Mark) e h = absurd (cc)
as_loaded (Ok (edit d)) e h = h
as_loaded (Ok (query q)) e h = absurd (cc)

-- what the laws say of networks and of entries of them
pub record Laws : Type 0 where
  pub networks : (e : Edit) (net new : Net) → InRange e → IsNetwork net → after e net ≡ Ok new → IsNetwork new
  pub ranges : (version : Version) (line : List ℕ) (e : Edit) → reading_as version line ≡ Ok (edit e) → InRange e
  pub entries : (net : Net) → IsNetwork net → (entries : List Entry) × IsMarkNow net entries
  pub one_rows : (net : Net) (entries others : List Entry) → IsNetwork net → IsMarkNow net entries → IsMarkNow net others → entries ≡ others
  pub marks : (net : Net) (entries : List Entry) → IsNetwork net → IsMarkNow net entries → IsMark entries

module _ (laws : Laws) (shape : Shape) (how : Result Line Fault → Result Line Fault) (kept : KeepsEdits how) where
  -- what a line says is in its range, whatever its number
  ranges_at : (version : Version) (number : ℕ) (line : List ℕ) (e : Edit) → reading_at version number line ≡ Ok (edit e) → InRange e
  ranges_at V1 number line e h = laws.ranges V1 line e h
  ranges_at V2 number line e h = by (nat_eq number 1) h
    where
      by : (first : Bool) → cond first (Ok Blank) (reading_as V2 line) ≡ Ok (edit e) → InRange e
      by true h = absurd (cc)
      by false h = laws.ranges V2 line e h

  -- a line leaves a network, and a mark of one, where there were
  state_kept : (version : Version) (number : ℕ) (now : State) (line : List ℕ) (r : Result Line Fault) (s : Step) → IsState now → how (reading_at version number line) ≡ r → ServesRead shape number now r s → IsState s.state
  state_kept version number now line (Err f) s is e h = same_state s (refused shape number (fault.code_of f) (fault.text_of f) now) now h refl is
  state_kept version number now line (Ok Blank) s is e h = same_state s (silent now) now h refl is
  state_kept version number now line (Ok Mark) s is e h = by s.lacking h.2
    where
      by : (lacks : Bool) → s ≡ marked shape lacks number now h.0 → IsState s.state
      by true k = subst (λ (t : Step). IsState t.state) (sym k) is
      by false k = subst (λ (t : Step). IsState t.state) (sym k) (record { network = is.network; mark = laws.marks now.net h.0 is.network h.1 })
  state_kept version number now line (Ok (query q)) s is e h = same_state s (answered shape s.lacking number now q h.0) now h.2 (answered_keeps shape s.lacking number now q h.0) is
  state_kept version number now line (Ok (edit d)) s is e h = by (after d now.net) s.lacking refl h.0
    where
      by : (o : Result Net Refusal) (lacks : Bool) → after d now.net ≡ o → s ≡ edited shape lacks number now o → IsState s.state
      by (Err r) true f h = subst (λ (t : Step). IsState t.state) (sym h) is
      by (Err r) false f h = subst (λ (t : Step). IsState t.state) (sym h) is
      by (Ok new) true f h = subst (λ (t : Step). IsState t.state) (sym h) is
      by (Ok new) false f h = subst (λ (t : Step). IsState t.state) (sym h) (record { network = laws.networks d now.net new (ranges_at version number line d (kept (reading_at version number line) d e)) is.network f; mark = is.mark })

  pub state_left : (version : Version) (number : ℕ) (now : State) (lines : List (List ℕ)) (steps : List Step) → IsState now → RunsBy (ServesBy shape how version) number now lines steps → IsState (left_by now steps)
  unfolding RunsBy
  state_left version number now [] [] is h = is
  state_left version number now [] (s ∷ steps) is h = absurd h
  state_left version number now (line ∷ lines) [] is h = absurd h
  state_left version number now (line ∷ lines) (s ∷ steps) is h =
      state_left version (number + 1) s.state lines steps (state_kept version number now line (how (reading_at version number line)) s is refl h.0) h.1

  module _ (there : (q : Query) (now : State) → IsState now → (answer : Result (List Row) Refusal) × Answers q now answer) where
    -- a line can be served without want of memory
    full_step : (number : ℕ) (now : State) (r : Result Line Fault) → IsState now → (s : Step) × ServesRead shape number now r s × (s.lacking ≡ false)
    full_step number now (Err f) is = (refused shape number (fault.code_of f) (fault.text_of f) now, refl, refl)
    full_step number now (Ok Blank) is = (silent now, refl, refl)
    full_step number now (Ok Mark) is = let m = laws.entries now.net is.network in (silent (record now { mark = Some m.0 }), (m.0, m.1, refl), refl)
    full_step number now (Ok (query q)) is = let a = there q now is in by a.0 a.1
      where
        by : (answer : Result (List Row) Refusal) → Answers q now answer → (s : Step) × ServesRead shape number now (Ok (query q)) s × (s.lacking ≡ false)
        by (Err r) h = (refused shape number (refusal.code_of r) (refusal.text_of r) now, (Err r, h, refl), refl)
        by (Ok rows) h = (answered shape false number now q (Ok rows), (Ok rows, h, refl), refl)
    full_step number now (Ok (edit d)) is = by (after d now.net) refl
      where
        by : (o : Result Net Refusal) → after d now.net ≡ o → (s : Step) × ServesRead shape number now (Ok (edit d)) s × (s.lacking ≡ false)
        by (Err r) f = (refused shape number (refusal.code_of r) (refusal.text_of r) now, (sym (ap (edited shape false number now) f), λ lacks. absurd (true≢false (sym lacks))), refl)
        by (Ok new) f = (silent (record now { net = new }), (sym (ap (edited shape false number now) f), λ lacks. absurd (true≢false (sym lacks))), refl)

    -- and so can all lines
    pub full_run : (version : Version) (number : ℕ) (now : State) (lines : List (List ℕ)) → IsState now → (steps : List Step) × RunsBy (ServesBy shape how version) number now lines steps × (lacks_of steps ≡ 0)
    full_run version number now [] is = ([], runs-none (ServesBy shape how version) number now, refl)
    full_run version number now (line ∷ lines) is =
        let s = full_step number now (how (reading_at version number line)) is in
        let rest = full_run version (number + 1) (s.0).state lines (state_kept version number now line (how (reading_at version number line)) s.0 is refl s.1) in
        (s.0 ∷ rest.0, runs-first (ServesBy shape how version) number now line lines s.0 rest.0 s.1 rest.1, no_more_lack s.0 rest.0 s.2 rest.2)

  module _ (answers : (q : Query) (now : State) (a b : Result (List Row) Refusal) → IsNetwork now.net → Answers q now a → Answers q now b → a ≡ b) where
    -- a line does one thing in a state, or lacks memory
    one_step : (number : ℕ) (now : State) (r : Result Line Fault) (s t : Step) → IsState now → ServesRead shape number now r s → ServesRead shape number now r t → s.lacking ≡ t.lacking → s ≡ t
    one_step number now (Err f) s t is h k alike = h ∙ sym k
    one_step number now (Ok Blank) s t is h k alike = h ∙ sym k
    one_step number now (Ok Mark) s t is h k alike =
        let entries : h.0 ≡ k.0 = laws.one_rows now.net h.0 k.0 is.network h.1 k.1 in
        h.2 ∙ (λ i. marked shape (alike i) number now (entries i)) ∙ sym k.2
    one_step number now (Ok (edit d)) s t is h k alike = h.0 ∙ ap (λ lacks. edited shape lacks number now (after d now.net)) alike ∙ sym k.0
    one_step number now (Ok (query q)) s t is h k alike =
        let answer : h.0 ≡ k.0 = answers q now h.0 k.0 is.network h.1 k.1 in
        h.2 ∙ (λ i. answered shape (alike i) number now q (answer i)) ∙ sym k.2

    -- and so do all lines
    pub one_run : (version : Version) (number : ℕ) (now : State) (lines : List (List ℕ)) (a b : List Step) → IsState now → RunsBy (ServesBy shape how version) number now lines a → RunsBy (ServesBy shape how version) number now lines b → lacking_of a ≡ lacking_of b → a ≡ b
    unfolding RunsBy
    one_run version number now [] [] [] is h k alike = refl
    one_run version number now [] [] (t ∷ b) is h k alike = absurd k
    one_run version number now [] (s ∷ a) b is h k alike = absurd h
    one_run version number now (line ∷ lines) [] b is h k alike = absurd h
    one_run version number now (line ∷ lines) (s ∷ a) [] is h k alike = absurd k
    one_run version number now (line ∷ lines) (s ∷ a) (t ∷ b) is h k alike =
        let both = alike_both s t a b alike in
        let same : s ≡ t = one_step number now (how (reading_at version number line)) s t is h.0 k.0 both.0 in
        let rest : a ≡ b = one_run version (number + 1) s.state lines a b (state_kept version number now line (how (reading_at version number line)) s is refl h.0) h.1 (subst (λ (u : Step). RunsBy (ServesBy shape how version) (number + 1) u.state lines b) (sym same) k.1) both.1 in
        λ i. same i ∷ rest i

    -- in equal states a query has one answer
    pub one_reply : (m n : ℕ) (now other : State) (q : Query) (s t : Step) → IsState now → now ≡ other → ServesRead shape m now (Ok (query q)) s → ServesRead shape n other (Ok (query q)) t
        → s.lacking ≡ false → t.lacking ≡ false → (answer : Result (List Row) Refusal) × (s ≡ answered shape false m now q answer) × (t ≡ answered shape false n other q answer)
    one_reply m n now other q s t is same h k given too =
        let x = answer_of shape m now q s h given in
        let y = answer_of shape n other q t k too in
        (x.0, x.2, y.2 ∙ ap (answered shape false n other q) (sym (answers q now x.0 y.0 is.network x.1 (subst (λ w. Answers q w y.0) (sym same) y.1))))
