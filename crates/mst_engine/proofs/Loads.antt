-- A script loads the network that it runs to.
use Rattle.std.proofs.Common.{◌≡◌, ℕ, ◌+◌, Bool, true, false, List, [], ◌∷◌, Result, Ok, Err, refl, sym, ap, subst, ◌∙◌}
use Rattle.mst_lang.specs.declared.line.Line.{Line}
use Rattle.mst_lang.specs.declared.line.Line.TheVariants.{Blank, Mark, Edit as edit, Query as query}
use Rattle.mst_lang.specs.declared.line.Fault.{Fault}
use Rattle.mst_lang.specs.declared.line.Version.{Version}
use Rattle.mst_net.specs.tables.declared.refusal.Refusal.{Refusal}
use Rattle.mst_net.specs.tables.Tables.{Net}
use Rattle.mst_net.specs.tables.After.{after}
use Rattle.mst_report.specs.changes.declared.subject.Entry.{Entry}
use Rattle.mst_report.specs.State.{State}
use Rattle.mst_engine.specs.Script.{Serves, ServesRead, Loads, loading, unmarked, reading_at, edited, marked}
use Rattle.mst_print.specs.Shape.{of_script}
use Rattle.mst_engine.specs.Steps.{Step, RunsBy, left_by, lacks_of}
use Rattle.mst_print.specs.declared.form.Form.{Form}
use Rattle.mst_print.specs.declared.form.Shape.{Shape}
use Rattle.mst_engine.proofs.OneRun.{answered_keeps}
use Rattle.mst_engine.proofs.Steps.{none_lack}

-- an edit makes one network, whatever mark there is, and of whatever shape a refusal is
edited_unmarked : (form : Form) (shape : Shape) (number : ℕ) (now : State) (new : Result Net Refusal) → (edited shape false number (unmarked now) new).state ≡ unmarked (edited (of_script form) false number now new).state
edited_unmarked form shape number now (Err r) = refl
edited_unmarked form shape number now (Ok net) = refl

-- a mark leaves the network
marked_unmarked : (form : Form) (lacks : Bool) (number : ℕ) (now : State) (entries : List Entry) → unmarked now ≡ unmarked (marked (of_script form) lacks number now entries).state
marked_unmarked form true number now entries = refl
marked_unmarked form false number now entries = refl

module _ (form : Form) (shape : Shape) where
  -- a line that is loaded makes of the network what it makes where it is run
  load_same : (number : ℕ) (now : State) (r : Result Line Fault) (s t : Step) → ServesRead (of_script form) number now r s → ServesRead shape number (unmarked now) (loading r) t → s.lacking ≡ false → t.lacking ≡ false → t.state ≡ unmarked s.state
  load_same number now (Err f) s t h k given too = ap (λ (u : Step). u.state) k ∙ sym (ap (λ (u : Step). unmarked u.state) h)
  load_same number now (Ok Blank) s t h k given too = ap (λ (u : Step). u.state) k ∙ sym (ap (λ (u : Step). unmarked u.state) h)
  load_same number now (Ok Mark) s t h k given too = ap (λ (u : Step). u.state) k ∙ marked_unmarked form s.lacking number now h.0 ∙ sym (ap (λ (u : Step). unmarked u.state) h.2)
  load_same number now (Ok (query q)) s t h k given too =
      ap (λ (u : Step). u.state) k ∙ sym (ap unmarked (answered_keeps (of_script form) s.lacking number now q h.0)) ∙ sym (ap (λ (u : Step). unmarked u.state) h.2)
  load_same number now (Ok (edit e)) s t h k given too =
      let new = after e now.net in
      ap (λ (u : Step). u.state) (k.0 ∙ ap (λ lacks. edited shape lacks number (unmarked now) new) too)
      ∙ edited_unmarked form shape number now new
      ∙ sym (ap (λ (u : Step). unmarked u.state) (h.0 ∙ ap (λ lacks. edited (of_script form) lacks number now new) given))

  pub loads_same : (version : Version) (number : ℕ) (now : State) (lines : List (List ℕ)) (a b : List Step) → RunsBy (Serves form version) number now lines a → RunsBy (Loads shape version) number (unmarked now) lines b
      → lacks_of a ≡ 0 → lacks_of b ≡ 0 → left_by (unmarked now) b ≡ unmarked (left_by now a)
  unfolding RunsBy
  loads_same version number now [] [] [] h k given too = refl
  loads_same version number now [] [] (t ∷ b) h k given too = absurd k
  loads_same version number now [] (s ∷ a) b h k given too = absurd h
  loads_same version number now (line ∷ lines) [] b h k given too = absurd h
  loads_same version number now (line ∷ lines) (s ∷ a) [] h k given too = absurd k
  loads_same version number now (line ∷ lines) (s ∷ a) (t ∷ b) h k given too =
      let x = none_lack s a given in
      let y = none_lack t b too in
      let same : t.state ≡ unmarked s.state = load_same number now (reading_at version number line) s t h.0 k.0 x.0 y.0 in
      ap (λ now. left_by now b) same
      ∙ loads_same version (number + 1) s.state lines a b h.1 (subst (λ now. RunsBy (Loads shape version) (number + 1) now lines b) same k.1) x.1 y.1
