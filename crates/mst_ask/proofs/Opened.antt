-- What stands where a whole script was loaded and no line of it lacked memory, and what was written of it.
use Rattle.std.proofs.Common.{◌≡◌, ℕ, ◌<◌, ◌^◌, ◌==◌, ◌++◌, true, false, not, List, [], Option, Result, Err, sym, ap, subst, ◌∙◌, refl, inr}
use Rattle.std.specs.Io.KnownBytes.{Appends}
use Rattle.mst_drive.specs.Words.{Wrote}
use Rattle.mst_io.specs.Written.{AppendsFront}
use Rattle.mst_lang.specs.Lines.{lines_of}
use Rattle.mst_drive.proofs.Words.{front_then, wrote_then}
use Rattle.mst_questions.specs.tool.engine.Script.{LoadsAll, version_of}
use Rattle.mst_questions.specs.tool.engine.Steps.{Step, lacks_of}
use Rattle.mst_questions.specs.tool.engine.declared.engine.Engine.{Engine}
use Rattle.mst_questions.specs.tool.engine.report.Planned.{planned_state}
use Rattle.mst_questions.specs.tool.engine.report.State.{State}
use Rattle.mst_io.specs.declared.outcome.RunFault.{RunFault}
use Rattle.mst_io.specs.declared.outcome.RunFault.TheVariants.{Write}
use Rattle.mst_policy.specs.declared.policy.PolicyLine.{PolicyLine}
use Rattle.mst_questions.specs.tool.engine.print.Shape.{of_script}
use Rattle.mst_questions.specs.tool.engine.print.declared.form.Form.{Form}
use Rattle.mst_ask.specs.Answering.{IsLoaded, LoadsLines}
use Rattle.mst_ask.specs.Asking.{opening}
use Rattle.mst_ask.specs.Kept.{IsKept, net_of_script, standing_of}
use Rattle.mst_ask.specs.Lines.{lines_in}
use Rattle.mst_ask.specs.Opening.{IsOpened, OpensNot, OpensWhole, PrintsWhole}
use Rattle.mst_ask.specs.Questions.{judged_by, none_counted}
use Rattle.mst_ask.specs.Standing.{Standing as What, done, status_by}
use Rattle.mst_ask.specs.declared.questions.Asking.{Asking}
use Rattle.mst_ask.specs.declared.script.Script.{Script}
use Rattle.mst_ask.specs.declared.standing.Standing.{Standing}
use Rattle.mst_ask.proofs.Kept.{script_loaded}

-- of two faults that a result has one is the other
pub one_fault : {T : Type 0} (r : Result T RunFault) (a b : RunFault) → r ≡ Err a → r ≡ Err b → a ≡ b
one_fault r a b p q = cc

-- what the lines print that were loaded
pub lines_printed : (form : Form) (lines : List (List ℕ)) (written now : Option (List ℕ)) (engine : Engine) → Wrote written now (λ text. IsLoaded form lines text engine) → Wrote written now (LoadsLines form lines)
lines_printed form lines written now engine w = (w.0, record { loads = (w.1).loads; loaded = (w.1).loaded; printed = (w.1).printed }, w.2)

module _ (form : Form) (script : Script) (written mid : Option (List ℕ)) (engine : Engine) (w : Wrote written mid (λ text. IsLoaded form (lines_in script.is_whole script.bytes.items) text engine)) (whole : script.is_whole ≡ true) (full : engine.memory ≡ 0) where
  abbrev l : IsLoaded form (lines_in script.is_whole script.bytes.items) w.0 engine
  l = w.1

  all_loaded : LoadsAll (of_script form) (lines_of script.bytes.items) l.loads
  all_loaded = subst (λ w. LoadsAll (of_script form) (lines_in w script.bytes.items) l.loads) whole l.loaded

  none_lacks : lacks_of l.loads ≡ 0
  none_lacks = sym l.memory ∙ full

  pub net_loaded : (planned_state engine.planner).net ≡ net_of_script script.bytes.items
  net_loaded = ap (λ (s : State). s.net) l.state ∙ script_loaded (of_script form) script.bytes.items l.loads all_loaded none_lacks

  abbrev end : List ℕ
  end = done form (status_by (not (engine.refused == 0)) false false)

  -- the whole of what it prints
  abbrev whole_printed : PrintsWhole form script.bytes.items (w.0 ++ end)
  whole_printed = record {
    loads = l.loads;
    loaded = all_loaded;
    full = none_lacks;
    printed = λ i. l.printed i ++ done form (status_by (not (l.refused i == 0)) false false);
  }

  -- the end of it, of which a front was written
  pub broken_end : (now : Option (List ℕ)) → AppendsFront mid now (done form (status_by (not (engine.refused == 0)) false false)) → OpensNot form script written now Write
  broken_end now front = (inr whole, front_then written mid now w.0 end _ (inr (whole, whole_printed)) w.2 front)

  -- and the whole of it
  pub opened : (now : Option (List ℕ)) (standing : Standing) (asking : Asking) → engine.refused < 2 ^ 60 → Appends mid now (done form (status_by (not (engine.refused == 0)) false false))
      → IsKept standing → standing.form ≡ form → standing.version ≡ version_of (lines_of script.bytes.items) → standing_of standing ≡ record { state = planned_state engine.planner; policy = []; made = [] }
      → asking ≡ record { standing = standing; outcome = none_counted; loaded = engine.refused } → OpensWhole form script written now asking
  opened now standing asking few went kept prints version stands is =
      let o = subst (IsOpened form script.bytes.items l.loads []) (sym is) (record {
        kept = kept;
        prints = prints;
        version = version;
        standing = stands ∙ ap (λ state. record { state = state; policy = []; made = [] }) l.state;
        begins = refl;
        refused = l.refused;
        few = few;
      }) in
      (whole, wrote_then written mid now w.0 end (λ text. (p : PrintsWhole form script.bytes.items text) × IsOpened form script.bytes.items p.loads [] asking) (whole_printed, o) w.2 went)

-- it stands with the policy that was read then
pub opened_with : (form : Form) (script : List ℕ) (loads : List Step) (policy : List PolicyLine) (asking judged : Asking) → judged ≡ judged_by asking policy → IsOpened form script loads [] asking → IsOpened form script loads policy judged
opened_with form script loads policy asking judged is o = subst (IsOpened form script loads policy) (sym is) (record {
  kept = record { version = o.kept.version; few = o.kept.few; net = o.kept.net };
  prints = o.prints;
  version = o.version;
  standing = ap (λ (s : What). record s { policy = policy }) o.standing;
  begins = o.begins;
  refused = o.refused;
  few = o.few;
})
