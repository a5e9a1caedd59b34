-- What a reader's script has printed, by what was read of it, and how the devices stand then.
use Rattle.std.proofs.Common.{◌≡◌, ◌⊎◌, ℕ, ◌+◌, Bool, true, false, List, [], ◌∷◌, ◌++◌, length, Option, Some, None, refl, sym, subst, ◌∙◌, arith, inl, inr, append-nil}
use Rattle.std.specs.Io.KnownBytes.{Consumes}
use Rattle.std.specs.Option.{unwrap_or}
use Rattle.std.proofs.KnownBytes.{Appends-nil}
use Rattle.std.proofs.lemmas.Grind.{flat_map-append}
use Rattle.mst_drive.specs.Driving.{Halts}
use Rattle.mst_drive.specs.Turned.{Turned, Turning}
use Rattle.mst_drive.specs.Words.{Wrote, WroteFront}
use Rattle.mst_drive.proofs.Turned.{turned_one}
use Rattle.mst_drive.proofs.Words.{front_as, wrote_as, wrote_front}
use Rattle.mst_io.specs.Devices.{Seen, Told, IsCalled, IsCut, StopsAtZero, Works}
use Rattle.mst_io.specs.Written.{AppendsFront, Reads}
use Rattle.mst_io.specs.declared.outcome.RunFault.{RunFault}
use Rattle.mst_io.specs.declared.outcome.RunFault.TheVariants.{Read, Write, Memory}
use Rattle.mst_io.proofs.Calls.{stops_working, works_unbroken}
use Rattle.mst_io.proofs.Known.{AppendsFront-longer}
use Rattle.mst_io.proofs.ReadBytes.{Reads-rest, Reads-all}
use Rattle.mst_lang.specs.Lines.{lines_of, ended_lines}
use Rattle.mst_questions.specs.tool.engine.Script.{Loads, LoadsAll, version_of}
use Rattle.mst_questions.specs.tool.engine.Steps.{Step, RunsBy, left_by, lacking_of, lacks_of, texts_of}
use Rattle.mst_questions.specs.tool.engine.report.State.{IsState, empty_state}
use Rattle.mst_questions.proofs.tool_lemmas.engine_lemmas.Steps.{runs-none}
use Rattle.mst_questions.specs.tool.engine.print.Shape.{of_script}
use Rattle.mst_questions.specs.tool.engine.print.declared.form.Form.{Form}
use Rattle.mst_questions.specs.tool.engine.print.declared.form.Shape.{Shape}
use Rattle.mst_questions.specs.tool.Load.{LoadsEnded, LoadsScript}
use Rattle.mst_ask.specs.Answering.{IsBegun, IsLeft, IsScript, LoadsLines}
use Rattle.mst_ask.specs.Asking.{Begins, LoadsFront}
use Rattle.mst_ask.specs.Lines.{lines_in}
use Rattle.mst_ask.specs.Opening.{Leaves, MayOpen, Opens, OpensNot, OpensWhole, PrintsWhole}
use Rattle.mst_ask.specs.declared.questions.Asking.{Asking}
use Rattle.mst_ask.specs.declared.script.Script.{Script}
use Rattle.mst_ask.proofs.Lines.{ended_then}
use Rattle.mst_ask.proofs.Loading.{AlwaysLoads, runs-append}

-- what the laws say: lines load in one way where the same of them lack memory, and a script where none does; it leaves a network with
-- its mark
abbrev pub OneLoad : Type 0
OneLoad = (shape : Shape) (lines : List (List ℕ)) (a b : List Step) → LoadsAll shape lines a → LoadsAll shape lines b → lacking_of a ≡ lacking_of b → a ≡ b

abbrev pub OneScript : Type 0
OneScript = (shape : Shape) (script : List ℕ) (a b : List Step) → LoadsAll shape (lines_of script) a → LoadsAll shape (lines_of script) b → lacks_of a ≡ 0 → lacks_of b ≡ 0 → a ≡ b

abbrev pub LeavesState : Type 0
LeavesState = (shape : Shape) (lines : List (List ℕ)) (steps : List Step) → LoadsAll shape lines steps → IsState (left_by empty_state steps)

pub record ScriptWays : Type 0 where
  pub loads : AlwaysLoads
  pub one_load : OneLoad
  pub one_script : OneScript
  pub states : LeavesState

pub script_ways : AlwaysLoads → OneLoad → OneScript → LeavesState → ScriptWays
script_ways loads one_load one_script states = record { loads = loads; one_load = one_load; one_script = one_script; states = states }

-- of no line there is no step
no_step : (shape : Shape) (s : Step) (loads : List Step) → LoadsAll shape [] (s ∷ loads) → ⊥
unfolding RunsBy
no_step shape s loads h = h

pub reads_all : (reads : Option (List ℕ)) → Reads reads (unwrap_or reads [])
reads_all None = tt
reads_all (Some bytes) = refl

module _ (ways : ScriptWays) (form : Form) where
  empty_is : IsState empty_state
  empty_is = ways.states (of_script form) [] [] (runs-none (Loads (of_script form) (version_of [])) 1 empty_state)

  all_lines : (scripts : Option (List ℕ)) (script : List ℕ) (loads : List Step) → Reads scripts script → LoadsAll (of_script form) (lines_of script) loads → LoadsScript (of_script form) scripts (texts_of loads)
  all_lines scripts script loads read loaded = record {
    script = script;
    steps = loads;
    read = read;
    loads = loaded;
    printed = refl;
    only = λ others again. ways.one_load (of_script form) (lines_of script) others loads again loaded;
  }

  -- nothing was written
  pub nothing_loaded : (scripts written : Option (List ℕ)) → Wrote written written (LoadsFront form scripts)
  nothing_loaded scripts written =
      let script = unwrap_or scripts [] in
      let all = ways.loads (of_script form) (version_of (lines_of script)) 1 empty_state (lines_of script) empty_is in
      ([], (texts_of all.0, all_lines scripts script all.0 (reads_all scripts) all.1), Appends-nil written)

  -- lines behind those that were loaded
  more_lines : (first others : List (List ℕ)) (loads : List Step) → LoadsAll (of_script form) first loads → (more : List Step) × LoadsAll (of_script form) (first ++ others) (loads ++ more)
  more_lines [] others [] loaded = let all = ways.loads (of_script form) (version_of others) 1 empty_state others empty_is in (all.0, all.1)
  more_lines [] others (s ∷ loads) loaded = absurd (no_step (of_script form) s loads loaded)
  more_lines (x ∷ xs) others loads loaded =
      let version = version_of (x ∷ xs) in
      let more = ways.loads (of_script form) version (1 + length (x ∷ xs)) (left_by empty_state loads) others (ways.states (of_script form) (x ∷ xs) loads loaded) in
      (more.0, runs-append (Loads (of_script form) version) 1 empty_state (x ∷ xs) others loads more.0 loaded more.1)

  -- what some lines print is a front of what all of them print
  some_lines : (scripts left : Option (List ℕ)) (bytes : List ℕ) (loads : List Step) → Consumes scripts left bytes → LoadsAll (of_script form) (ended_lines bytes) loads → LoadsFront form scripts (texts_of loads)
  some_lines scripts left bytes loads consumed loaded =
      let rest = unwrap_or left [] in
      let then = ended_then bytes rest [] in
      let more = more_lines (ended_lines bytes) then.0 loads loaded in (
        texts_of more.0,
        subst (LoadsScript (of_script form) scripts) (flat_map-append (λ (s : Step). s.text) loads more.0)
            (all_lines scripts (bytes ++ rest) (loads ++ more.0) (Reads-rest scripts left bytes consumed) (subst (λ lines. LoadsAll (of_script form) lines (loads ++ more.0)) (sym then.1) more.1)),
      )

  -- a front of it is one of the whole
  pub longer_front : (scripts written now : Option (List ℕ)) → WroteFront written now (LoadsFront form scripts) → WroteFront written now (LoadsScript (of_script form) scripts)
  longer_front scripts written now w = (w.0 ++ (w.1).0, (w.1).1, AppendsFront-longer written now w.0 (w.1).0 w.2)

  module _ (turns : ℕ) (scripts left : Option (List ℕ)) (old new : Told) (script : Script) (is : IsScript turns scripts left old new script) where
    -- what the lines print that are known
    lines_front : (text : List ℕ) → LoadsLines form (lines_in script.is_whole script.bytes.items) text → LoadsFront form scripts text
    lines_front text l = by script.is_whole refl l
      where
        by : (whole : Bool) → script.is_whole ≡ whole → LoadsLines form (lines_in whole script.bytes.items) text → LoadsFront form scripts text
        by true e l =
            ([], subst (LoadsScript (of_script form) scripts) (sym l.printed ∙ sym (append-nil text)) (all_lines scripts script.bytes.items l.loads (Reads-all scripts left script.bytes.items is.consumed (is.whole e).0) l.loaded))
        by false e l = subst (LoadsFront form scripts) (sym l.printed) (some_lines scripts left script.bytes.items l.loads is.consumed l.loaded)

    -- all of them, and the end of that
    abbrev whole_begins : script.is_whole ≡ true → (text : List ℕ) → PrintsWhole form script.bytes.items text → Begins form scripts text
    whole_begins whole text p = record {
      script = script.bytes.items;
      loads = p.loads;
      script_read = Reads-all scripts left script.bytes.items is.consumed (is.whole whole).0;
      loaded = p.loaded;
      full = p.full;
      printed = p.printed;
      only_script = λ others again too. ways.one_script (of_script form) script.bytes.items others p.loads again p.loaded too p.full;
    }

    -- those that were complete
    lines_ended : script.is_whole ≡ false → (text : List ℕ) → LoadsLines form (lines_in script.is_whole script.bytes.items) text → LoadsEnded (of_script form) scripts left text
    lines_ended cut text printed =
        let p = subst (λ whole. LoadsLines form (lines_in whole script.bytes.items) text) cut printed in
        record {
          read = script.bytes.items;
          steps = p.loads;
          consumed = is.consumed;
          loads = p.loaded;
          printed = p.printed;
          only = λ others again. ways.one_load (of_script form) (ended_lines script.bytes.items) others p.loads again p.loaded;
        }

    module _ (written now : Option (List ℕ)) where
      lines_may : Wrote written now (LoadsLines form (lines_in script.is_whole script.bytes.items)) → WroteFront written now (MayOpen form scripts)
      lines_may w = front_as written now _ _ (λ text h. inl h) (longer_front scripts written now (wrote_front written now _ (wrote_as written now _ _ lines_front w)))

      -- why it wasn't loaded
      pub open_front : (fault : RunFault) → OpensNot form script written now fault → WroteFront written now (MayOpen form scripts)
      open_front Read o = lines_may o.1
      open_front Write o = by ((o.1).0) ((o.1).1) ((o.1).2)
        where
          by : (text : List ℕ) → LoadsLines form (lines_in script.is_whole script.bytes.items) text ⊎ ((script.is_whole ≡ true) × PrintsWhole form script.bytes.items text) → AppendsFront written now text → WroteFront written now (MayOpen form scripts)
          by text (inl l) front = front_as written now _ _ (λ text h. inl h) (longer_front scripts written now (text, lines_front text l, front))
          by text (inr p) front = (text, inr (whole_begins p.0 text p.1), front)
      open_front Memory o = lines_may o.1

      pub open_ended : (fault : RunFault) → fault ≡ Read → OpensNot form script written now fault → Wrote written now (LoadsEnded (of_script form) scripts left)
      open_ended Read e o = wrote_as written now _ _ (lines_ended o.0) o.1
      open_ended Write e o = absurd (cc)
      open_ended Memory e o = absurd (cc)

      pub open_starved : (fault : RunFault) → fault ≡ Memory → OpensNot form script written now fault → Wrote written now (LoadsFront form scripts)
      open_starved Read e o = absurd (cc)
      open_starved Write e o = absurd (cc)
      open_starved Memory e o = wrote_as written now _ _ lines_front o.1

      -- it was
      pub opens : (asking : Asking) → OpensWhole form script written now asking → Wrote written now (Opens form scripts asking)
      opens asking o = let w = o.1 in (w.0, (whole_begins o.0 w.0 (w.1).0, (w.1).1), w.2)

-- ---- the devices
-- a sink that wasn't called
still : (k : Told) → k.failed ≡ false → Works k k
still k working = record { working = working; taken = refl; each = omega arith }

-- it isn't read on for want of memory
pub left_turned : (turns : ℕ) (source : Turning) (sink : Seen) → IsLeft turns source.before.told source.now.told → IsCalled turns source.before.told source.now.told → source.now.lent ≡ source.before.lent → sink.told.failed ≡ false → Turned turns (source ∷ []) sink sink (Some Memory)
left_turned turns source sink l calls lent working =
    let k = sink.told in
    record {
      ended = λ e. absurd (cc);
      order = (tt, tt);
      called = (calls, lent, tt);
      read_fault = (λ e. absurd (cc), λ h. absurd (by h.0));
      write_fault = (λ e. absurd (cc), λ broken. absurd (works_unbroken k k (still k working) broken));
      works = λ other. still k working;
      sink_calls = stops_working k k (still k working);
      lent_sink = refl;
      none = λ e. absurd (omega (arith, e, l.some));
    }
  where
    not_both : (b : Bool) → b ≡ true → b ≡ false → ⊥
    not_both b p q = cc

    by : IsCut turns source.before.told source.now.told ⊎ ⊥ → ⊥
    by (inl (inl failed)) = not_both source.now.told.failed failed l.works.working
    by (inl (inr all)) = omega (arith, l.few, all.0)
    by (inr none) = none

module _ (form : Form) (turns : ℕ) (scripts left written now : Option (List ℕ)) (script : Script) (source : Turning) (sink sink_now : Seen) (is : IsScript turns scripts left source.before.told source.now.told script) (calls : IsCalled turns source.before.told source.now.told)
    (lent : source.now.lent ≡ source.before.lent) (lent_sink : sink_now.lent ≡ sink.lent) where
  -- so some turns there were
  some_turn : IsBegun script → turns ≡ 0 → ⊥
  some_turn (inl some) e = omega (arith, some, is.few, e)
  some_turn (inr whole) e = omega (arith, (is.whole whole).1.some, calls.few, e)

  turned_by : (why : Option RunFault) → Halts turns source.before.told source.now.told sink.told sink_now.told why → StopsAtZero sink.told sink_now.told → (turns ≡ 0 → why ≡ Some Read) → Turned turns (source ∷ []) sink sink_now why
  turned_by why halts stops none = turned_one turns source sink sink_now why halts calls stops lent lent_sink none

  pub open_stopped : (fault : RunFault) → OpensNot form script written now fault → Leaves sink.told sink_now.told (Some fault) → Turned turns (source ∷ []) sink sink_now (Some fault)
  open_stopped Read o works = turned_by (Some Read) (is.cut o.0, works) (stops_working sink.told sink_now.told works) (λ e. refl)
  open_stopped Write o stops = turned_by (Some Write) stops.broken stops.calls (λ e. absurd (some_turn o.0 e))
  open_stopped Memory o works = turned_by (Some Memory) ((is.whole o.0).1, works) (stops_working sink.told sink_now.told works) (λ e. absurd (some_turn (inr o.0) e))

  pub open_turned : script.is_whole ≡ true → Works sink.told sink_now.told → Turned turns (source ∷ []) sink sink_now None
  open_turned whole works = turned_by None ((is.whole whole).1, works) (stops_working sink.told sink_now.told works) (λ e. absurd (some_turn (inr whole) e))
