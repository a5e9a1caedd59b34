-- What telling the networks of two scripts apart has printed, by what serving each script has.
use Rattle.std.proofs.Common.{◌≡◌, ℕ, Bool, cond, List, [], ◌++◌, Option, None, refl, sym, ap, subst, ◌∙◌, arith, append-nil, inr}
use Rattle.std.specs.Io.KnownBytes.{Appends}
use Rattle.std.specs.Option.{unwrap_or}
use Rattle.std.proofs.KnownBytes.{Appends-trans}
use Rattle.mst_diff.specs.declared.diff.Differing.{Differing}
use Rattle.mst_lang.specs.Lines.{lines_of}
use Rattle.mst_tables.specs.Tables.{Net, IsNetwork}
use Rattle.mst_between.specs.Differing.{Differs}
use Rattle.mst_between.specs.Editing.{EditsTo}
use Rattle.mst_tool.specs.engine.report.State.{IsState, State, empty_state}
use Rattle.mst_between.specs.Diff.{CountsOf, LoadsBoth, LoadsNewEnded, old_net, new_net, TellsDifference, Diffs, DiffsScripts, counted_both, differing, differs_by, diff_row, edits_row}
use Rattle.mst_tool.specs.Load.{LoadsEnded}
use Rattle.mst_between.specs.declared.diffs.Between.{Between}
use Rattle.mst_between.specs.declared.diffs.Between.TheVariants.{Plans, Settings}
use Rattle.mst_tool.specs.engine.Engine.{Tally, outcome_of}
use Rattle.mst_tool.specs.engine.Script.{LoadsAll}
use Rattle.mst_tool.specs.engine.print.Shape.{of_old, of_new, shown}
use Rattle.mst_tool.specs.engine.Served.{Served, ServedEnded, Serves}
use Rattle.mst_tool.specs.engine.Steps.{Step, lacks_of, left_by, texts_of}
use Rattle.mst_drive.specs.Words.{Inputs, MayTell, Wrote, WroteFront}
use Rattle.mst_io.specs.declared.outcome.Outcome.{Outcome}
use Rattle.mst_io.specs.Written.{AppendsFront, Reads}
use Rattle.mst_tool.specs.engine.declared.engine.Input.TheVariants.{Network}
use Rattle.mst_tool.specs.engine.print.declared.form.Form.{Form}
use Rattle.mst_tool.specs.engine.print.declared.form.Shape.{Shape}
use Rattle.mst_io.proofs.Known.{AppendsFront-after, AppendsFront-longer}
use Rattle.mst_rows.specs.Rows.{Row}
use Rattle.mst_tool.proofs.Shown.{one_shown}
use Rattle.mst_tool.proofs.WholeCheck.{counted_of, reads_all}
use Rattle.mst_tool.proofs.WholeLoad.{OneLoad, LoadsStates, loads_ended}

-- the network of every script can be loaded without want of memory
abbrev pub HasLoad : Type 0
HasLoad = (shape : Shape) (script : List ℕ) → (steps : List Step) × LoadsAll shape (lines_of script) steps × (lacks_of steps ≡ 0)

-- two networks differ in one way
abbrev pub OneDifference : Type 0
OneDifference = (old new : Net) (c d : Differing) (rows other : List Row) → IsNetwork old → IsNetwork new → Differs old new c rows → Differs old new d other → (rows ≡ other) × (c ≡ d)

-- and there is one
abbrev pub SomeDifference : Type 0
SomeDifference = (old new : Net) → IsNetwork old → IsNetwork new → (counts : Differing) × (rows : List Row) × Differs old new counts rows

-- so are the edits between them, and there are some, or none is needed
one_edits : (old new : Net) (c d : Bool) (rows other : List Row) → EditsTo old new c rows → EditsTo old new d other → (rows ≡ other) × (c ≡ d)
one_edits old new c d rows other h k = (h.are ∙ sym k.are, h.some ∙ sym k.some)

some_edits : (old new : Net) → (differs : Bool) × (rows : List Row) × EditsTo old new differs rows
some_edits old new = (_, _, record { some = refl; are = refl })

-- what is told between two networks is one text, and there is one
pub record Laws : Type 0 where
  pub one : OneDifference
  pub some : SomeDifference

one_between : Laws → (between : Between) (form : Form) (old new : Net) (c d : CountsOf between) (a b : List ℕ) → IsNetwork old → IsNetwork new → TellsDifference between form old new c a → TellsDifference between form old new d b → (d ≡ c) × (b ≡ a)
one_between laws Plans form old new c d a b is_old is_new h k =
    let same = one_shown form diff_row (Differs old new d) (Differs old new c) (d ≡ c) (λ rows other p q. laws.one old new d c rows other is_old is_new p q) b a k h in
    (same.1, same.0)
one_between laws Settings form old new c d a b is_old is_new h k =
    let same = one_shown form edits_row (EditsTo old new d) (EditsTo old new c) (d ≡ c) (one_edits old new d c) b a k h in
    (same.1, same.0)

some_between : Laws → (between : Between) (form : Form) (old new : Net) → IsNetwork old → IsNetwork new → (counts : CountsOf between) × (text : List ℕ) × TellsDifference between form old new counts text
some_between laws Plans form old new is_old is_new = let some = laws.some old new is_old is_new in (some.0, shown form None diff_row some.1, (some.1, some.2, refl))
some_between laws Settings form old new is_old is_new = let some = some_edits old new in (some.0, shown form None edits_row some.1, (some.1, some.2, refl))

-- what tells how two networks differ, and what shows it
pub difference_shown : (form : Form) (old new settled_old settled_new : Net) (counts : Differing) (rows : List Row) (printed : List ℕ) → settled_old ≡ old → settled_new ≡ new → Differs settled_old settled_new counts rows → printed ≡ shown form None diff_row rows
    → TellsDifference Plans form old new counts printed
difference_shown form old new settled_old settled_new counts rows printed same_old same_new h e =
    (rows, subst (λ net. Differs old net counts rows) same_new (subst (λ net. Differs net settled_new counts rows) same_old h), e)

-- both scripts, each with no other steps that lack memory at the same lines
abbrev both_of : OneLoad → (form : Form) (olds news : Option (List ℕ)) (old new : List ℕ) (old_steps new_steps : List Step) → Reads olds old → Reads news new → LoadsAll (of_old form) (lines_of old) old_steps → LoadsAll (of_new form) (lines_of new) new_steps
    → LoadsBoth form olds news
both_of one form olds news old new old_steps new_steps old_read new_read old_loads new_loads = record {
  old = old;
  new = new;
  old_steps = old_steps;
  new_steps = new_steps;
  old_read = old_read;
  new_read = new_read;
  old_loads = old_loads;
  new_loads = new_loads;
  only_old = λ others loads. one (of_old form) (lines_of old) others old_steps loads old_loads;
  only_new = λ others loads. one (of_new form) (lines_of new) others new_steps loads new_loads;
}

-- how their networks differ is told in one way
one_told : Laws → LoadsStates → (between : Between) (form : Form) (olds news : Option (List ℕ)) (both : LoadsBoth form olds news) (counts : CountsOf between) (text : List ℕ) → TellsDifference between form (old_net both) (new_net both) counts text
    → (also : CountsOf between) (other : List ℕ) → TellsDifference between form (old_net both) (new_net both) also other → (also ≡ counts) × (other ≡ text)
one_told laws states between form olds news both counts text told also other k =
    let old = states (of_old form) (lines_of both.old) both.old_steps both.old_loads in
    let new = states (of_new form) (lines_of both.new) both.new_steps both.new_loads in
    one_between laws between form (old_net both) (new_net both) counts also text other old.network new.network told k

-- what telling them apart prints, by what serving each script has
pub diffs : Laws → OneLoad → LoadsStates → (between : Between) (form : Form) (olds news : Option (List ℕ)) (a b : List ℕ) (t u : Tally) (counts : CountsOf between) (answer : List ℕ) (differs : Bool) → TellsDifference between form t.state.net u.state.net counts answer
    → differs ≡ differs_by between counts → Served (Network (of_old form)) empty_state olds a t → Served (Network (of_new form)) empty_state news b u → Diffs between form olds news ((a ++ b) ++ answer) (counted_both (outcome_of t) (outcome_of u) differs)
diffs laws one states between form olds news a b t u counts answer differs h is s r =
    let both = both_of one form olds news s.bytes r.bytes s.steps r.steps s.read r.read s.runs r.runs in
    let left : TellsDifference between form (old_net both) (new_net both) counts answer =
    subst (λ (left : State). TellsDifference between form (old_net both) left.net counts answer) r.state (subst (λ (left : State). TellsDifference between form left.net u.state.net counts answer) s.state h) in
    record {
      both = both;
      counts = counts;
      answer = answer;
      differs = left;
      printed = λ i. (s.printed i ++ r.printed i) ++ answer;
      memory = omega (arith, s.memory, r.memory);
      refused = omega (arith, s.refused, r.refused);
      differing = ap (λ b. cond b 1 0) is;
      only_difference = one_told laws states between form olds news both counts answer left;
    }

-- there is something to tell, whatever both scripts are
some_diffs : Laws → OneLoad → LoadsStates → (between : Between) (form : Form) (olds news : Option (List ℕ)) (a b : List ℕ) (t u : Tally) → Served (Network (of_old form)) empty_state olds a t → Served (Network (of_new form)) empty_state news b u
    → (answer : List ℕ) × (outcome : Outcome) × Diffs between form olds news ((a ++ b) ++ answer) outcome
some_diffs laws one states between form olds news a b t u s r =
    let old = subst IsState (sym s.state) (states (of_old form) (lines_of s.bytes) s.steps s.runs) in
    let new = subst IsState (sym r.state) (states (of_new form) (lines_of r.bytes) r.steps r.runs) in
    let some = some_between laws between form t.state.net u.state.net old.network new.network in
    (some.1, _, diffs laws one states between form olds news a b t u some.0 some.1 (differs_by between some.0) some.2 refl s r)

-- a script that was never read can be loaded
loaded : HasLoad → (shape : Shape) (reads : Option (List ℕ)) → (text : List ℕ) × (t : Tally) × Served (Network shape) empty_state reads text t
loaded has shape reads =
    let bytes = unwrap_or reads [] in
    let more = has shape bytes in
    (texts_of more.0, counted_of (left_by empty_state more.0) more.0, record { bytes = bytes; steps = more.0; read = reads_all reads; runs = more.1; printed = refl; state = refl; memory = refl; refused = refl; differing = refl; answered = refl })

-- an old script was served, and what was read of a new one
pub new_loads_ended : OneLoad → (form : Form) (olds news left : Option (List ℕ)) (a b : List ℕ) (t : Tally) → Served (Network (of_old form)) empty_state olds a t → LoadsEnded (of_new form) news left b → LoadsNewEnded form olds news left (a ++ b)
new_loads_ended one form olds news left a b t s r = record {
  old = s.bytes;
  read = r.read;
  old_steps = s.steps;
  new_steps = r.steps;
  old_read = s.read;
  consumed = r.consumed;
  old_loads = s.runs;
  new_loads = r.loads;
  printed = λ i. s.printed i ++ r.printed i;
  only_old = λ others loads. one (of_old form) (lines_of s.bytes) others s.steps loads s.runs;
  only_new = r.only;
}

module _ (laws : Laws) (one : OneLoad) (states : LoadsStates) (between : Between) (form : Form) (given left : Inputs) (written now : Option (List ℕ)) where
  -- one that was stopped in the old script
  pub front_in_old : HasLoad → WroteFront written now (Serves (Network (of_old form)) empty_state given.first) → WroteFront written now (MayTell (differing between form) given)
  front_in_old has (a, (t, s), front) =
      let new = loaded has (of_new form) given.second in
      let some = some_diffs laws one states between form given.first given.second a new.0 t new.1 s new.2 in
      ((a ++ new.0) ++ some.0, inr (some.1, some.2), AppendsFront-longer written now (a ++ new.0) some.0 (AppendsFront-longer written now a new.0 front))

  module _ (mid : Option (List ℕ)) (t : Tally) (old : Wrote written mid (λ text. Served (Network (of_old form)) empty_state given.first text t)) where
    -- one that was stopped in the new script
    pub front_in_new : WroteFront mid now (Serves (Network (of_new form)) empty_state given.second) → WroteFront written now (MayTell (differing between form) given)
    front_in_new (b, (u, r), front) =
        let some = some_diffs laws one states between form given.first given.second old.0 b t u old.1 r in
        ((old.0 ++ b) ++ some.0, inr (some.1, some.2), AppendsFront-longer written now (old.0 ++ b) some.0 (AppendsFront-after written mid now old.0 b old.2 front))

    -- and there by its reader
    pub new_ended : Wrote mid now (ServedEnded (Network (of_new form)) empty_state given.second left.second) → Wrote written now ((differing between form).cut given left)
    new_ended (b, r, went) = (old.0 ++ b, inr (new_loads_ended one form given.first given.second left.second old.0 b t old.1 (loads_ended one (of_new form) given.second left.second b r)), Appends-trans written mid now old.0 b old.2 went)

    module _ (end : Option (List ℕ)) (u : Tally) (new : Wrote mid end (λ text. Served (Network (of_new form)) empty_state given.second text u)) where
      both_printed : Appends written end (old.0 ++ new.0)
      both_printed = Appends-trans written mid end old.0 new.0 old.2 new.2

      -- there was no memory to tell them apart
      pub both_scripts : Wrote written end (DiffsScripts form given.first given.second)
      both_scripts = (
        old.0 ++ new.0,
        record { both = both_of one form given.first given.second (old.1).bytes (new.1).bytes (old.1).steps (new.1).steps (old.1).read (new.1).read (old.1).runs (new.1).runs; printed = λ i. (old.1).printed i ++ (new.1).printed i },
        both_printed,
      )

      pub both_front : WroteFront written end (MayTell (differing between form) given)
      both_front =
          let some = some_diffs laws one states between form given.first given.second old.0 new.0 t u old.1 new.1 in
          ((old.0 ++ new.0) ++ some.0, inr (some.1, some.2), AppendsFront-longer written end (old.0 ++ new.0) some.0 (record { front = old.0 ++ new.0; rest = []; whole = sym (append-nil (old.0 ++ new.0)); written = both_printed }))

      module _ (counts : CountsOf between) (answer : List ℕ) (differs : Bool) (h : TellsDifference between form t.state.net u.state.net counts answer) (is : differs ≡ differs_by between counts) where
        pub diffs_front : AppendsFront end now answer → WroteFront written now (MayTell (differing between form) given)
        diffs_front front = ((old.0 ++ new.0) ++ answer, inr (_, diffs laws one states between form given.first given.second old.0 new.0 t u counts answer differs h is old.1 new.1), AppendsFront-after written end now (old.0 ++ new.0) answer both_printed front)

        pub diffs_whole : Appends end now answer → Wrote written now (λ text. Diffs between form given.first given.second text (counted_both (outcome_of t) (outcome_of u) differs))
        diffs_whole went = ((old.0 ++ new.0) ++ answer, diffs laws one states between form given.first given.second old.0 new.0 t u counts answer differs h is old.1 new.1, Appends-trans written end now (old.0 ++ new.0) answer both_printed went)
