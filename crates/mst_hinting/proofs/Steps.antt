-- How the hints of what goes through a source stand from step to step.
use Rattle.std.proofs.Common.{◌≡◌, ◌||◌, ℕ, ◌+◌, ◌<◌, true, false, Bool, List, [], ◌∷◌, ◌++◌, length, take, Option, Some, None, Result, Ok, Err, refl, sym, ap, subst, ◌∙◌, arith, inl, inr, ◌⊎◌, append_assoc, append-nil, if◌then◌else◌}
use Rattle.std.proofs.lemmas.Grind.{common_steps}
use Rattle.std.proofs.lemmas.List.{append_cancel_left}
use Rattle.std.specs.Option.{unwrap_or}
use Rattle.std.specs.Io.KnownBytes.{Appends, Consumes, ReadConsumes, IsAtEnd}
use Rattle.std.proofs.KnownBytes.{Appends-nil, Appends-trans, Consumes-nil, Consumes-trans}
use Rattle.mst_lang.specs.Lines.{lines_of, last_line}
use Rattle.mst_hinting.specs.Lines.{nothing, hints_from, hints_of}
use Rattle.mst_hinting.specs.Kept.{IsKept}
use Rattle.mst_hints.specs.declared.whose.Script.{Script}
use Rattle.mst_io.specs.Devices.{Seen, Works, called, given, is_zero}
use Rattle.mst_io.specs.Held.{lines_held}
use Rattle.mst_io.specs.Written.{AppendsFront, Reads}
use Rattle.mst_io.specs.declared.devices.Failed.{Failed}
use Rattle.mst_io.specs.declared.outcome.RunFault.{RunFault}
use Rattle.mst_io.specs.declared.outcome.RunFault.TheVariants.{Write, Memory}
use Rattle.mst_io.proofs.Calls.{works_both, broken_after, stops_after}
use Rattle.mst_io.proofs.Known.{AppendsFront-after, AppendsFront-longer}
use Rattle.mst_io.proofs.ReadBytes.{Reads-rest, Reads-all, Consumes-kept}
use Rattle.mst_hinting.specs.Hinted.{Hints, HintsFront, HintsEnded, Tells}
use Rattle.mst_hinting.specs.Listening.{StoppedBy, AreTold, AreStopped, Closed, Finds, IsTelling, StandsIn, Stands, first_state, is_on, answer_of, ends_by, Wrote, Heard, Ended, IsOut, IsLost, IsHeard, IsLast}
use Rattle.mst_hinting.specs.declared.telling.State.{State}
use Rattle.mst_hinting.specs.declared.telling.State.TheVariants.{Off, On, Stopped}
use Rattle.mst_hinting.specs.declared.telling.Telling.{Telling}
use Rattle.mst_hinting.proofs.Tells.{told_nothing, told_as, Tells-nil, Tells-join, hints_whole, hints_ended, hints_begun}

-- ---- cases
not_both : (b : Bool) → b ≡ true → b ≡ false → ⊥
not_both b p q = cc

either : (b : Bool) → (b ≡ true) ⊎ (b ≡ false)
either true = inl refl
either false = inr refl

abbrev Cases : State → Type 0
Cases state = (state ≡ Off) ⊎ ((state ≡ On) ⊎ ((fault : RunFault) × (state ≡ Stopped fault)))

cases : (state : State) → Cases state
cases Off = inl refl
cases On = inr (inl refl)
cases (Stopped fault) = inr (inr (fault, refl))

-- ---- what was written
-- a text is a front of the hints of the script that the source has
record Fronts (of : Script) (source : Seen) (text : List ℕ) : Type 0 where
  script : List ℕ
  read : Reads source.bytes script
  rest : List ℕ
  whole : hints_of of (lines_of script) ≡ text ++ rest

-- what was told of what was read is
fronts : (of : Script) (s a e m : Seen) (read : List ℕ) (t : Telling) → (is : IsTelling of s a e m read t) → Fronts of s (is.told ++ t.text.items)
fronts of s a e m read t is =
    let more = unwrap_or a.bytes [] in
    record {
      script = read ++ more;
      read = Reads-rest s.bytes a.bytes read is.consumed;
      rest = hints_from is.past (lines_held last_line t.held more);
      whole = hints_begun of read more t.held (is.told ++ t.text.items) is.past is.tells;
    }

front_written : (of : Script) (s e m n : Seen) (told text : List ℕ) → Fronts of s (told ++ text) → Appends e.bytes m.bytes told → AppendsFront m.bytes n.bytes text → HintsFront of s.bytes e.bytes n.bytes
front_written of s e m n told text f went rest = record {
  script = f.script;
  read = f.read;
  printed = subst (AppendsFront e.bytes n.bytes) (sym f.whole)
      (AppendsFront-longer e.bytes n.bytes (told ++ text) f.rest (AppendsFront-after e.bytes m.bytes n.bytes told text went rest));
}

-- nothing more was
front_left : (of : Script) (s e m : Seen) (told text : List ℕ) → Fronts of s (told ++ text) → Appends e.bytes m.bytes told → HintsFront of s.bytes e.bytes m.bytes
front_left of s e m told text f went =
    front_written of s e m m told text f went (record { front = []; rest = text; whole = refl; written = Appends-nil m.bytes })

-- how the sink stands
by_after : (e m n : Seen) → (e.told.failed ≡ false → Works e.told m.told) → (e.told.failed ≡ true → m ≡ e) → StoppedBy Write m.told n.told → StoppedBy Write e.told n.told
by_after e m n works idle by =
    elim (either e.told.failed) [
      | inl failed ↦ subst (λ x. StoppedBy Write x.told n.told) (idle failed) by
      | inr working ↦ let w = works working in
          elim by as (λ b. StoppedBy Write e.told n.told) [
            | inl before ↦ absurd (not_both m.told.failed before.0 w.working)
            | inr now ↦ inr (record { broken = broken_after e.told m.told n.told w now.broken; calls = stops_after e.told m.told n.told w now.calls })
          ]
    ]

works_now : (e m : Seen) → (e.told.failed ≡ false → Works e.told m.told) → (e.told.failed ≡ true → m ≡ e) → m.told.failed ≡ false → Works e.told m.told
works_now e m works idle working =
    elim (either e.told.failed) [
      | inl failed ↦ absurd (not_both m.told.failed (ap (λ x. x.told.failed) (idle failed) ∙ failed) working)
      | inr before ↦ works before
    ]

-- what was still to be written, or a front of it
pub written_before : (e m : Seen) (old new : Telling) → Wrote e m old new → AppendsFront e.bytes m.bytes old.text.items
written_before e m old new wrote =
    elim (either (is_on old.state)) [
      | inl on ↦ elim (wrote.on on) as (λ w. AppendsFront e.bytes m.bytes old.text.items) [
        | inl out ↦ record { front = old.text.items; rest = []; whole = sym (append-nil old.text.items); written = out.printed }
        | inr lost ↦ lost.printed
      ]
      | inr off ↦ subst (λ (x : Seen). AppendsFront e.bytes x.bytes old.text.items) (sym (wrote.idle off).1) (record { front = []; rest = old.text.items; whole = refl; written = Appends-nil e.bytes })
    ]

-- ---- the end of the source
is_zero_said : (count size : ℕ) → is_zero (Ok count) size ≡ true → (count ≡ 0) × (0 < size)
is_zero_said count size is = (grind (arith, common_steps), grind (arith, common_steps))

nothing_more : (a b : List ℕ) → a ++ b ≡ [] → a ≡ []
nothing_more [] b e = refl
nothing_more (x ∷ xs) b e = cc

-- where all of the script was read, no more comes
reads_still : (a b c : Option (List ℕ)) (read chunk : List ℕ) → Reads a read → Consumes a b read → Consumes b c chunk → Reads a (read ++ chunk)
reads_still None b c read chunk r p q = tt
reads_still (Some x) None c read chunk r p q = absurd p
reads_still (Some x) (Some y) None read chunk r p q = absurd q
reads_still (Some x) (Some y) (Some z) read chunk r p q =
    let none : y ≡ [] = append_cancel_left read y [] (sym p ∙ r ∙ sym (append-nil read)) in
    r ∙ sym (append-nil read) ∙ ap (λ l. read ++ l) (sym (nothing_more chunk z (sym q ∙ none)))

consumes_given : (a b c : Option (List ℕ)) (read buffer : List ℕ) (answer : Result ℕ Failed) → Consumes a b read → ReadConsumes b c answer buffer → Consumes a c (read ++ given answer buffer)
consumes_given a b c read buffer (Err e) p q = subst (Consumes a c) (sym (append-nil read)) (Consumes-kept a b c read p q)
consumes_given a b c read buffer (Ok count) p q = Consumes-trans a b c read (take count buffer) p q.0

finds_zero : (s a b : Seen) (read buffer : List ℕ) (count : ℕ) → Finds s a read false → a.told.failed ≡ false → is_zero (Ok count) (length buffer) ≡ true
    → Consumes s.bytes b.bytes (read ++ take count buffer) → (count ≡ 0 → 0 < length buffer → IsAtEnd b.bytes) → b.told ≡ called a.told (Ok count) (length buffer)
    → (s.told.zeros < b.told.zeros) × (b.told.failed ≡ false) × Reads s.bytes (read ++ take count buffer)
finds_zero s a b read buffer count f working is consumed end told =
    let none = is_zero_said count (length buffer) is in
    let more : b.told.zeros ≡ a.told.zeros + 1 = ap (λ t. t.zeros) told ∙ ap (λ z. a.told.zeros + (if z then 1 else 0)) is in (
      elim (f.unfound refl) as (λ u. s.told.zeros < b.told.zeros) [
        | inl same ↦ omega (arith, more, same)
        | inr failed ↦ absurd (not_both a.told.failed failed working)
      ],
      ap (λ t. t.failed) told,
      Reads-all s.bytes b.bytes (read ++ take count buffer) consumed (end none.0 none.1),
    )

finds_given : (s a b : Seen) (read buffer : List ℕ) (at_end : Bool) (count : ℕ) → Finds s a read at_end → a.told.failed ≡ false
    → Consumes s.bytes a.bytes read → ReadConsumes {E = Failed} a.bytes b.bytes (Ok count) buffer → b.told ≡ called a.told (Ok count) (length buffer)
    → Finds s b (read ++ take count buffer) (at_end || is_zero (Ok count) (length buffer))
finds_given s a b read buffer true count f working consumed gave told =
    let was = f.found refl in
    record {
      found = λ is. (omega (arith, was.0, ap (λ t. t.zeros) told), ap (λ t. t.failed) told, reads_still s.bytes a.bytes b.bytes read (take count buffer) was.2 consumed gave.0);
      unfound = λ is. absurd (not_both true refl is);
    }
finds_given s a b read buffer false count f working consumed gave told = record {
  found = λ is. finds_zero s a b read buffer count f working is (Consumes-trans s.bytes a.bytes b.bytes read (take count buffer) consumed gave.0) gave.1 told;
  unfound = λ is.
      let same : b.told.zeros ≡ a.told.zeros = ap (λ t. t.zeros) told ∙ ap (λ z. a.told.zeros + (if z then 1 else 0)) is ∙ omega arith in
      elim (f.unfound refl) as (λ u. (b.told.zeros ≡ s.told.zeros) ⊎ (b.told.failed ≡ true)) [
        | inl before ↦ inl (same ∙ before)
        | inr failed ↦ absurd (not_both a.told.failed failed working)
      ];
}

finds_on : (s a b : Seen) (read buffer : List ℕ) (at_end : Bool) (answer : Result ℕ Failed) → Finds s a read at_end → a.told.failed ≡ false
    → Consumes s.bytes a.bytes read → ReadConsumes a.bytes b.bytes answer buffer → b.told ≡ called a.told answer (length buffer)
    → Finds s b (read ++ given answer buffer) (ends_by at_end answer (length buffer))
finds_on s a b read buffer at_end (Err e) f working consumed gave told = record { found = λ is. absurd (not_both false is refl); unfound = λ is. inr (ap (λ t. t.failed) told) }
finds_on s a b read buffer at_end (Ok count) f working consumed gave told = finds_given s a b read buffer at_end count f working consumed gave told

-- ---- each step
on_is : (state : State) → is_on state ≡ true → state ≡ On
on_is Off is = absurd (not_both false is refl)
on_is On is = refl
on_is (Stopped fault) is = absurd (not_both false is refl)

-- a call that failed gave nothing
failed_none : (error : Failed) (buffer : List ℕ) (old new : Telling) → new.state ≡ old.state → new.hints ≡ old.hints → new.held ≡ old.held → new.text.items ≡ old.text.items → new.at_end ≡ false → Heard (Err error) buffer old new
failed_none error buffer old new state hints held text at_end = record {
  on = λ is. inl (record {
    on = state ∙ on_is old.state is;
    told = λ past kept.
        told_as past [] old.held old.held new.held old.hints new.hints old.text.items old.text.items new.text.items (sym hints) (sym held) (sym text)
        (told_nothing past old.held old.hints old.text.items kept);
    at_end = at_end;
  });
  idle = λ is. state;
}

pub heard_none : (answer : Result ℕ Failed) (error : Failed) (buffer : List ℕ) (old new : Telling) → answer ≡ Err error → new.state ≡ old.state → new.hints ≡ old.hints → new.held ≡ old.held → new.text.items ≡ old.text.items → new.at_end ≡ false → Heard answer buffer old new
heard_none answer error buffer old new is state hints held text at_end = subst (λ a. Heard a buffer old new) (sym is) (failed_none error buffer old new state hints held text at_end)

module _ (wanted : Bool) (of : Script) (s : Seen) (e : Seen) where
  telling_first : (t : Telling) → IsKept (nothing of) t.hints → t.held ≡ [] → t.text.items ≡ [] → t.at_end ≡ false → IsTelling of s s e e [] t
  telling_first t kept held text at_end = record {
    past = nothing of;
    told = [];
    consumed = Consumes-nil s.bytes;
    finds = record { found = λ is. absurd (not_both t.at_end is at_end); unfound = λ is. inl refl };
    tells = subst (λ l. Tells (nothing of) [] [] (nothing of) l t.text.items) (sym held) (subst (Tells (nothing of) [] [] (nothing of) []) (sym text) (Tells-nil (nothing of) []));
    kept = kept;
    written = Appends-nil e.bytes;
    works = λ before. record { working = before; taken = refl; each = omega arith };
    idle = λ failed. refl;
  }

  -- what was still to be written was
  telling_out : (a m n : Seen) (read : List ℕ) (old new : Telling) → IsTelling of s a e m read old → IsOut m n old new → IsTelling of s a e n read new
  telling_out a m n read old new was out = record {
    past = was.past;
    told = was.told ++ old.text.items;
    consumed = was.consumed;
    finds = subst (Finds s a read) (sym out.at_end) was.finds;
    tells = subst (λ held. Tells (nothing of) [] read was.past held ((was.told ++ old.text.items) ++ new.text.items)) (sym out.held)
        (subst (Tells (nothing of) [] read was.past old.held) (sym (append-nil (was.told ++ old.text.items)) ∙ ap (λ l. (was.told ++ old.text.items) ++ l) (sym out.text)) was.tells);
    kept = subst (IsKept was.past) (sym out.hints) was.kept;
    written = Appends-trans e.bytes m.bytes n.bytes was.told old.text.items was.written out.printed;
    works = λ before. works_both e.told m.told n.told (was.works before) out.works;
    idle = λ failed. absurd (not_both m.told.failed (ap (λ x. x.told.failed) (was.idle failed) ∙ failed) out.working);
  }

  telling_lost : (a m n : Seen) (read : List ℕ) (old new : Telling) → IsTelling of s a e m read old → IsLost m n old new → AreStopped of s e n Write
  telling_lost a m n read old new was lost = record {
    front = front_written of s e m n was.told old.text.items (fronts of s a e m read old was) was.written lost.printed;
    by = by_after e m n was.works was.idle lost.by;
  }

  written_by : (a m n : Seen) (read : List ℕ) (old new : Telling) → Cases old.state → Stands wanted of s a e m read old → Wrote m n old new → Stands wanted of s a e n read new
  written_by a m n read old new (inl off) stands wrote =
      let was = subst (λ x. StandsIn x wanted of s a e m read old) off stands in
      let idle = wrote.idle (ap is_on off) in
      subst (λ x. StandsIn x wanted of s a e n read new) (sym (idle.0 ∙ off)) (was.0, idle.1 ∙ was.1)
  written_by a m n read old new (inr (inl on)) stands wrote =
      let was = subst (λ x. StandsIn x wanted of s a e m read old) on stands in
      elim (wrote.on (ap is_on on)) as (λ w. Stands wanted of s a e n read new) [
        | inl out ↦ subst (λ x. StandsIn x wanted of s a e n read new) (sym out.on) (was.0, telling_out a m n read old new was.1 out)
        | inr lost ↦ subst (λ x. StandsIn x wanted of s a e n read new) (sym lost.stopped) (was.0, telling_lost a m n read old new was.1 lost)
      ]
  written_by a m n read old new (inr (inr stopped)) stands wrote =
      let was = subst (λ x. StandsIn x wanted of s a e m read old) stopped.1 stands in
      let idle = wrote.idle (ap is_on stopped.1) in
      subst (λ x. StandsIn x wanted of s a e n read new) (sym (idle.0 ∙ stopped.1)) (was.0, subst (λ x. AreStopped of s e x stopped.0) (sym idle.1) was.1)

  pub stands_written : (a m n : Seen) (read : List ℕ) (old new : Telling) → Stands wanted of s a e m read old → Wrote m n old new → Stands wanted of s a e n read new
  stands_written a m n read old new stands wrote = written_by a m n read old new (cases old.state) stands wrote

  -- a call's bytes were taken
  telling_heard : (a b m : Seen) (read buffer : List ℕ) (answer : Result ℕ Failed) (old new : Telling) → a.told.failed ≡ false → ReadConsumes a.bytes b.bytes answer buffer → b.told ≡ called a.told answer (length buffer)
      → IsTelling of s a e m read old → IsHeard answer buffer old new → IsTelling of s b e m (read ++ given answer buffer) new
  telling_heard a b m read buffer answer old new working gave told was heard =
      let more = heard.told was.past was.kept in
      let chunk = given answer buffer in
      record {
        past = more.now;
        told = was.told;
        consumed = consumes_given s.bytes a.bytes b.bytes read buffer answer was.consumed gave;
        finds = subst (Finds s b (read ++ chunk)) (sym heard.at_end) (finds_on s a b read buffer old.at_end answer was.finds working was.consumed gave told);
        tells = subst (Tells (nothing of) [] (read ++ chunk) more.now new.held) (append_assoc was.told old.text.items more.text ∙ ap (λ l. was.told ++ l) (sym more.appended))
            (Tells-join (nothing of) was.past more.now [] old.held new.held read chunk (was.told ++ old.text.items) more.text was.tells more.tells);
        kept = more.kept;
        written = was.written;
        works = was.works;
        idle = was.idle;
      }

  telling_lacks : (a m : Seen) (read : List ℕ) (old : Telling) → m.told.failed ≡ false → IsTelling of s a e m read old → AreStopped of s e m Memory
  telling_lacks a m read old working was = record {
    front = front_left of s e m was.told old.text.items (fronts of s a e m read old was) was.written;
    by = works_now e m was.works was.idle working;
  }

  heard_by : (a b m : Seen) (read buffer : List ℕ) (answer : Result ℕ Failed) (old new : Telling) → Cases old.state → a.told.failed ≡ false → ReadConsumes a.bytes b.bytes answer buffer → b.told ≡ called a.told answer (length buffer)
      → (is_on old.state ≡ true → m.told.failed ≡ false) → Stands wanted of s a e m read old → Heard answer buffer old new → Stands wanted of s b e m (read ++ given answer buffer) new
  heard_by a b m read buffer answer old new (inl off) working gave told sink stands heard =
      subst (λ x. StandsIn x wanted of s b e m (read ++ given answer buffer) new) (sym (heard.idle (ap is_on off) ∙ off)) (subst (λ x. StandsIn x wanted of s a e m read old) off stands)
  heard_by a b m read buffer answer old new (inr (inl on)) working gave told sink stands heard =
      let was = subst (λ x. StandsIn x wanted of s a e m read old) on stands in
      elim (heard.on (ap is_on on)) as (λ h. Stands wanted of s b e m (read ++ given answer buffer) new) [
        | inl is ↦ subst (λ x. StandsIn x wanted of s b e m (read ++ given answer buffer) new) (sym is.on) (was.0, telling_heard a b m read buffer answer old new working gave told was.1 is)
        | inr lacks ↦ subst (λ x. StandsIn x wanted of s b e m (read ++ given answer buffer) new) (sym lacks) (was.0, telling_lacks a m read old (sink (ap is_on on)) was.1)
      ]
  heard_by a b m read buffer answer old new (inr (inr stopped)) working gave told sink stands heard =
      subst (λ x. StandsIn x wanted of s b e m (read ++ given answer buffer) new) (sym (heard.idle (ap is_on stopped.1) ∙ stopped.1)) (subst (λ x. StandsIn x wanted of s a e m read old) stopped.1 stands)

  pub stands_heard : (a b m : Seen) (read buffer : List ℕ) (answer : Result ℕ Failed) (old new : Telling) → a.told.failed ≡ false → ReadConsumes a.bytes b.bytes answer buffer → b.told ≡ called a.told answer (length buffer)
      → (is_on old.state ≡ true → m.told.failed ≡ false) → Stands wanted of s a e m read old → Heard answer buffer old new → Stands wanted of s b e m (read ++ given answer buffer) new
  stands_heard a b m read buffer answer old new working gave told sink stands heard = heard_by a b m read buffer answer old new (cases old.state) working gave told sink stands heard

pub stands_first : (wanted : Bool) (of : Script) (s e : Seen) (t : Telling) → t.state ≡ first_state wanted → IsKept (nothing of) t.hints → t.held ≡ [] → t.text.items ≡ [] → t.at_end ≡ false → Stands wanted of s s e e [] t
stands_first true of s e t state kept held text at_end = subst (λ x. StandsIn x true of s s e e [] t) (sym state) (refl, telling_first true of s e t kept held text at_end)
stands_first false of s e t state kept held text at_end = subst (λ x. StandsIn x false of s s e e [] t) (sym state) (refl, refl)

-- what a sink that hints were written to tells, where they still are
on_by : (m n : Seen) (old new : Telling) → (b : Bool) → is_on old.state ≡ b → Wrote m n old new → is_on new.state ≡ true → n.told.failed ≡ false
on_by m n old new true was wrote on =
    elim (wrote.on was) as (λ w. n.told.failed ≡ false) [
      | inl out ↦ out.works.working
      | inr lost ↦ absurd (not_both (is_on new.state) on (ap is_on lost.stopped))
    ]
on_by m n old new false was wrote on = absurd (not_both (is_on old.state) (ap is_on (sym (wrote.idle was).0) ∙ on) was)

pub working_on : (m n : Seen) (old new : Telling) → Wrote m n old new → is_on new.state ≡ true → n.told.failed ≡ false
working_on m n old new wrote on = on_by m n old new (is_on old.state) refl wrote on

-- ---- the end of it
module _ (of : Script) (s a e : Seen) where
  told_whole : (n : Seen) (read : List ℕ) → (s.told.zeros < a.told.zeros) × (a.told.failed ≡ false) × Reads s.bytes read → Hints of s.bytes e.bytes n.bytes → Works e.told n.told → AreTold of s a e n
  told_whole n read found hints works = record {
    whole = λ is. hints;
    cut = λ turns is. absurd (elim is as (λ c. ⊥) [
      | inl failed ↦ not_both a.told.failed failed found.1
      | inr none ↦ omega (arith, found.0, none.1)
    ]);
    either = inl hints;
    works = works;
  }

  told_ended : (n : Seen) → (a.told.zeros ≡ s.told.zeros) ⊎ (a.told.failed ≡ true) → HintsEnded of s.bytes a.bytes e.bytes n.bytes → Works e.told n.told → AreTold of s a e n
  told_ended n unfound ended works = record {
    whole = λ is. absurd (elim unfound as (λ u. ⊥) [
      | inl same ↦ omega (arith, same, is.found)
      | inr failed ↦ not_both a.told.failed failed is.working
    ]);
    cut = λ turns is. ended;
    either = inr ended;
    works = works;
  }

  -- the last line, which no line feed had ended, wasn't taken
  closed_cut : (m n : Seen) (read : List ℕ) (t last : Telling) (result : Result (Unit {0}) RunFault) → m.told.failed ≡ false → t.at_end ≡ false → IsTelling of s a e m read t
      → IsOut m n t last ⊎ IsLost m n t last → result ≡ answer_of last.state → Closed true of s a e n result
  closed_cut m n read t last result working unended was (inl out) is =
      subst (Closed true of s a e n) (sym (is ∙ ap answer_of out.on))
      (told_ended n (was.finds.unfound unended) (record {
        read = read;
        consumed = was.consumed;
        printed = subst (Appends e.bytes n.bytes) (sym (hints_ended of read t.held (was.told ++ t.text.items) was.past was.tells))
            (Appends-trans e.bytes m.bytes n.bytes was.told t.text.items was.written out.printed);
      }) (works_both e.told m.told n.told (works_now e m was.works was.idle working) out.works))
  closed_cut m n read t last result working unended was (inr lost) is =
      subst (Closed true of s a e n) (sym (is ∙ ap answer_of lost.stopped)) (telling_lost true of s e a m n read t last was lost)

  -- it was
  closed_whole : (m n : Seen) (read : List ℕ) (t end last : Telling) (result : Result (Unit {0}) RunFault) → m.told.failed ≡ false → t.at_end ≡ true → IsTelling of s a e m read t → IsLast t end
      → IsOut m n end last ⊎ IsLost m n end last → result ≡ answer_of last.state → Closed true of s a e n result
  closed_whole m n read t end last result working at_end was taken (inl out) is =
      let found = was.finds.found at_end in
      let more = taken.told was.past was.kept in
      let all = hints_whole of read t.held (was.told ++ t.text.items) more.text was.past more.now was.tells more.tells ∙ append_assoc was.told t.text.items more.text ∙ ap (λ l. was.told ++ l) (sym more.appended) in
      subst (Closed true of s a e n) (sym (is ∙ ap answer_of out.on))
      (told_whole n read found (record {
        script = read;
        read = found.2;
        printed = subst (Appends e.bytes n.bytes) (sym all) (Appends-trans e.bytes m.bytes n.bytes was.told end.text.items was.written out.printed);
      }) (works_both e.told m.told n.told (works_now e m was.works was.idle working) out.works))
  closed_whole m n read t end last result working at_end was taken (inr lost) is =
      let found = was.finds.found at_end in
      let more = taken.told was.past was.kept in
      let all = hints_whole of read t.held (was.told ++ t.text.items) more.text was.past more.now was.tells more.tells ∙ append_assoc was.told t.text.items more.text ∙ ap (λ l. was.told ++ l) (sym more.appended) in
      subst (Closed true of s a e n) (sym (is ∙ ap answer_of lost.stopped)) (record {
        front = front_written of s e m n was.told end.text.items (record { script = read; read = found.2; rest = []; whole = all ∙ sym (append-nil (was.told ++ end.text.items)) }) was.written lost.printed;
        by = by_after e m n was.works was.idle lost.by;
      })

  -- nothing was written any more
  closed_idle : (m n : Seen) (end last : Telling) (fault : RunFault) (result : Result (Unit {0}) RunFault) → AreStopped of s e m fault → end.state ≡ Stopped fault → Wrote m n end last → result ≡ answer_of last.state → Closed true of s a e n result
  closed_idle m n end last fault result was stopped wrote is =
      let idle = wrote.idle (ap is_on stopped) in
      subst (Closed true of s a e n) (sym (is ∙ ap answer_of (idle.0 ∙ stopped))) (subst (λ x. AreStopped of s e x fault) (sym idle.1) was)

  closed_on : (m n : Seen) (read : List ℕ) (t end last : Telling) (result : Result (Unit {0}) RunFault) (b : Bool) → t.at_end ≡ b → t.state ≡ On → m.told.failed ≡ false → IsTelling of s a e m read t → Ended t end → Wrote m n end last → result ≡ answer_of last.state → Closed true of s a e n result
  closed_on m n read t end last result true at_end on working was ended wrote is =
      elim (ended.on (ap is_on on) at_end) as (λ o. Closed true of s a e n result) [
        | inl taken ↦ closed_whole m n read t end last result working at_end was taken (wrote.on (ap is_on taken.on)) is
        | inr lacks ↦ closed_idle m n end last Memory result (telling_lacks true of s e a m read t working was) lacks wrote is
      ]
  closed_on m n read t end last result false unended on working was ended wrote is =
      let same = ended.unended unended in
      let went : Wrote m n t last = subst (λ x. Wrote m n x last) same wrote in
      closed_cut m n read t last result working unended was (went.on (ap is_on on)) is

closed_by : (wanted : Bool) (of : Script) (s a e m n : Seen) (read : List ℕ) (t end last : Telling) (result : Result (Unit {0}) RunFault) → Cases t.state → (is_on t.state ≡ true → m.told.failed ≡ false)
    → Stands wanted of s a e m read t → Ended t end → Wrote m n end last → result ≡ answer_of last.state → Closed wanted of s a e n result
closed_by wanted of s a e m n read t end last result (inl off) working stands ended wrote is =
    let was = subst (λ x. StandsIn x wanted of s a e m read t) off stands in
    let still = ended.idle (ap is_on off) ∙ off in
    let idle = wrote.idle (ap is_on still) in
    subst (λ w. Closed w of s a e n result) (sym was.0) (idle.1 ∙ was.1, is ∙ ap answer_of (idle.0 ∙ still))
closed_by wanted of s a e m n read t end last result (inr (inl on)) working stands ended wrote is =
    let was = subst (λ x. StandsIn x wanted of s a e m read t) on stands in
    subst (λ w. Closed w of s a e n result) (sym was.0) (closed_on of s a e m n read t end last result t.at_end refl on (working (ap is_on on)) was.1 ended wrote is)
closed_by wanted of s a e m n read t end last result (inr (inr stopped)) working stands ended wrote is =
    let was = subst (λ x. StandsIn x wanted of s a e m read t) stopped.1 stands in
    subst (λ w. Closed w of s a e n result) (sym was.0) (closed_idle of s a e m n end last stopped.0 result was.1 (ended.idle (ap is_on stopped.1) ∙ stopped.1) wrote is)

closed : (wanted : Bool) (of : Script) (s a e m n : Seen) (read : List ℕ) (t end last : Telling) (result : Result (Unit {0}) RunFault) → (is_on t.state ≡ true → m.told.failed ≡ false)
    → Stands wanted of s a e m read t → Ended t end → Wrote m n end last → result ≡ answer_of last.state → Closed wanted of s a e n result
closed wanted of s a e m n read t end last result working stands ended wrote is = closed_by wanted of s a e m n read t end last result (cases t.state) working stands ended wrote is

-- what is left is written, the last line is taken, and what is left then is written
pub finishes : (wanted : Bool) (of : Script) (s a e k m n : Seen) (read : List ℕ) (first t end last : Telling) (result : Result (Unit {0}) RunFault)
    → Stands wanted of s a e k read first → Wrote k m first t → Ended t end → Wrote m n end last → result ≡ answer_of last.state → Closed wanted of s a e n result
finishes wanted of s a e k m n read first t end last result stands wrote ended went is =
    closed wanted of s a e m n read t end last result (working_on k m first t wrote) (stands_written wanted of s e a k m read first t stands wrote) ended went is
