-- How the devices stand where jobs have taken their inputs one after another.
use Rattle.std.proofs.Common.{◌≡◌, ◌≢◌, ◌⊎◌, ◌↔◌, ℕ, false, List, [], ◌∷◌, Option, Some, None, refl, sym, subst, ◌∙◌, arith, inl, inr}
use Rattle.mst_io.specs.Devices.{Seen, Told, Works, IsBroken, IsCalled, IsCut, IsRead, IsStopped, StopsAtZero}
use Rattle.mst_io.specs.declared.outcome.RunFault.{RunFault}
use Rattle.mst_io.specs.declared.outcome.RunFault.TheVariants.{Read, Write, Memory}
use Rattle.mst_io.proofs.Calls.{works_unbroken, works_both, read_uncut, stops_after, stops_working, broken_after}
use Rattle.mst_drive.specs.Driving.{Halts}
use Rattle.mst_drive.specs.Turned.{AreCalled, AreInOrder, AreEnded, AreUncalled, Follows, IsOneCut, Turned, Turning}

-- ---- one input, by how both devices halt
module _ (turns : ℕ) (s t a b : Told) where
  ended_halted : (why : Option RunFault) → Halts turns s t a b why → why ≡ None → IsRead s t
  ended_halted None h e = h.0
  ended_halted (Some f) h e = absurd (cc)

  write_halted : (why : Option RunFault) → Halts turns s t a b why → (why ≡ Some Write) ↔ IsBroken a b
  write_halted None h = (λ e. absurd (cc), λ broken. absurd (works_unbroken a b h.1 broken))
  write_halted (Some Read) h = (λ e. absurd (cc), λ broken. absurd (works_unbroken a b h.1 broken))
  write_halted (Some Write) h = (λ _. h, λ _. refl)
  write_halted (Some Memory) h = (λ e. absurd (cc), λ broken. absurd (works_unbroken a b h.1 broken))

  works_halted : (why : Option RunFault) → Halts turns s t a b why → (why ≡ Some Write → ⊥) → Works a b
  works_halted None h other = h.1
  works_halted (Some Read) h other = h.1
  works_halted (Some Write) h other = absurd (other refl)
  works_halted (Some Memory) h other = h.1

  read_halted : (why : Option RunFault) → Halts turns s t a b why → (why ≡ Some Read) ↔ (IsCut turns s t ⊎ ⊥) × Works a b
  read_halted None h = (λ e. absurd (cc), λ cut. absurd (elim cut.0 [ inl c ↦ read_uncut turns s t h.0 c | inr none ↦ none ]))
  read_halted (Some Read) h = (λ _. (inl h.0, h.1), λ _. refl)
  read_halted (Some Write) h = (λ e. absurd (cc), λ cut. absurd (works_unbroken a b cut.1 h))
  read_halted (Some Memory) h = (λ e. absurd (cc), λ cut. absurd (elim cut.0 [ inl c ↦ read_uncut turns s t h.0 c | inr none ↦ none ]))

pub turned_one : (turns : ℕ) (source : Turning) (sink sink_now : Seen) (why : Option RunFault) → Halts turns source.before.told source.now.told sink.told sink_now.told why → IsCalled turns source.before.told source.now.told → StopsAtZero sink.told sink_now.told
    → source.now.lent ≡ source.before.lent → sink_now.lent ≡ sink.lent → (turns ≡ 0 → why ≡ Some Read) → Turned turns (source ∷ []) sink sink_now why
turned_one turns source sink sink_now why halts calls sink_calls lent_source lent_sink none =
    let s = source.before.told in
    let t = source.now.told in
    record {
      ended = λ e. (ended_halted turns s t sink.told sink_now.told why halts e, tt);
      order = (tt, tt);
      called = (calls, lent_source, tt);
      read_fault = read_halted turns s t sink.told sink_now.told why halts;
      write_fault = write_halted turns s t sink.told sink_now.told why halts;
      works = works_halted turns s t sink.told sink_now.told why halts;
      sink_calls = sink_calls;
      lent_sink = lent_sink;
      none = none;
    }

-- ---- several inputs
-- those that weren't called
uncalled_in_order : (sources : List Turning) → AreUncalled sources → AreInOrder sources
uncalled_in_order [] u = tt
uncalled_in_order (source ∷ []) u = (tt, tt)
uncalled_in_order (source ∷ next ∷ sources) u = (inl (u.2).0, uncalled_in_order (next ∷ sources) u.2)

not_called : (turns : ℕ) (a b : Seen) → b ≡ a → IsCalled turns a.told b.told × (b.lent ≡ a.lent)
not_called turns a b same = subst (λ (s : Seen). IsCalled turns a.told s.told × (s.lent ≡ a.lent)) (sym same)
    (record { few = omega arith; stops = record { few = omega arith; once = omega arith; last = λ more. absurd (omega (arith, more)) } }, refl)

uncalled_called : (turns : ℕ) (sources : List Turning) → AreUncalled sources → AreCalled turns sources
uncalled_called turns [] u = tt
uncalled_called turns (source ∷ sources) u = let h = not_called turns source.before source.now u.0 in (h.0, h.1, uncalled_called turns sources u.2)

not_cut : (turns : ℕ) (a b : Seen) → b ≡ a → a.told.failed ≡ false → IsCut turns a.told b.told → turns ≡ 0
not_cut turns a b same working cut = by (subst (λ (s : Seen). IsCut turns a.told s.told) same cut)
  where
    by : IsCut turns a.told a.told → turns ≡ 0
    by (inl failed) = absurd (cc)
    by (inr all) = omega (arith, all.0)

uncalled_uncut : (turns : ℕ) (sources : List Turning) → AreUncalled sources → IsOneCut turns sources → turns ≡ 0
uncalled_uncut turns [] u cut = absurd cut
uncalled_uncut turns (source ∷ sources) u (inl cut) = not_cut turns source.before source.now u.0 u.1 cut
uncalled_uncut turns (source ∷ sources) u (inr cut) = uncalled_uncut turns sources u.2 cut

follows_uncalled : (source : Turning) (sources : List Turning) → AreUncalled sources → Follows source sources
follows_uncalled source [] u = tt
follows_uncalled source (next ∷ sources) u = inl u.0

follows_read : (source : Turning) (sources : List Turning) → IsRead source.before.told source.now.told → Follows source sources
follows_read source [] read = tt
follows_read source (next ∷ sources) read = inr read

module _ (turns : ℕ) (source : Turning) (sources : List Turning) (sink : Seen) where
  -- something stopped the first input
  pub turned_stopped : (sink_now : Seen) (why : Option RunFault) → Turned turns (source ∷ []) sink sink_now why → why ≢ None → AreUncalled sources → Turned turns (source ∷ sources) sink sink_now why
  turned_stopped sink_now why one stopped uncalled = record {
    ended = λ e. absurd (stopped e);
    order = (follows_uncalled source sources uncalled, uncalled_in_order sources uncalled);
    called = ((one.called).0, ((one.called).1), uncalled_called turns sources uncalled);
    read_fault = (λ e. by_fault ((one.read_fault).0 e), by_cut);
    write_fault = one.write_fault;
    works = one.works;
    sink_calls = one.sink_calls;
    lent_sink = one.lent_sink;
    none = one.none;
  }
    where
      by_fault : IsOneCut turns (source ∷ []) × Works sink.told sink_now.told → IsOneCut turns (source ∷ sources) × Works sink.told sink_now.told
      by_fault (inl cut, works) = (inl cut, works)
      by_fault (inr none, works) = absurd none

      by_cut : IsOneCut turns (source ∷ sources) × Works sink.told sink_now.told → why ≡ Some Read
      by_cut (inl cut, works) = (one.read_fault).1 (inl cut, works)
      by_cut (inr cut, works) = one.none (uncalled_uncut turns sources uncalled cut)

  -- it was given to its end, and then the others were, or something stopped these
  pub turned_then : (between sink_now : Seen) (why : Option RunFault) → Turned turns (source ∷ []) sink between None → Turned turns sources between sink_now why → Turned turns (source ∷ sources) sink sink_now why
  turned_then between sink_now why one others =
      let worked : Works sink.told between.told = one.works (λ e. absurd (cc)) in
      let read : IsRead source.before.told source.now.told = (one.ended refl).0 in
      record {
        ended = λ e. (read, others.ended e);
        order = (follows_read source sources read, others.order);
        called = ((one.called).0, (one.called).1, others.called);
        read_fault = (λ e. let h = (others.read_fault).0 e in (inr h.0, works_both sink.told between.told sink_now.told worked h.1), λ h. by_cut worked read h.0 h.1);
        write_fault = (λ e. broken_after sink.told between.told sink_now.told worked ((others.write_fault).0 e), λ broken. by_broken worked broken);
        works = λ other. works_both sink.told between.told sink_now.told worked (others.works other);
        sink_calls = stops_after sink.told between.told sink_now.told worked others.sink_calls;
        lent_sink = others.lent_sink ∙ one.lent_sink;
        none = others.none;
      }
    where
      is_write : (why : Option RunFault) → (why ≡ Some Write) ⊎ (why ≡ Some Write → ⊥)
      is_write None = inr (λ e. cc)
      is_write (Some Read) = inr (λ e. cc)
      is_write (Some Write) = inl refl
      is_write (Some Memory) = inr (λ e. cc)

      by_broken : Works sink.told between.told → IsBroken sink.told sink_now.told → why ≡ Some Write
      by_broken worked broken = elim (is_write why) [ inl e ↦ e | inr other ↦ absurd (works_unbroken sink.told sink_now.told (works_both sink.told between.told sink_now.told worked (others.works other)) broken) ]

      by_cut : Works sink.told between.told → IsRead source.before.told source.now.told → IsOneCut turns (source ∷ sources) → Works sink.told sink_now.told → why ≡ Some Read
      by_cut worked read (inl cut) works = absurd (read_uncut turns source.before.told source.now.told read cut)
      by_cut worked read (inr cut) works = elim (is_write why) [ inl e ↦ absurd (works_unbroken sink.told sink_now.told works (broken_after sink.told between.told sink_now.told worked ((others.write_fault).0 e))) | inr other ↦ (others.read_fault).1 (cut, others.works other) ]

-- ---- behind the inputs
all_uncut : (turns : ℕ) (sources : List Turning) → AreEnded sources → IsOneCut turns sources → ⊥
all_uncut turns [] read cut = cut
all_uncut turns (source ∷ sources) read (inl cut) = read_uncut turns source.before.told source.now.told read.0 cut
all_uncut turns (source ∷ sources) read (inr cut) = all_uncut turns sources read.1 cut

-- with no turns no source was read to its end
none_read : (turns : ℕ) (sources : List Turning) (sink sink_now : Seen) → Turned turns sources sink sink_now None → turns ≡ 0 → ⊥
none_read turns sources sink sink_now t e = by (t.none e)
  where
    by : None ≡ Some Read → ⊥
    by e = cc

module _ (turns : ℕ) (sources : List Turning) (sink between : Seen) (given : Turned turns sources sink between None) where
  worked : Works sink.told between.told
  worked = given.works (λ e. cc)

  -- all inputs were given to their ends, and then memory was wanted
  pub turned_lacking : Turned turns sources sink between (Some Memory)
  turned_lacking = record {
    ended = λ e. absurd (cc);
    order = given.order;
    called = given.called;
    read_fault = (λ e. absurd (cc), λ cut. absurd (all_uncut turns sources (given.ended refl) cut.0));
    write_fault = (λ e. absurd (cc), λ broken. absurd (works_unbroken sink.told between.told worked broken));
    works = λ other. worked;
    sink_calls = given.sink_calls;
    lent_sink = given.lent_sink;
    none = λ e. absurd (none_read turns sources sink between given e);
  }

  -- and then something was written
  pub turned_on : (sink_now : Seen) → Works between.told sink_now.told → sink_now.lent ≡ between.lent → Turned turns sources sink sink_now None
  turned_on sink_now more lent =
      let all : Works sink.told sink_now.told = works_both sink.told between.told sink_now.told worked more in
      record {
        ended = given.ended;
        order = given.order;
        called = given.called;
        read_fault = (λ e. absurd (cc), λ cut. absurd (all_uncut turns sources (given.ended refl) cut.0));
        write_fault = (λ e. absurd (cc), λ broken. absurd (works_unbroken sink.told sink_now.told all broken));
        works = λ other. all;
        sink_calls = stops_working sink.told sink_now.told all;
        lent_sink = lent ∙ given.lent_sink;
        none = λ e. absurd (none_read turns sources sink between given e);
      }

  -- or the sink broke in it
  pub turned_broken : (sink_now : Seen) → IsStopped between.told sink_now.told → sink_now.lent ≡ between.lent → Turned turns sources sink sink_now (Some Write)
  turned_broken sink_now stopped lent =
      let broken : IsBroken sink.told sink_now.told = broken_after sink.told between.told sink_now.told worked stopped.broken in
      record {
        ended = λ e. absurd (cc);
        order = given.order;
        called = given.called;
        read_fault = (λ e. absurd (cc), λ cut. absurd (works_unbroken sink.told sink_now.told cut.1 broken));
        write_fault = (λ e. broken, λ _. refl);
        works = λ other. absurd (other refl);
        sink_calls = stops_after sink.told between.told sink_now.told worked stopped.calls;
        lent_sink = lent ∙ given.lent_sink;
        none = λ e. absurd (none_read turns sources sink between given e);
      }

-- the first was given to its end, and then memory was wanted before the others were called
pub turned_unasked : (turns : ℕ) (source : Turning) (sources : List Turning) (sink between : Seen) → Turned turns (source ∷ []) sink between None → AreUncalled sources → Turned turns (source ∷ sources) sink between (Some Memory)
turned_unasked turns source sources sink between given uncalled =
    let lacking = turned_lacking turns (source ∷ []) sink between given in
    record {
      ended = λ e. absurd (cc);
      order = (follows_uncalled source sources uncalled, uncalled_in_order sources uncalled);
      called = ((given.called).0, (given.called).1, uncalled_called turns sources uncalled);
      read_fault = (λ e. absurd (cc), λ cut. absurd (by cut.0));
      write_fault = lacking.write_fault;
      works = lacking.works;
      sink_calls = lacking.sink_calls;
      lent_sink = lacking.lent_sink;
      none = lacking.none;
    }
  where
    by : IsOneCut turns (source ∷ sources) → ⊥
    by (inl cut) = all_uncut turns (source ∷ []) (given.ended refl) (inl cut)
    by (inr cut) = none_read turns (source ∷ []) sink between given (uncalled_uncut turns sources uncalled cut)
