-- How the devices stand where the inputs of a word were given to their ends, one after another, or where this stopped it.
use Rattle.std.specs.Prelude.{◌≡◌, ◌⊎◌, ◌↔◌, ℕ, false, List, [], ◌∷◌, Option, Some, None}
use Rattle.mst_io.specs.Devices.{Seen, Works, IsBroken, IsCalled, IsCut, IsRead, StopsAtZero}
use Rattle.mst_io.specs.declared.outcome.RunFault.{RunFault}
use Rattle.mst_io.specs.declared.outcome.RunFault.TheVariants.{Read, Write}

-- a source before, and now
pub record Turning : Type 0 where
  pub before : Seen
  pub now : Seen

abbrev pub turning : {S : Type 0} → (S → Seen) → S → S → Turning
turning seen before now = record { before = seen before; now = seen now }

-- each of them was read to its end
abbrev pub AreEnded : List Turning → Type 0
AreEnded [] = Unit {0}
AreEnded (source ∷ sources) = IsRead source.before.told source.now.told × AreEnded sources

-- one of them has failed, or all turns of it were used and none found the end
abbrev pub IsOneCut : ℕ → List Turning → Type 0
IsOneCut turns [] = ⊥
IsOneCut turns (source ∷ sources) = IsCut turns source.before.told source.now.told ⊎ IsOneCut turns sources

-- each was called in at most so many turns, and not again after its end or after it failed
abbrev pub AreCalled : ℕ → List Turning → Type 0
AreCalled turns [] = Unit {0}
AreCalled turns (source ∷ sources) = IsCalled turns source.before.told source.now.told × (source.now.lent ≡ source.before.lent) × AreCalled turns sources

-- a source was called only where the one before it was read to its end
abbrev pub Follows : Turning → List Turning → Type 0
Follows source [] = Unit {0}
Follows source (next ∷ sources) = (next.now ≡ next.before) ⊎ IsRead source.before.told source.now.told

-- each was
abbrev pub AreInOrder : List Turning → Type 0
AreInOrder [] = Unit {0}
AreInOrder (source ∷ sources) = Follows source sources × AreInOrder sources

-- each works, and wasn't called
abbrev pub AreUncalled : List Turning → Type 0
AreUncalled [] = Unit {0}
AreUncalled (source ∷ sources) = (source.now ≡ source.before) × (source.before.told.failed ≡ false) × AreUncalled sources

-- How they stand. The read fault comes just where the sink works and a source has failed, or all turns of it were used and none found the
-- end; the write fault just where the sink has failed, or took nothing of a part that had a byte, and it isn't called again then
pub record Turned (turns : ℕ) (sources : List Turning) (sink sink_now : Seen) (why : Option RunFault) : Type 0 where
  pub ended : why ≡ None → AreEnded sources
  pub order : AreInOrder sources
  pub called : AreCalled turns sources
  pub read_fault : (why ≡ Some Read) ↔ (IsOneCut turns sources × Works sink.told sink_now.told)
  pub write_fault : (why ≡ Some Write) ↔ IsBroken sink.told sink_now.told
  pub works : (why ≡ Some Write → ⊥) → Works sink.told sink_now.told
  pub sink_calls : StopsAtZero sink.told sink_now.told
  pub lent_sink : sink_now.lent ≡ sink.lent
  pub none : turns ≡ 0 → why ≡ Some Read
