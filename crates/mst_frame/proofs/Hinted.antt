-- What came of the hints, by how that ended which read their script.
use Rattle.std.proofs.Common.{◌≡◌, ℕ, ◌^◌, ◌==◌, Bool, true, false, is_some, List, [], ◌++◌, Option, Some, Result, Ok, Err, arith, refl, sym, ap, subst, ◌∙◌, append_assoc, inl, inr}
use Rattle.std.specs.Prelude.{◌&&◌}
use Rattle.std.proofs.lemmas.Bool.{false≢true}
use Rattle.std.specs.Io.KnownBytes.{Appends}
use Rattle.mst_io.specs.Devices.{Seen, Told, IsCut, IsRead}
use Rattle.mst_io.specs.Written.{AppendsFront}
use Rattle.mst_io.specs.declared.outcome.Outcome.{Outcome}
use Rattle.mst_io.specs.declared.outcome.RunFault.{RunFault}
use Rattle.mst_io.specs.declared.outcome.RunFault.TheVariants.{Read, Write, Memory}
use Rattle.mst_hinting.specs.Hinted.{Hints, HintsFront, HintsEnded}
use Rattle.mst_hinting.specs.hints.declared.whose.Script.{Script}
use Rattle.mst_hinting.specs.Listening.{AreTold, Closed}
use Rattle.mst_hinting.proofs.Ended.{ended_front}
use Rattle.mst_drive.proofs.Words.{unread_alone}
use Rattle.mst_frame.specs.Framed.{AreTurned}
use Rattle.mst_frame.specs.Hinted.{Fit, HintsBy, HintsEither, IsHinted, IsHintedBehind, IsKeptTold, IsToldBehind, are_told, script_of}
use Rattle.mst_frame.specs.declared.hinting.Scripts.{Scripts}
use Rattle.mst_frame.proofs.Through.{all_in_front}

-- where it ended well, it was read to its end
abbrev pub ReadIf : Result Outcome RunFault → Told → Told → Type 0
ReadIf (Ok outcome) old new = IsRead old new
ReadIf (Err fault) old new = Unit {0}

-- ---- each of the inputs that a word has, as far as its hints are told

have_hints : (hints : Bool) (of : Option Script) → are_told hints of ≡ true → is_some of ≡ true
have_hints true of told = told
have_hints false of told = absurd (false≢true told)

module _ (count : ℕ) (scripts : Scripts) (hints : Bool) (first first_now second second_now third third_now : Told) where
  first_read : (ended : Result Outcome RunFault) → AreTurned count first first_now second second_now third third_now ended → ReadIf ended first first_now
  first_read (Ok outcome) by = (by.read refl).is_first
  first_read (Err fault) by = tt

  pub second_read : (ended : Result Outcome RunFault) → Fit count scripts → AreTurned count first first_now second second_now third third_now ended → are_told hints scripts.second ≡ true → ReadIf ended second second_now
  second_read (Ok outcome) fit by told = (by.read refl).is_second (fit.second (have_hints hints scripts.second told))
  second_read (Err fault) fit by told = tt

  pub third_read : (ended : Result Outcome RunFault) → Fit count scripts → AreTurned count first first_now second second_now third third_now ended → are_told hints scripts.third ≡ true → ReadIf ended third third_now
  third_read (Ok outcome) fit by told = (by.read refl).is_third (fit.third (have_hints hints scripts.third told))
  third_read (Err fault) fit by told = tt

-- ---- the first

one_of : (count : ℕ) → (count == 1) ≡ true → count ≡ 1
one_of count is = grind arith

hints_first : (alone : Bool) (ended : Result Outcome RunFault) (of : Script) (source source_now errors now : Seen) → ReadIf ended source.told source_now.told → (alone ≡ true → ended ≡ Err Read → IsCut (2 ^ 32) source.told source_now.told)
    → AreTold of source source_now errors now → HintsBy alone ended of source.bytes source_now.bytes errors.bytes now.bytes
hints_first alone (Ok outcome) of source source_now errors now read cut told = told.whole read
hints_first true (Err Read) of source source_now errors now read cut told = told.cut (2 ^ 32) (cut refl refl)
hints_first false (Err Read) of source source_now errors now read cut told = told.either
hints_first alone (Err Write) of source source_now errors now read cut told = told.either
hints_first alone (Err Memory) of source source_now errors now read cut told = told.either

closed_by : (hints alone : Bool) (ended : Result Outcome RunFault) (of : Script) (source source_now errors now : Seen) (end : Result (Unit {0}) RunFault) → ReadIf ended source.told source_now.told
    → (alone ≡ true → ended ≡ Err Read → IsCut (2 ^ 32) source.told source_now.told) → Closed hints of source source_now errors now end → IsHinted hints alone ended of source.bytes source_now.bytes errors now end
closed_by false alone ended of source source_now errors now end read cut closed = closed
closed_by true alone ended of source source_now errors now (Ok x) read cut told = (hints_first alone ended of source source_now errors now read cut told, told.works)
closed_by true alone ended of source source_now errors now (Err fault) read cut stopped = record { front = stopped.front; by = stopped.by }

pub closed_first : (count : ℕ) (scripts : Scripts) (hints : Bool) (ended : Result Outcome RunFault) (source source_now errors now : Seen) (second second_now third third_now : Told) (end : Result (Unit {0}) RunFault)
    → AreTurned count source.told source_now.told second second_now third third_now ended → Closed hints scripts.first source source_now errors now end → IsHinted hints (count == 1) ended scripts.first source.bytes source_now.bytes errors now end
closed_first count scripts hints ended source source_now errors now second second_now third third_now end by closed =
    closed_by hints (count == 1) ended scripts.first source source_now errors now end (first_read count scripts hints source.told source_now.told second second_now third third_now ended by)
    (λ is why. unread_alone (2 ^ 32) count source.told source_now.told second second_now third third_now (one_of count is) (by.cut why)) closed

-- ---- an input with others

hints_beside : (ended : Result Outcome RunFault) (of : Script) (source source_now errors now : Seen) → ReadIf ended source.told source_now.told → AreTold of source source_now errors now
    → HintsBy false ended of source.bytes source_now.bytes errors.bytes now.bytes
hints_beside (Ok outcome) of source source_now errors now read told = told.whole read
hints_beside (Err Read) of source source_now errors now any told = told.either
hints_beside (Err Write) of source source_now errors now any told = told.either
hints_beside (Err Memory) of source source_now errors now any told = told.either

-- ---- hints that were kept, and told at the end

-- kept texts are told
appended_kept : (a b : Option (List ℕ)) (kept text : List ℕ) → Appends (Some []) (Some kept) text → Appends a b kept → Appends a b text
appended_kept a b kept text is went = subst (Appends a b) is went

hints_kept : (of : Script) (reads a b : Option (List ℕ)) (kept : List ℕ) → Hints of reads (Some []) (Some kept) → Appends a b kept → Hints of reads a b
hints_kept of reads a b kept h went = record { script = h.script; read = h.read; printed = appended_kept a b kept _ h.printed went }

ended_kept : (of : Script) (reads left a b : Option (List ℕ)) (kept : List ℕ) → HintsEnded of reads left (Some []) (Some kept) → Appends a b kept → HintsEnded of reads left a b
ended_kept of reads left a b kept h went = record { read = h.read; consumed = h.consumed; printed = appended_kept a b kept _ h.printed went }

either_kept : (of : Script) (reads left a b : Option (List ℕ)) (kept : List ℕ) → HintsEither of reads left (Some []) (Some kept) → Appends a b kept → HintsEither of reads left a b
either_kept of reads left a b kept (inl h) went = inl (hints_kept of reads a b kept h went)
either_kept of reads left a b kept (inr h) went = inr (ended_kept of reads left a b kept h went)

by_kept : (ended : Result Outcome RunFault) (of : Script) (reads left a b : Option (List ℕ)) (kept : List ℕ) → HintsBy false ended of reads left (Some []) (Some kept) → Appends a b kept → HintsBy false ended of reads left a b
by_kept (Ok outcome) of reads left a b kept h went = hints_kept of reads a b kept h went
by_kept (Err Read) of reads left a b kept h went = either_kept of reads left a b kept h went
by_kept (Err Write) of reads left a b kept h went = either_kept of reads left a b kept h went
by_kept (Err Memory) of reads left a b kept h went = either_kept of reads left a b kept h went

-- a front of what was kept went out: that is one of all hints
front_kept : (a b : Option (List ℕ)) (kept text : List ℕ) → AppendsFront (Some []) (Some kept) text → AppendsFront a b kept → AppendsFront a b text
front_kept a b kept text is went = record {
  front = went.front;
  rest = went.rest ++ is.rest;
  whole = is.whole ∙ ap (λ l. l ++ is.rest) (sym is.written ∙ went.whole) ∙ append_assoc went.front went.rest is.rest;
  written = went.written;
}

either_front : (of : Script) (reads left a b : Option (List ℕ)) → HintsEither of reads left a b → HintsFront of reads a b
either_front of reads left a b (inl h) = record { script = h.script; read = h.read; printed = all_in_front a b _ h.printed }
either_front of reads left a b (inr h) = ended_front of reads left a b h

hints_front_kept : (of : Script) (reads a b : Option (List ℕ)) (kept : List ℕ) → HintsFront of reads (Some []) (Some kept) → AppendsFront a b kept → HintsFront of reads a b
hints_front_kept of reads a b kept h went = record { script = h.script; read = h.read; printed = front_kept a b kept _ h.printed went }

-- a front of the hints was kept, however their source stood
closed_front : (of : Script) (source source_now aside aside_now : Seen) (end : Result (Unit {0}) RunFault) → Closed true of source source_now aside aside_now end → HintsFront of source.bytes aside.bytes aside_now.bytes
closed_front of source source_now aside aside_now (Ok x) told = either_front of source.bytes source_now.bytes aside.bytes aside_now.bytes told.either
closed_front of source source_now aside aside_now (Err fault) stopped = stopped.front

-- the hints that were kept of an input were told in the end
closed_kept : (ended : Result Outcome RunFault) (of : Script) (source source_now aside aside_now errors now : Seen) (kept : List ℕ) (end told : Result (Unit {0}) RunFault) → aside.bytes ≡ Some [] → aside_now.bytes ≡ Some kept
    → ReadIf ended source.told source_now.told → Closed true of source source_now aside aside_now end → IsKeptTold kept end errors now told → IsHinted true false ended of source.bytes source_now.bytes errors now told
closed_kept ended of source source_now aside aside_now errors now kept (Ok y) (Ok x) empty is by closed went =
    let here = hints_beside ended of source source_now aside aside_now by closed in
    let mine = subst (λ (b : Option (List ℕ)). HintsBy false ended of source.bytes source_now.bytes b (Some kept)) empty (subst (λ (b : Option (List ℕ)). HintsBy false ended of source.bytes source_now.bytes aside.bytes b) is here) in
    (by_kept ended of source.bytes source_now.bytes errors.bytes now.bytes kept mine went.ok, went.works)
closed_kept ended of source source_now aside aside_now errors now kept (Err fault) (Ok x) empty is by closed went = absurd (false≢true (went.whole refl))
closed_kept ended of source source_now aside aside_now errors now kept end (Err fault) empty is by closed went =
    let here = closed_front of source source_now aside aside_now end closed in
    let mine = subst (λ (b : Option (List ℕ)). HintsFront of source.bytes b (Some kept)) empty (subst (λ (b : Option (List ℕ)). HintsFront of source.bytes aside.bytes b) is here) in
    record { front = hints_front_kept of source.bytes errors.bytes now.bytes kept mine went.err.0; by = went.err.1 }

-- ---- those of a further input, behind those before

-- it has some, or none
pub told_some : (hints : Bool) → (hints && true) ≡ hints
told_some true = refl
told_some false = refl

pub told_none : (hints : Bool) → (hints && false) ≡ false
told_none true = refl
told_none false = refl

pub told_behind : (ended : Result Outcome RunFault) (hints : Bool) (of : Option Script) (source source_now aside aside_now errors now : Seen) (kept : List ℕ) (before end told : Result (Unit {0}) RunFault) → aside.bytes ≡ Some [] → aside_now.bytes ≡ Some kept
    → (are_told hints of ≡ true → ReadIf ended source.told source_now.told) → Closed (are_told hints of) (script_of of) source source_now aside aside_now end → IsToldBehind before (are_told hints of) kept end errors now told
    → IsHintedBehind before hints of ended source.bytes source_now.bytes errors now told
told_behind ended hints of source source_now aside aside_now errors now kept (Err fault) end told empty is by closed went = went
told_behind ended hints of source source_now aside aside_now errors now kept (Ok x) end told empty is by closed went = go (are_told hints of) by closed went
  where
    go : (some : Bool) → (some ≡ true → ReadIf ended source.told source_now.told) → Closed some (script_of of) source source_now aside aside_now end → IsToldBehind (Ok x) some kept end errors now told
        → IsHinted some false ended (script_of of) source.bytes source_now.bytes errors now told
    go false by closed went = went
    go true by closed went = closed_kept ended (script_of of) source source_now aside aside_now errors now kept end told empty is (by refl) closed went
