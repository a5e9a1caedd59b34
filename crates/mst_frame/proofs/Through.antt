-- How a word ends that goes through a buffer.
use Rattle.std.proofs.Common.{◌≡◌, ℕ, List, [], Option, Result, Ok, Err, true, false, sym, append-nil, inr}
use Rattle.std.specs.Io.KnownBytes.{Appends, Keeps, append_known}
use Rattle.std.proofs.KnownBytes.{Appends-kept}
use Rattle.mst_io.specs.Written.{AppendsFront}
use Rattle.mst_io.specs.declared.outcome.Outcome.{Outcome}
use Rattle.mst_io.specs.declared.outcome.RunFault.{RunFault}
use Rattle.mst_io.specs.declared.outcome.RunFault.TheVariants.{Read, Write, Memory}
use Rattle.mst_drive.specs.Words.{Ended, Inputs, MayTell, Telling, Wrote, WroteFront}
use Rattle.mst_frame.specs.Framed.{EndsThrough, is_broken}
use Rattle.mst_frame.proofs.Kept.{front_kept}

wrote_kept : (texts : List ℕ → Type 0) (a b c : Option (List ℕ)) → Wrote a b texts → Keeps b c → Wrote a c texts
wrote_kept texts a b c went k = (went.0, went.1, Appends-kept a b c went.0 went.2 k)

wrote_front_kept : (texts : List ℕ → Type 0) (a b c : Option (List ℕ)) → WroteFront a b texts → Keeps b c → WroteFront a c texts
wrote_front_kept texts a b c went k = (went.0, went.1, front_kept a b c went.0 went.2 k)

-- what was written in full is a front of it
pub all_in_front : (a b : Option (List ℕ)) (text : List ℕ) → Appends a b text → AppendsFront a b text
all_in_front a b text went = record { front = text; rest = []; whole = sym (append-nil text); written = went }

module _ (telling : Telling) (given left : Inputs) where
  front_ended : (a b : Option (List ℕ)) (r : Result Outcome RunFault) → Ended telling given left a b r → WroteFront a b (MayTell telling given)
  front_ended a b (Ok outcome) e = (e.0, inr (outcome, e.1), all_in_front a b e.0 e.2)
  front_ended a b (Err Read) e = e.1
  front_ended a b (Err Write) e = e
  front_ended a b (Err Memory) e = e.1

  -- the writer stopped it, and some bytes are held back
  pub ends_broken : (a b : Option (List ℕ)) (held : List ℕ) (r : Result Outcome RunFault) → is_broken r ≡ true → Ended telling given left a (append_known b held) r → EndsThrough telling given left a b r
  ends_broken a b held (Ok outcome) is e = absurd cc
  ends_broken a b held (Err Read) is e = absurd cc
  ends_broken a b held (Err Write) is e = (held, e)
  ends_broken a b held (Err Memory) is e = absurd cc

  -- all that was held back was written
  pub ends_written : (a b c : Option (List ℕ)) (r : Result Outcome RunFault) → is_broken r ≡ false → Ended telling given left a b r → Keeps b c → EndsThrough telling given left a c r
  ends_written a b c (Ok outcome) is e k = wrote_kept (λ text. telling.tells given text outcome) a b c e k
  ends_written a b c (Err Read) is e k = wrote_kept (telling.cut given left) a b c e.0 k
  ends_written a b c (Err Write) is e k = absurd cc
  ends_written a b c (Err Memory) is e k = wrote_kept (telling.starved given) a b c e.0 k

  -- or not all
  pub ends_lost : (a b c : Option (List ℕ)) (held : List ℕ) (r : Result Outcome RunFault) → Ended telling given left a b r → Keeps b (append_known c held) → EndsThrough telling given left a c (Err Write)
  ends_lost a b c held r e k = (held, wrote_front_kept (MayTell telling given) a b (append_known c held) (front_ended a b r e) k)
