-- What giving a job a whole input has written.
use Rattle.std.proofs.Common.{◌≡◌, ℕ, ◌+◌, ◌<◌, ◌≤◌, ◌^◌, false, List, [], ◌∷◌, ◌++◌, length, Option, None, Some, Ok, refl, sym, ap, subst, ◌∙◌, arith, append-nil, inl, inr}
use Rattle.std.specs.Option.{unwrap_or}
use Rattle.std.proofs.lemmas.Grind.{common_steps}
use Rattle.std.specs.Io.KnownBytes.{Appends, Consumes, IsAtEnd, Keeps}
use Rattle.std.proofs.KnownBytes.{Appends-trans}
use Rattle.mst_lang.specs.Lines.{last_line, no_line}
use Rattle.mst_io.specs.Devices.{Seen, Told, called, IsRead, StopsAtZero, Works}
use Rattle.mst_io.specs.Held.{ending, lines_held}
use Rattle.mst_io.specs.declared.outcome.RunFault.{RunFault}
use Rattle.mst_io.specs.declared.outcome.RunFault.TheVariants.{Read, Write, Memory}
use Rattle.mst_io.proofs.Calls.{broken_after, stops_after, stops_working, works_both}
use Rattle.mst_io.proofs.Known.{Appends-kept, AppendsFront-after}
use Rattle.mst_io.proofs.ReadBytes.{Reads-all, Reads-rest}
use Rattle.mst_drive.specs.Driving.{Driven, DrivenEnded, DrivenFront, DrivenLines, DrivenOn, Halts}
use Rattle.mst_drive.specs.Feeding.{Breaks, EndsFront, Feeds, Leaves}

-- ---- the devices
works_then : (a b : Told) → Works a b → Works a (record b { failed = false; unsent = false })
works_then a b was = record { working = refl; taken = was.taken; each = was.each }

-- a sink that worked, and sent on what it held back
pub works_sent : (a b c : Told) → Works a b → c ≡ record b { failed = false; unsent = false } → Works a c
works_sent a b c was is = subst (Works a) (sym is) (works_then a b was)

zero_counted : (b : Told) (count size : ℕ) → count ≡ 0 → 0 < size → (called b (Ok count) size).zeros ≡ b.zeros + 1
zero_counted b count size none room = grind (arith, common_steps)

-- a source that worked in so many turns, and then gave nothing, though there was room
pub read_end : (a b c : Told) (count size turn : ℕ) → Works a b → b.calls ≡ a.calls + turn → c ≡ called b (Ok count) size → count ≡ 0 → 0 < size → IsRead a c
read_end a b c count size turn was calls e none room =
    subst (IsRead a) (sym e) (record {
      working = refl;
      some = omega (arith, calls);
      found = zero_counted b count size none room ∙ ap (λ n. n + 1) was.taken;
    })

-- how both devices stand where a fault stopped the end
pub halts_end : (lacks : Type 0) (turns : ℕ) (s s' a b c : Told) (why : Option RunFault) → IsRead s s' → Works a b → Leaves lacks b c why → Halts turns s s' a c why
halts_end lacks turns s s' a b c None r p h = (r, works_both a b c p h)
halts_end lacks turns s s' a b c (Some Read) r p h = absurd h
halts_end lacks turns s s' a b c (Some Write) r p h = broken_after a b c p h.broken
halts_end lacks turns s s' a b c (Some Memory) r p h = (r, works_both a b c p h.0)

pub stops_left : (lacks : Type 0) (a b c : Told) (why : Option RunFault) → Works a b → Leaves lacks b c why → StopsAtZero a c
stops_left lacks a b c None p h = stops_working a c (works_both a b c p h)
stops_left lacks a b c (Some Read) p h = absurd h
stops_left lacks a b c (Some Write) p h = stops_after a b c p h.calls
stops_left lacks a b c (Some Memory) p h = stops_working a c (works_both a b c p h.0)

-- what stopped the end is no read fault
pub no_read : (lacks : Type 0) (b c : Told) (fault : RunFault) → Leaves lacks b c (Some fault) → fault ≡ Read → ⊥
no_read lacks b c Read h is = h
no_read lacks b c Write h is = cc
no_read lacks b c Memory h is = cc

-- memory was wanted at the end, where it may be
pub lacks_of : (lacks : Type 0) (b c : Told) (fault : RunFault) → fault ≡ Memory → Leaves lacks b c (Some fault) → lacks
lacks_of lacks b c Read is h = absurd h
lacks_of lacks b c Write is h = absurd (cc)
lacks_of lacks b c Memory is h = h.1

-- ---- the lines
ends_held : (p : List ℕ) → lines_held last_line p (ending p ++ []) ≡ lines_held last_line p []
ends_held [] = refl
ends_held (b ∷ bs) = refl

ending_small : (p : List ℕ) → length (ending p) ≤ 1
ending_small [] = omega arith
ending_small (b ∷ bs) = omega arith

module _ {J : Type 0} (tells : J → ℕ → List (List ℕ) → List ℕ → J → Type 0) (old : J) where
  -- what was fed, and then the last line
  fed_whole : (text more : List ℕ) (job : J) (number : ℕ) (read p : List ℕ) (after : J) → Feeds tells old 1 [] read text job number p → tells job number (lines_held last_line p (ending p ++ [])) more after → tells old 1 (lines_held last_line [] read) (text ++ more) after
  fed_whole text more job number read p after f h =
      subst (λ l. tells old 1 (lines_held last_line [] l) (text ++ more) after) (append-nil read)
      (f.goes last_line [] more after (subst (λ l. tells job number l more after) (ends_held p) h))

  pub all_told : (text last : List ℕ) (job new : J) (number n : ℕ) (read p q : List ℕ) → Feeds tells old 1 [] read text job number p → Feeds tells job number p (ending p) last new n q → q ≡ [] → tells new n [] [] new → tells old 1 (lines_held last_line [] read) (text ++ last) new
  all_told text last job new number n read p q f g cleared none =
      fed_whole text last job number read p new f
      (subst (λ t. tells job number (lines_held last_line p (ending p ++ [])) t new) (append-nil last)
      (g.goes last_line [] [] new (subst (λ l. tells new n (lines_held last_line l []) [] new) (sym cleared) none)))

  pub few_lines : (text last : List ℕ) (job new : J) (number n : ℕ) (read p q : List ℕ) → Feeds tells old 1 [] read text job number p → Feeds tells job number p (ending p) last new n q → length read < 2 ^ 59 → n < 2 ^ 60
  few_lines text last job new number n read p q f g small = omega (arith, f.few, g.few, ending_small p, small)

module _ {J : Type 0} (tells : J → ℕ → List (List ℕ) → List ℕ → J → Type 0) (ends : J → ℕ → List ℕ → J → Type 0) (old : J) (reads rest written now : Option (List ℕ)) where
  -- stopped by the source, or by a sink that couldn't send on
  pub cut : (text : List ℕ) (job : J) (number : ℕ) (read p : List ℕ) → ((lines : List (List ℕ)) → (more : List ℕ) × (after : J) × tells job number lines more after) → Consumes reads rest read → Feeds tells old 1 [] read text job number p → Appends written now text → DrivenFront tells ends old reads written now
  cut text job number read p goes consumed f went =
      let more = goes (lines_held last_line p (unwrap_or rest [])) in
      record {
        bytes = read ++ unwrap_or rest [];
        text = text ++ more.0;
        job = more.1;
        read = Reads-rest reads rest read consumed;
        told = f.goes last_line (unwrap_or rest []) more.0 more.1 more.2;
        front = inl (record { front = text; rest = more.0; whole = refl; written = went });
      }

  -- what the lines print that were complete
  pub cut_lines : (text : List ℕ) (job : J) (number : ℕ) (read p : List ℕ) → tells job number [] [] job → Consumes reads rest read → Feeds tells old 1 [] read text job number p → Appends written now text → DrivenEnded tells old reads rest written now
  cut_lines text job number read p none consumed f went = record {
    read = read;
    text = text;
    job = job;
    consumed = consumed;
    told = subst (λ l. tells old 1 (lines_held no_line [] l) text job) (append-nil read) (subst (λ t. tells old 1 (lines_held no_line [] (read ++ [])) t job) (append-nil text) (f.goes no_line [] [] job none));
    printed = went;
  }

  -- stopped in the lines of what was read
  pub broken : (bytes : List ℕ) → Consumes reads rest bytes → Breaks tells written now old 1 [] bytes → DrivenFront tells ends old reads written now
  broken bytes consumed breaks =
      let b = breaks (unwrap_or rest []) in
      record { bytes = bytes ++ unwrap_or rest []; text = b.text; job = b.after; read = Reads-rest reads rest bytes consumed; told = b.told; front = inl b.front }

  -- stopped in the last line
  pub broken_last : (mid : Option (List ℕ)) (text : List ℕ) (job : J) (number : ℕ) (read p : List ℕ) → Consumes reads rest read → IsAtEnd rest → Feeds tells old 1 [] read text job number p → Appends written mid text → Breaks tells mid now job number p (ending p)
      → DrivenFront tells ends old reads written now
  broken_last mid text job number read p consumed at_end f went breaks =
      let b = breaks [] in
      record {
        bytes = read;
        text = text ++ b.text;
        job = b.after;
        read = Reads-all reads rest read consumed at_end;
        told = fed_whole tells old text b.text job number read p b.after f b.told;
        front = inl (AppendsFront-after written mid now text b.text went b.front);
      }

  -- stopped at the end
  pub broken_end : (mid : Option (List ℕ)) (text : List ℕ) (job : J) (number : ℕ) (read : List ℕ) (fault : RunFault) → Consumes reads rest read → IsAtEnd rest → tells old 1 (lines_held last_line [] read) text job → Appends written mid text → EndsFront ends mid now job number (Some fault)
      → DrivenFront tells ends old reads written now
  broken_end mid text job number read Read consumed at_end told went h = absurd h
  broken_end mid text job number read Write consumed at_end told went h = record {
    bytes = read;
    text = text;
    job = job;
    read = Reads-all reads rest read consumed at_end;
    told = told;
    front = inr (number, h.0, h.1, h.2, AppendsFront-after written mid now text h.0 went h.3);
  }
  broken_end mid text job number read Memory consumed at_end told went h = record {
    bytes = read;
    text = text;
    job = job;
    read = Reads-all reads rest read consumed at_end;
    told = told;
    front = inl (record { front = text; rest = []; whole = sym (append-nil text); written = subst (λ o. Appends written o text) (sym h) went });
  }

  -- where memory was wanted at the end, all that the lines print was written
  pub starved_end : (mid : Option (List ℕ)) (text : List ℕ) (job : J) (number : ℕ) (read : List ℕ) (fault : RunFault) → Consumes reads rest read → IsAtEnd rest → tells old 1 (lines_held last_line [] read) text job → Appends written mid text → EndsFront ends mid now job number (Some fault)
      → fault ≡ Memory → DrivenLines tells old reads written now
  starved_end mid text job number read Read consumed at_end told went h is = absurd h
  starved_end mid text job number read Write consumed at_end told went h is = absurd (cc)
  starved_end mid text job number read Memory consumed at_end told went h is = record {
    bytes = read;
    text = text;
    job = job;
    read = Reads-all reads rest read consumed at_end;
    told = told;
    printed = subst (λ o. Appends written o text) (sym h) went;
  }

  -- given to its end
  pub driven : (awaits : J → ℕ → Type 0) (mid : Option (List ℕ)) (text said : List ℕ) (job new : J) (number : ℕ) (read : List ℕ) → Consumes reads rest read → IsAtEnd rest → tells old 1 (lines_held last_line [] read) text job → awaits job number → number < 2 ^ 60 → ends job number said new
      → Appends written mid text → Appends mid now said → Driven awaits tells ends old new reads written now
  driven awaits mid text said job new number read consumed at_end told waits few ended went then = record {
    bytes = read;
    text = text;
    job = job;
    number = number;
    said = said;
    read = Reads-all reads rest read consumed at_end;
    told = told;
    waits = waits;
    few = few;
    ended = ended;
    printed = Appends-trans written mid now text said went then;
  }

-- before a call of the source what was printed so far is sent on
pub driven_on : {J S : Type 0} (tells : J → ℕ → List (List ℕ) → List ℕ → J → Type 0) (ends : J → ℕ → List ℕ → J → Type 0) (old : J) (reads : Option (List ℕ)) (remaining : S → Option (List ℕ)) (before : Seen) (source : S) (sink : Seen) (told : Told) (bytes : Option (List ℕ))
    (text : List ℕ) (job : J) (number : ℕ) (read p : List ℕ) → tells job number [] [] job → Consumes reads (remaining source) read → Feeds tells old 1 [] read text job number p → Appends before.bytes bytes text → Works before.told told
    → sink.told ≡ record told { failed = false; unsent = false } → Keeps bytes sink.bytes → sink.lent ≡ before.lent → DrivenOn tells old reads remaining before source sink
driven_on tells ends old reads remaining before source sink told bytes text job number read p none consumed f went works sent kept lent = (
  record { works = works_sent before.told told sink.told works sent; lent = lent; sent = ap (λ (t : Told). t.unsent) sent },
  cut_lines tells ends old reads (remaining source) before.bytes sink.bytes text job number read p none consumed f (Appends-kept before.bytes bytes sink.bytes text went kept),
)
