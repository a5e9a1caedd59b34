-- How the hints of a script go on from byte to byte.
use Rattle.std.proofs.Common.{◌≡◌, ◌||◌, ℕ, ◌+◌, ◌<◌, Bool, true, false, nat_eq, cond, List, [], ◌∷◌, ◌++◌, length, Option, Some, None, Result, Ok, Err, refl, sym, ap, subst, ◌∙◌, arith, inl, inr, append_assoc, append-nil, eq-eqb, length-append}
use Rattle.std.proofs.lemmas.Bool.{lt-ltb}
use Rattle.mst_lang.specs.Lines.{drop_cr, last_line, no_line, lines_from, lines_of, ended_lines}
use Rattle.mst_lang.specs.Reading.{reading_as, says_version_2}
use Rattle.mst_lang.specs.declared.line.Fault.{Fault}
use Rattle.mst_lang.specs.declared.line.Fault.TheVariants.{E01}
use Rattle.mst_lang.specs.declared.line.Line.{Line}
use Rattle.mst_lang.specs.declared.line.Line.TheVariants.{Blank}
use Rattle.mst_lang.specs.declared.line.Version.{Version}
use Rattle.mst_lang.specs.declared.line.Version.TheVariants.{V1, V2}
use Rattle.mst_hints.specs.Hints.{hint_of, hint_line, too_long}
use Rattle.mst_hinting.specs.Kept.{IsKept}
use Rattle.mst_hints.specs.Records.{added_of}
use Rattle.mst_hints.specs.Scripts as scripts
use Rattle.mst_hints.specs.Scripts.{Past, version_with, reading_with, saying_with, edit_alone, net_with, is_made, is_mark, making_of, noted, put_of, read_hint, with_making}
use Rattle.mst_hints.specs.Puts.{with_put}
use Rattle.mst_hints.specs.declared.record.Record.{Record}
use Rattle.mst_hints.specs.declared.whose.Script.{Script}
use Rattle.mst_hints.specs.declared.whose.Script.TheVariants.{Policy, Change}
use Rattle.mst_io.specs.Held.{lines_held, ending, hold}
use Rattle.mst_policy_hints.specs.Hints as policies
use Rattle.mst_hinting.specs.Hinted.{Tells, IsTold}
use Rattle.mst_hinting.specs.Lines.{Before, of_script, of_policy, of_change, nothing, past_after, change_hint, hint_after, hints_from, hints_of, number_at}
use Rattle.mst_hinting.specs.declared.lines.LineHints.{LineHints}
use Rattle.mst_io.proofs.Long.{held_cases, long_reading, none_held_of, one_held_of}
use Rattle.mst_io.proofs.Starts.{IsHeld, IsHeld-nothing, IsHeld-push}

-- ---- bytes
pub Tells-nil : (past : Before) (part : List ℕ) → Tells past part [] past part []
Tells-nil past part = record { lines = λ last rest. refl; few = omega arith }

pub Tells-join : (p q r : Before) (a b c xs ys s t : List ℕ) → Tells p a xs q b s → Tells q b ys r c t → Tells p a (xs ++ ys) r c (s ++ t)
Tells-join p q r a b c xs ys s t f g = record {
  lines = λ last rest.
      ap (λ l. hints_from p (lines_held last a l)) (append_assoc xs ys rest)
      ∙ f.lines last (ys ++ rest)
      ∙ ap (λ h. s ++ h) (g.lines last rest)
      ∙ sym (append_assoc s t (hints_from r (lines_held last c rest)));
  few = omega (arith, f.few, g.few, length-append xs ys);
}

-- a byte that ends a line
next_number : (past : Before) (line : List ℕ) → number_at (past_after past line) ≡ number_at past + 1
next_number (of_script past) line = refl
next_number (of_policy number) line = refl
next_number (of_change version number) line = refl

Tells-line : (past : Before) (part : List ℕ) (b : ℕ) → b ≡ 10 → Tells past part (b ∷ []) (past_after past (drop_cr part)) [] (hint_after past (drop_cr part))
Tells-line past part b end = record {
  lines = λ last rest. ap (λ t. hints_from past (cond t (drop_cr part ∷ lines_held last [] rest) (lines_held last (hold part b) rest))) (eq-eqb b 10 end);
  few = omega (arith, next_number past (drop_cr part));
}

-- what was told of bytes is appended
pub told_nothing : (past : Before) (part : List ℕ) (hints : LineHints) (out : List ℕ) → IsKept past hints → IsTold past part [] hints part out out
told_nothing past part hints out kept = record { now = past; text = []; tells = Tells-nil past part; kept = kept; appended = sym (append-nil out) }

pub told_line : (past : Before) (part : List ℕ) (b : ℕ) (hints : LineHints) (old new : List ℕ) → b ≡ 10 → IsKept (past_after past (drop_cr part)) hints → new ≡ old ++ hint_after past (drop_cr part) → IsTold past part (b ∷ []) hints [] old new
told_line past part b hints old new end kept appended = record {
  now = past_after past (drop_cr part);
  text = hint_after past (drop_cr part);
  tells = Tells-line past part b end;
  kept = kept;
  appended = appended;
}

pub told_more : (past : Before) (a b c xs ys : List ℕ) (h k : LineHints) (old mid new : List ℕ) → (f : IsTold past a xs h b old mid) → IsTold f.now b ys k c mid new → IsTold past a (xs ++ ys) k c old new
told_more past a b c xs ys h k old mid new f g = record {
  now = g.now;
  text = f.text ++ g.text;
  tells = Tells-join past f.now g.now a b c xs ys f.text g.text f.tells g.tells;
  kept = g.kept;
  appended = g.appended ∙ ap (λ l. l ++ g.text) f.appended ∙ append_assoc old f.text g.text;
}

-- ---- lines of which no more is held than is needed
says_long : (line : List ℕ) → 4096 < length line → says_version_2 line ≡ false
says_long line long = rw (lt-ltb 4096 (length line) long) refl

version_long : (known : Option Version) (line : List ℕ) → 4096 < length line → version_with known line ≡ version_with known []
version_long (Some version) line long = refl
version_long None line long = ap (λ t. cond t V2 V1) (says_long line long)

reading_long : (known : Option Version) (line : List ℕ) → 4096 < length line → reading_with known line ≡ Err E01
reading_long (Some version) line long = long_reading version line long
reading_long None line long = ap (λ t. cond t (Ok Blank) (reading_as V1 line)) (says_long line long) ∙ long_reading V1 line long

saying_long : (asks : Bool) (known : Option Version) (line : List ℕ) → 4096 < length line → saying_with asks known line ≡ Err E01
saying_long true known line long = reading_long known line long
saying_long false known line long = ap edit_alone (reading_long known line long)

added_long : (line : List ℕ) → 4096 < length line → added_of line ≡ None
added_long line long = rw (lt-ltb 4096 (length line) long) refl

unread_long : (version : Version) (line : List ℕ) → 4096 < length line → hint_of version line ≡ Some too_long
unread_long version line long = rw (lt-ltb 4096 (length line) long) refl

hint_long : (past : Past) (line : List ℕ) → 4096 < length line → scripts.hint_after past line ≡ hint_line past.of past.number (Some too_long)
hint_long past line long =
    ap (λ r. hint_line past.of past.number (read_hint past line r)) (saying_long past.asks past.version line long)
    ∙ ap (hint_line past.of past.number) (unread_long (version_with past.version line) line long)

abbrev after_by : Past → Version → Result Line Fault → Option Record → Past
after_by past version reading added = let made = is_made past.marked past.net reading in
    record {
      of = past.of;
      asks = past.asks;
      version = Some version;
      number = past.number + 1;
      net = net_with past.net reading;
      marked = past.marked || is_mark reading;
      adds = noted past.number past.adds added made;
      makings = with_making past.number past.makings (making_of made reading);
      puts = with_put past.puts (put_of made reading);
    }

past_long : (past : Past) (line : List ℕ) → 4096 < length line → scripts.past_after past line ≡ after_by past (version_with past.version []) (Err E01) None
past_long past line long =
    ap (λ v. after_by past v (saying_with past.asks past.version line) (added_of line)) (version_long past.version line long)
    ∙ ap (λ r. after_by past (version_with past.version []) r (added_of line)) (saying_long past.asks past.version line long)
    ∙ ap (λ a. after_by past (version_with past.version []) (Err E01) a) (added_long line long)

-- of a policy and of a change
policy_long : (line : List ℕ) → 4096 < length line → policies.hint_of line ≡ Some too_long
policy_long line long = rw (lt-ltb 4096 (length line) long) refl

change_long : (version : Option Version) (line : List ℕ) → 4096 < length line → change_hint version line ≡ Some too_long
change_long (Some version) line long = unread_long version line long
change_long None line long = ap (λ t. cond t None (hint_of V1 line)) (says_long line long) ∙ unread_long V1 line long

-- two lines that are too long have one hint, and what comes behind the one comes behind the other
both_hinted : (past : Before) (a b : List ℕ) → 4096 < length a → 4096 < length b → hint_after past a ≡ hint_after past b
both_hinted (of_script past) a b one other = hint_long past a one ∙ sym (hint_long past b other)
both_hinted (of_policy number) a b one other = ap (hint_line (scripts.text_before Policy) number) (policy_long a one ∙ sym (policy_long b other))
both_hinted (of_change version number) a b one other = ap (hint_line (scripts.text_before Change) number) (change_long version a one ∙ sym (change_long version b other))

both_past : (past : Before) (a b : List ℕ) → 4096 < length a → 4096 < length b → past_after past a ≡ past_after past b
both_past (of_script past) a b one other = ap of_script (past_long past a one ∙ sym (past_long past b other))
both_past (of_policy number) a b one other = refl
both_past (of_change version number) a b one other = ap (λ v. of_change (Some v) (number + 1)) (version_long version a one ∙ sym (version_long version b other))

held_hint : (past : Before) (part held : List ℕ) → IsHeld part held → hint_after past (drop_cr held) ≡ hint_after past (drop_cr part)
held_hint past part held is =
    elim (held_cases part held is) [
      | inl same ↦ ap (λ l. hint_after past (drop_cr l)) same
      | inr long ↦ both_hinted past (drop_cr held) (drop_cr part) long.0 long.1
    ]

held_past : (past : Before) (part held : List ℕ) → IsHeld part held → past_after past (drop_cr held) ≡ past_after past (drop_cr part)
held_past past part held is =
    elim (held_cases part held is) [
      | inl same ↦ ap (λ l. past_after past (drop_cr l)) same
      | inr long ↦ both_past past (drop_cr held) (drop_cr part) long.0 long.1
    ]

lines_join : (past : Before) (part held : List ℕ) (xs ys : List (List ℕ)) → IsHeld part held → ((now : Before) → hints_from now xs ≡ hints_from now ys) → hints_from past (drop_cr held ∷ xs) ≡ hints_from past (drop_cr part ∷ ys)
lines_join past part held xs ys is same =
    ap (λ h. h ++ hints_from (past_after past (drop_cr held)) xs) (held_hint past part held is)
    ∙ ap (λ now. hint_after past (drop_cr part) ++ hints_from now xs) (held_past past part held is)
    ∙ ap (λ h. hint_after past (drop_cr part) ++ h) (same (past_after past (drop_cr part)))

abbrev HeldAlike : (List ℕ → List (List ℕ)) → Type 0
HeldAlike last = (past : Before) (part held : List ℕ) → IsHeld part held → hints_from past (last held) ≡ hints_from past (last part)

last_alike : HeldAlike last_line
last_alike past [] [] is = refl
last_alike past [] (c ∷ cs) is = absurd (one_held_of c cs is)
last_alike past (b ∷ bs) [] is = absurd (none_held_of b bs is)
last_alike past (b ∷ bs) (c ∷ cs) is = lines_join past (b ∷ bs) (c ∷ cs) [] [] is (λ now. refl)

none_alike : HeldAlike no_line
none_alike past part held is = refl

module _ (last : List ℕ → List (List ℕ)) (left : HeldAlike last) where
  lines_alike : (bytes : List ℕ) (past : Before) (part held : List ℕ) → IsHeld part held → hints_from past (lines_held last held bytes) ≡ hints_from past (lines_from last part bytes)
  lines_alike [] past part held is = left past part held is
  lines_alike (b ∷ bs) past part held is =
      elim (nat_eq b 10) as (λ t. hints_from past (cond t (drop_cr held ∷ lines_held last [] bs) (lines_held last (hold held b) bs)) ≡ hints_from past (cond t (drop_cr part ∷ lines_from last [] bs) (lines_from last (part ++ b ∷ []) bs))) [
        | true ↦ lines_join past part held (lines_held last [] bs) (lines_from last [] bs) is (λ now. lines_alike bs now [] [] IsHeld-nothing)
        | false ↦ lines_alike bs past (part ++ b ∷ []) (hold held b) (IsHeld-push part held b is)
      ]

script_alike : (of : Script) (bytes : List ℕ) → hints_of of (lines_of bytes) ≡ hints_from (nothing of) (lines_held last_line [] bytes)
script_alike of bytes = sym (lines_alike last_line last_alike bytes (nothing of) [] [] IsHeld-nothing)

ended_alike : (of : Script) (bytes : List ℕ) → hints_of of (ended_lines bytes) ≡ hints_from (nothing of) (lines_held no_line [] bytes)
ended_alike of bytes = sym (lines_alike no_line none_alike bytes (nothing of) [] [] IsHeld-nothing)

-- ---- a whole script
-- what follows some bytes
goes_on : (past now : Before) (part bytes left text : List ℕ) (last : List ℕ → List (List ℕ)) → Tells past part bytes now left text → hints_from past (lines_held last part bytes) ≡ text ++ hints_from now (last left)
goes_on past now part bytes left text last f = ap (λ l. hints_from past (lines_held last part l)) (sym (append-nil bytes)) ∙ f.lines last []

ends_held : (now end : Before) (left more : List ℕ) → Tells now left (ending left) end [] more → hints_from now (last_line left) ≡ more
ends_held now end [] more g = g.lines last_line [] ∙ append-nil more
ends_held now end (b ∷ bs) more g = g.lines last_line [] ∙ append-nil more

-- the script has ended, and its last line was taken
pub hints_whole : (of : Script) (read left text more : List ℕ) (now end : Before) → Tells (nothing of) [] read now left text → Tells now left (ending left) end [] more → hints_of of (lines_of read) ≡ text ++ more
hints_whole of read left text more now end f g = script_alike of read ∙ goes_on (nothing of) now [] read left text last_line f ∙ ap (λ h. text ++ h) (ends_held now end left more g)

-- its last line, which no line feed had ended, wasn't
pub hints_ended : (of : Script) (read left text : List ℕ) (now : Before) → Tells (nothing of) [] read now left text → hints_of of (ended_lines read) ≡ text
hints_ended of read left text now f = ended_alike of read ∙ goes_on (nothing of) now [] read left text no_line f ∙ append-nil text

-- what was told of the bytes, and of what follows
pub hints_begun : (of : Script) (read more left text : List ℕ) (now : Before) → Tells (nothing of) [] read now left text → hints_of of (lines_of (read ++ more)) ≡ text ++ hints_from now (lines_held last_line left more)
hints_begun of read more left text now f = script_alike of (read ++ more) ∙ f.lines last_line more

-- the same bytes, by other names of them
pub told_as : (past : Before) (bytes part left still : List ℕ) (hints also : LineHints) (old new now : List ℕ) → hints ≡ also → left ≡ still → new ≡ now → IsTold past part bytes hints left old new → IsTold past part bytes also still old now
told_as past bytes part left still hints also old new now e f h told =
    subst (λ x. IsTold past part bytes x still old now) e
    (subst (λ x. IsTold past part bytes hints x old now) f
    (subst (λ x. IsTold past part bytes hints left old x) h told))
