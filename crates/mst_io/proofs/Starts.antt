-- How a line begins, by which it is told whether it is skipped, and that what is held of it begins alike.
use Rattle.std.proofs.Common.{◌≡◌, ℕ, suc, zero, ◌+◌, ◌<◌, ◌≤◌, Bool, true, false, nat_eq, cond, List, [], ◌∷◌, ◌++◌, length, take, get_or, refl, sym, ap, ◌∙◌, arith, inl, inr, set, eq-eqb, append_assoc, length-append, length-take-le}
use Rattle.std.specs.Prelude.{◌||◌, ◌&&◌}
use Rattle.std.proofs.lemmas.Bool.{cases_lt, lt-ltb, le-ltb}
use Rattle.std.proofs.lemmas.Grind.{common_steps}
use Rattle.std.proofs.lemmas.List.{take_all, take_more_set, take-append-le, length-set}
use Rattle.std.proofs.lemmas.List.Folds.{list_all-append, list_all_more}
use Rattle.mst_lang.specs.Words.{is_blank}
use Rattle.mst_io.specs.Held.{are_blank, hold}

-- ---- how a line begins
-- the bytes from the first that is no blank on, two at most
abbrev pub first_one : List ℕ → List ℕ
first_one [] = []
first_one (b ∷ bs) = b ∷ []

abbrev pub start_of : List ℕ → List ℕ
start_of [] = []
start_of (b ∷ bs) = cond (is_blank b) (start_of bs) (b ∷ first_one bs)

-- with one byte more
abbrev pub start_with : List ℕ → ℕ → List ℕ
start_with [] b = cond (is_blank b) [] (b ∷ [])
start_with (x ∷ []) b = x ∷ b ∷ []
start_with (x ∷ y ∷ ys) b = x ∷ y ∷ ys

first_with : (x : ℕ) (xs : List ℕ) (b : ℕ) → x ∷ first_one (xs ++ b ∷ []) ≡ start_with (x ∷ first_one xs) b
first_with x [] b = refl
first_with x (y ∷ ys) b = refl

pub start_of-push : (xs : List ℕ) (b : ℕ) → start_of (xs ++ b ∷ []) ≡ start_with (start_of xs) b
start_of-push [] b = refl
start_of-push (x ∷ xs) b =
    elim (is_blank x) as (λ t. cond t (start_of (xs ++ b ∷ [])) (x ∷ first_one (xs ++ b ∷ [])) ≡ start_with (cond t (start_of xs) (x ∷ first_one xs)) b) [
      | true ↦ start_of-push xs b
      | false ↦ first_with x xs b
    ]

-- ---- what is held
pub hold-room : (held : List ℕ) (b : ℕ) → length held < 4098 → hold held b ≡ held ++ b ∷ []
unfolding hold
hold-room held b room = ap (λ t. cond t (held ++ b ∷ []) (cond (are_blank (take 4097 held)) (take 4096 held ++ get_or held 4097 0 ∷ b ∷ []) held)) (lt-ltb (length held) 4098 room)

pub hold-full : (held : List ℕ) (b : ℕ) → 4098 ≤ length held → hold held b ≡ cond (are_blank (take 4097 held)) (take 4096 held ++ get_or held 4097 0 ∷ b ∷ []) held
unfolding hold
hold-full held b full = ap (λ t. cond t (held ++ b ∷ []) (cond (are_blank (take 4097 held)) (take 4096 held ++ get_or held 4097 0 ∷ b ∷ []) held)) (le-ltb (length held) 4098 full)

full_length : (t : Bool) (n : ℕ) (held : List ℕ) (x b : ℕ) → length held ≡ n + 2 → length (cond t (take n held ++ x ∷ b ∷ []) held) ≡ n + 2
full_length true n held x b e = omega (arith, e, length-append (take n held) (x ∷ b ∷ []), length-take-le n held (omega arith))
full_length false n held x b e = e

start_blank : (x : ℕ) (xs : List ℕ) → is_blank x ≡ true → start_of (x ∷ xs) ≡ start_of xs
start_blank x xs e = ap (λ t. cond t (start_of xs) (x ∷ first_one xs)) e

start_other : (x : ℕ) (xs : List ℕ) → is_blank x ≡ false → start_of (x ∷ xs) ≡ x ∷ first_one xs
start_other x xs e = ap (λ t. cond t (start_of xs) (x ∷ first_one xs)) e

start_kept : (x y b : ℕ) (ys : List ℕ) → is_blank x ≡ false → start_of (x ∷ y ∷ ys) ≡ start_with (start_of (x ∷ y ∷ ys)) b
start_kept x y b ys e = let s = start_other x (y ∷ ys) e in s ∙ ap (λ l. start_with l b) (sym s)

full_two : (x y b : ℕ) (t : Bool) → is_blank x ≡ t → start_of (cond (t && true) (y ∷ b ∷ []) (x ∷ y ∷ [])) ≡ start_with (start_of (x ∷ y ∷ [])) b
full_two x y b true e = start_of-push (y ∷ []) b ∙ ap (λ l. start_with l b) (sym (start_blank x (y ∷ []) e))
full_two x y b false e = start_kept x y b [] e

full_more : (x y b : ℕ) (ys zs : List ℕ) (t c : Bool) → is_blank x ≡ t → start_of (cond c zs (y ∷ ys)) ≡ start_with (start_of (y ∷ ys)) b → start_of (cond (t && c) (x ∷ zs) (x ∷ y ∷ ys)) ≡ start_with (start_of (x ∷ y ∷ ys)) b
full_more x y b ys zs true true e h = start_blank x zs e ∙ h ∙ ap (λ l. start_with l b) (sym (start_blank x (y ∷ ys) e))
full_more x y b ys zs true false e h = start_blank x (y ∷ ys) e ∙ h ∙ ap (λ l. start_with l b) (sym (start_blank x (y ∷ ys) e))
full_more x y b ys zs false c e h = start_kept x y b ys e

-- in what is full a blank gives way
full_start : (n : ℕ) (held : List ℕ) (b : ℕ) → length held ≡ n + 2 → start_of (cond (are_blank (take (suc n) held)) (take n held ++ get_or held (suc n) 0 ∷ b ∷ []) held) ≡ start_with (start_of held) b
full_start n [] b e = absurd (omega arith)
full_start n (x ∷ []) b e = absurd (omega arith)
full_start zero (x ∷ y ∷ []) b e = full_two x y b (is_blank x) refl
full_start zero (x ∷ y ∷ z ∷ zs) b e = absurd (omega arith)
full_start (suc n) (x ∷ y ∷ ys) b e =
    full_more x y b ys (take n (y ∷ ys) ++ get_or (y ∷ ys) (suc n) 0 ∷ b ∷ []) (is_blank x) (are_blank (take (suc n) (y ∷ ys))) refl (full_start n (y ∷ ys) b (omega arith))

-- ---- what is held begins as what has come
pub record IsHeld (part held : List ℕ) : Type 0 where
  pub short : length part ≤ 4098 → held ≡ part
  pub long : 4098 < length part → length held ≡ 4098
  pub start : start_of held ≡ start_of part

pub IsHeld-nothing : IsHeld [] []
IsHeld-nothing = record { short = λ _. refl; long = λ h. absurd (omega (arith, h)); start = refl }

held_in_room : (part held : List ℕ) (b : ℕ) → length part < 4098 → held ≡ part → IsHeld (part ++ b ∷ []) (hold held b)
held_in_room part held b room e =
    let same : hold held b ≡ part ++ b ∷ [] = hold-room held b (omega (arith, ap length e, room)) ∙ ap (λ l. l ++ b ∷ []) e in
    record {
      short = λ _. same;
      long = λ long. absurd (omega (arith, long, room, length-append part (b ∷ [])));
      start = ap start_of same;
    }

held_in_full : (part held : List ℕ) (b : ℕ) → 4098 ≤ length part → length held ≡ 4098 → start_of held ≡ start_of part → IsHeld (part ++ b ∷ []) (hold held b)
held_in_full part held b full size start =
    let same = hold-full held b (omega (arith, size)) in
    record {
      short = λ short. absurd (omega (arith, short, full, length-append part (b ∷ [])));
      long = λ _. ap length same ∙ full_length (are_blank (take 4097 held)) 4096 held (get_or held 4097 0) b size;
      start = ap start_of same ∙ full_start 4096 held b size ∙ ap (λ l. start_with l b) start ∙ sym (start_of-push part b);
    }

pub IsHeld-push : (part held : List ℕ) (b : ℕ) → IsHeld part held → IsHeld (part ++ b ∷ []) (hold held b)
IsHeld-push part held b was =
    elim (cases_lt (length part) 4098) [
      | inl room ↦ held_in_room part held b room (was.short (omega (arith, room)))
      | inr full ↦ held_in_full part held b full (held_size part held was full) was.start
    ]
  where
    held_size : (part held : List ℕ) → IsHeld part held → 4098 ≤ length part → length held ≡ 4098
    held_size part held was full =
        elim (cases_lt 4098 (length part)) [
          | inl long ↦ was.long long
          | inr short ↦ ap length (was.short short) ∙ omega (arith, full, short)
        ]

-- ---- how it is kept
-- a byte goes behind the first `len` of the buffer
pub pushed : (bytes : List ℕ) (len byte : ℕ) (now : List ℕ) → len < 4098 → length bytes ≡ 4098 → take len bytes ≡ now → take (len + 1) (set bytes len byte) ≡ hold now byte
pushed bytes len byte now room size view =
    take_more_set bytes len byte (omega (arith, room, size)) ∙ ap (λ l. l ++ byte ∷ []) view
    ∙ sym (hold-room now byte (omega (arith, ap length (sym view), length-take-le len bytes (omega (arith, room, size)), room)))

both_left : (a b : Bool) → (a && b) ≡ true → a ≡ true
both_left true b h = refl
both_left false b h = h

both_true : (a : Bool) → a ≡ (a && true)
both_true true = refl
both_true false = refl

both_or_true : (a b : Bool) → (a && (true || b)) ≡ a
both_or_true true b = refl
both_or_true false b = refl

-- in the place of the last byte
kept_last : (bytes : List ℕ) (len byte : ℕ) (was : Bool) → len ≡ 4097 → length bytes ≡ 4098 → was ≡ are_blank (take 4097 (take len bytes)) → (was && (nat_eq len 4097 || is_blank byte)) ≡ are_blank (take 4097 (take len bytes ++ byte ∷ []))
kept_last bytes len byte was place size e =
    ap (λ t. was && (t || is_blank byte)) (eq-eqb len 4097 place) ∙ both_or_true was (is_blank byte) ∙ e
    ∙ ap are_blank (sym (take-append-le 4097 (take len bytes) (byte ∷ []) (omega (arith, place, size, length-take-le len bytes (omega (arith, place, size))))))

-- in a place before it
kept_before : (bytes : List ℕ) (len byte : ℕ) (was : Bool) → len < 4097 → length bytes ≡ 4098 → was ≡ are_blank (take 4097 (take len bytes)) → (was && (nat_eq len 4097 || is_blank byte)) ≡ are_blank (take 4097 (take len bytes ++ byte ∷ []))
kept_before bytes len byte was place size e =
    let within : length (take len bytes) ≤ 4097 = omega (arith, place, size, length-take-le len bytes (omega (arith, place, size))) in
    let room : length (take len bytes ++ byte ∷ []) ≤ 4097 = omega (arith, place, size, length-take-le len bytes (omega (arith, place, size)), length-append (take len bytes) (byte ∷ [])) in
    ap (λ t. was && (t || is_blank byte)) (other_place len place)
    ∙ ap (λ t. t && is_blank byte) (e ∙ ap are_blank (take_all 4097 (take len bytes) within))
    ∙ ap (λ t. are_blank (take len bytes) && t) (both_true (is_blank byte))
    ∙ sym (list_all-append is_blank (take len bytes) (byte ∷ [])) ∙ ap are_blank (sym (take_all 4097 (take len bytes ++ byte ∷ []) room))
  where
    other_place : (len : ℕ) → len < 4097 → nat_eq len 4097 ≡ false
    other_place len h = grind (arith, common_steps)

pub kept_blank : (bytes : List ℕ) (len byte : ℕ) (was : Bool) → len < 4098 → length bytes ≡ 4098 → was ≡ are_blank (take 4097 (take len bytes)) → (was && (nat_eq len 4097 || is_blank byte)) ≡ are_blank (take 4097 (take (len + 1) (set bytes len byte)))
kept_blank bytes len byte was room size e =
    elim (cases_lt len 4097) [
      | inl before ↦ kept_before bytes len byte was before size e
      | inr last ↦ kept_last bytes len byte was (omega (arith, last, room)) size e
    ]
    ∙ ap (λ l. are_blank (take 4097 l)) (sym (take_more_set bytes len byte (omega (arith, room, size))))

-- the last two places
last_two : (bytes : List ℕ) (n last byte : ℕ) → length bytes ≡ n + 1 + 1 → take (n + 1 + 1) (set (set bytes n last) (n + 1) byte) ≡ (take n bytes ++ last ∷ []) ++ byte ∷ []
last_two bytes n last byte size =
    take_more_set (set bytes n last) (n + 1) byte (omega (arith, size, length-set bytes n last))
    ∙ ap (λ l. l ++ byte ∷ []) (take_more_set bytes n last (omega (arith, size)))

pub given_way : (bytes now : List ℕ) (len byte : ℕ) → 4098 ≤ len → len ≤ 4098 → length bytes ≡ 4098 → take len bytes ≡ now → are_blank (take 4097 (take len bytes)) ≡ true → take len (set (set bytes 4096 (get_or bytes 4097 0)) 4097 byte) ≡ hold now byte
given_way bytes now len byte full within size view blank =
    let len_is : len ≡ 4098 = omega (arith, full, within) in
    let all : now ≡ bytes = sym view ∙ take_all len bytes (omega (arith, full, size)) in
    let blank_now : are_blank (take 4097 now) ≡ true = ap (λ l. are_blank (take 4097 l)) (sym view) ∙ blank in
    ap (λ n. take n (set (set bytes 4096 (get_or bytes 4097 0)) 4097 byte)) len_is
    ∙ last_two bytes 4096 (get_or bytes 4097 0) byte size
    ∙ append_assoc (take 4096 bytes) (get_or bytes 4097 0 ∷ []) (byte ∷ [])
    ∙ ap (λ l. take 4096 l ++ get_or l 4097 0 ∷ byte ∷ []) (sym all)
    ∙ ap (λ t. cond t (take 4096 now ++ get_or now 4097 0 ∷ byte ∷ []) now) (sym blank_now)
    ∙ sym (hold-full now byte (omega (arith, ap length all, size)))

pub given_way_blank : (bytes : List ℕ) (len byte : ℕ) → 4098 ≤ len → len ≤ 4098 → length bytes ≡ 4098 → are_blank (take 4097 (take len bytes)) ≡ true → is_blank (get_or bytes 4097 0) ≡ are_blank (take 4097 (take len (set (set bytes 4096 (get_or bytes 4097 0)) 4097 byte)))
given_way_blank bytes len byte full within size blank =
    let last = get_or bytes 4097 0 in
    let len_is : len ≡ 4098 = omega (arith, full, within) in
    let whole : take len bytes ≡ bytes = take_all len bytes (omega (arith, full, size)) in
    let front_size : length (take 4096 bytes) ≡ 4096 = length-take-le 4096 bytes (omega (arith, size)) in
    let front : are_blank (take 4096 bytes) ≡ true = both_left (are_blank (take 4096 bytes)) (is_blank (get_or bytes 4096 0))
    (sym (list_all_more is_blank bytes 4096 0 (omega (arith, size))) ∙ ap (λ l. are_blank (take 4097 l)) (sym whole) ∙ blank) in
    both_true (is_blank last)
    ∙ ap (λ t. t && (is_blank last && true)) (sym front)
    ∙ sym (list_all-append is_blank (take 4096 bytes) (last ∷ []))
    ∙ ap are_blank (sym (take_all 4097 (take 4096 bytes ++ last ∷ []) (omega (arith, front_size, length-append (take 4096 bytes) (last ∷ [])))))
    ∙ ap are_blank (sym (take-append-le 4097 (take 4096 bytes ++ last ∷ []) (byte ∷ []) (omega (arith, front_size, length-append (take 4096 bytes) (last ∷ [])))))
    ∙ ap (λ l. are_blank (take 4097 l)) (sym (ap (λ n. take n (set (set bytes 4096 last) 4097 byte)) len_is ∙ last_two bytes 4096 last byte size))

pub not_given_way : (bytes now : List ℕ) (len byte : ℕ) → 4098 ≤ len → len ≤ 4098 → length bytes ≡ 4098 → take len bytes ≡ now → are_blank (take 4097 (take len bytes)) ≡ false → now ≡ hold now byte
not_given_way bytes now len byte full within size view other =
    let other_now : are_blank (take 4097 now) ≡ false = ap (λ l. are_blank (take 4097 l)) (sym view) ∙ other in
    let size_now : length now ≡ 4098 = ap length (sym view) ∙ length-take-le len bytes (omega (arith, within, size)) ∙ omega (arith, full, within) in
    sym (hold-full now byte (omega (arith, size_now)) ∙ ap (λ t. cond t (take 4096 now ++ get_or now 4097 0 ∷ byte ∷ []) now) other_now)
