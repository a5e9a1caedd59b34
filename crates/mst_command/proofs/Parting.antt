-- Flags among the words before the first `--`.
use Rattle.std.proofs.Common.{◌≡◌, ℕ, ◌+◌, ◌<◌, ◌≤◌, Bool, true, false, not, List, [], ◌∷◌, ◌++◌, map, length, take, drop, get_or, String, string_bytes, sym, ap, ap₂, ◌∙◌, append_assoc, arith, add-one, take-append-drop}
use Rattle.std.specs.Prelude.{◌&&◌, ◌||◌, if◌then◌else◌}
use Rattle.std.specs.Str.{bytes_eq}
use Rattle.std.specs.declared.alloc.Global.{Global}
use Rattle.std.proofs.lemmas.List.{drop_more, length-append, length-drop, length-take, length-take-le, map-append}
use Rattle.std.proofs.Math.ListN.{drop_of_length-le}
use Rattle.std.proofs.Math.Seq.{drop-append_seam, take-append_seam, take-suc}
use Rattle.mst_command.specs.Flags.{has_flag, is_flag, without_flags}
use Rattle.mst_command.specs.Words.{is_dashes}

abbrev pub texts : List (String Global) → List (List ℕ)
texts words = map string_bytes words

-- ---- whether a flag stands there

has_flag_more : (flag : List ℕ) (words : List (String Global)) (i : ℕ) (d : String Global) → i < length words
    → has_flag flag (texts (drop i words)) ≡ (not (is_dashes (string_bytes (get_or words i d))) && (bytes_eq (string_bytes (get_or words i d)) flag || has_flag flag (texts (drop (i + 1) words))))
has_flag_more flag words i d h = ap (λ l. has_flag flag (texts l)) (drop_more words i d h)

pub none_behind : (flag : List ℕ) (words : List (String Global)) (i : ℕ) (d : String Global) → i < length words → is_dashes (string_bytes (get_or words i d)) ≡ true → has_flag flag (texts (drop i words)) ≡ false
none_behind flag words i d h dashes =
    has_flag_more flag words i d h ∙ ap (λ (x : Bool). not x && (bytes_eq (string_bytes (get_or words i d)) flag || has_flag flag (texts (drop (i + 1) words)))) dashes

pub found_here : (flag : List ℕ) (words : List (String Global)) (i : ℕ) (d : String Global) → i < length words → is_dashes (string_bytes (get_or words i d)) ≡ false → bytes_eq (string_bytes (get_or words i d)) flag ≡ true
    → has_flag flag (texts (drop i words)) ≡ true
found_here flag words i d h dashes is =
    has_flag_more flag words i d h ∙ ap₂ (λ (x y : Bool). not x && (y || has_flag flag (texts (drop (i + 1) words)))) dashes is

pub found_later : (flag : List ℕ) (words : List (String Global)) (i : ℕ) (d : String Global) → i < length words → is_dashes (string_bytes (get_or words i d)) ≡ false → bytes_eq (string_bytes (get_or words i d)) flag ≡ false
    → has_flag flag (texts (drop i words)) ≡ has_flag flag (texts (drop (i + 1) words))
found_later flag words i d h dashes is =
    has_flag_more flag words i d h ∙ ap₂ (λ (x y : Bool). not x && (y || has_flag flag (texts (drop (i + 1) words)))) dashes is

-- ---- words without flags

without_more : (words : List (String Global)) (i : ℕ) (d : String Global) → i < length words
    → without_flags (texts (drop i words))
    ≡ (if is_dashes (string_bytes (get_or words i d)) then string_bytes (get_or words i d) ∷ texts (drop (i + 1) words)
    else if is_flag (string_bytes (get_or words i d)) then without_flags (texts (drop (i + 1) words)) else string_bytes (get_or words i d) ∷ without_flags (texts (drop (i + 1) words)))
without_more words i d h = ap (λ l. without_flags (texts l)) (drop_more words i d h)

-- behind `--` all stay
pub stays_behind : (words : List (String Global)) (i : ℕ) (d : String Global) → i < length words → is_dashes (string_bytes (get_or words i d)) ≡ true → without_flags (texts (drop i words)) ≡ texts (drop i words)
stays_behind words i d h dashes =
    without_more words i d h
    ∙ ap (λ (x : Bool). if x then string_bytes (get_or words i d) ∷ texts (drop (i + 1) words)
    else if is_flag (string_bytes (get_or words i d)) then without_flags (texts (drop (i + 1) words)) else string_bytes (get_or words i d) ∷ without_flags (texts (drop (i + 1) words))) dashes
    ∙ sym (ap texts (drop_more words i d h))

-- a flag goes, and another word stays
flag_goes : (words : List (String Global)) (i : ℕ) (d : String Global) → i < length words → is_dashes (string_bytes (get_or words i d)) ≡ false → is_flag (string_bytes (get_or words i d)) ≡ true
    → without_flags (texts (drop i words)) ≡ without_flags (texts (drop (i + 1) words))
flag_goes words i d h dashes is =
    without_more words i d h
    ∙ ap₂ (λ (x y : Bool). if x then string_bytes (get_or words i d) ∷ texts (drop (i + 1) words)
    else if y then without_flags (texts (drop (i + 1) words)) else string_bytes (get_or words i d) ∷ without_flags (texts (drop (i + 1) words))) dashes is

word_stays : (words : List (String Global)) (i : ℕ) (d : String Global) → i < length words → is_dashes (string_bytes (get_or words i d)) ≡ false → is_flag (string_bytes (get_or words i d)) ≡ false
    → without_flags (texts (drop i words)) ≡ string_bytes (get_or words i d) ∷ without_flags (texts (drop (i + 1) words))
word_stays words i d h dashes is =
    without_more words i d h
    ∙ ap₂ (λ (x y : Bool). if x then string_bytes (get_or words i d) ∷ texts (drop (i + 1) words)
    else if y then without_flags (texts (drop (i + 1) words)) else string_bytes (get_or words i d) ∷ without_flags (texts (drop (i + 1) words))) dashes is

take_all : (words : List (String Global)) (i : ℕ) → texts (take i words) ++ texts (drop i words) ≡ texts words
take_all words i = sym (map-append string_bytes (take i words) (drop i words)) ∙ ap texts (take-append-drop i words)

-- ---- the words as they change

-- where all before this place were looked at, these are to be the words that are left
abbrev pub LookedAt : List (List ℕ) → List (String Global) → ℕ → Type 0
LookedAt all words i = all ≡ texts (take i words) ++ without_flags (texts (drop i words))

pub flag_gone : (all : List (List ℕ)) (words new : List (String Global)) (i : ℕ) (d : String Global) → i < length words → is_dashes (string_bytes (get_or words i d)) ≡ false → is_flag (string_bytes (get_or words i d)) ≡ true
    → new ≡ take i words ++ drop (i + 1) words → LookedAt all words i → LookedAt all new i
flag_gone all words new i d h dashes is now was =
    let long : length (take i words) ≡ i = length-take-le i words (omega arith) in
    let front : take i new ≡ take i words = ap (take i) now ∙ ap (λ n. take n (take i words ++ drop (i + 1) words)) (sym long) ∙ take-append_seam (take i words) (drop (i + 1) words) in
    let back : drop i new ≡ drop (i + 1) words = ap (drop i) now ∙ ap (λ n. drop n (take i words ++ drop (i + 1) words)) (sym long) ∙ drop-append_seam (take i words) (drop (i + 1) words) in
    was ∙ ap (λ l. texts (take i words) ++ l) (flag_goes words i d h dashes is) ∙ ap₂ (λ x y. texts x ++ without_flags (texts y)) (sym front) (sym back)

pub word_kept : (all : List (List ℕ)) (words : List (String Global)) (i : ℕ) (d : String Global) → i < length words → is_dashes (string_bytes (get_or words i d)) ≡ false → is_flag (string_bytes (get_or words i d)) ≡ false
    → LookedAt all words i → LookedAt all words (i + 1)
word_kept all words i d h dashes is was =
    let rest = without_flags (texts (drop (i + 1) words)) in
    let one : take (i + 1) words ≡ take i words ++ (get_or words i d ∷ []) = rw (add-one) (take-suc words i d h) in
    was ∙ ap (λ l. texts (take i words) ++ l) (word_stays words i d h dashes is)
    ∙ sym (append_assoc (texts (take i words)) (string_bytes (get_or words i d) ∷ []) rest)
    ∙ ap (λ l. l ++ rest) (sym (map-append string_bytes (take i words) (get_or words i d ∷ [])) ∙ ap texts (sym one))

pub all_looked_at : (all : List (List ℕ)) (words : List (String Global)) (i : ℕ) → length words ≤ i → LookedAt all words i → texts words ≡ all
all_looked_at all words i h was =
    let none : drop i words ≡ [] = drop_of_length-le words h in
    sym (was ∙ ap (λ l. texts (take i words) ++ without_flags (texts l)) none ∙ ap (λ l. texts (take i words) ++ texts l) (sym none) ∙ take_all words i)

pub looked_at_dashes : (all : List (List ℕ)) (words : List (String Global)) (i : ℕ) (d : String Global) → i < length words → is_dashes (string_bytes (get_or words i d)) ≡ true → LookedAt all words i → texts words ≡ all
looked_at_dashes all words i d h dashes was = sym (was ∙ ap (λ l. texts (take i words) ++ l) (stays_behind words i d h dashes) ∙ take_all words i)

-- one word less
pub shorter : (words new : List (String Global)) (i : ℕ) → i < length words → new ≡ take i words ++ drop (i + 1) words → length new + 1 ≡ length words
shorter words new i h now = rw now (simp (length-append, length-take, length-drop) (omega arith))
