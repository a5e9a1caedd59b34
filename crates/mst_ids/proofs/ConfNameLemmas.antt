-- The text of a MAC may name a configuration.
use Rattle.std.proofs.Common.{◌≡◌, ℕ, ◌/◌, ◌%◌, ◌^◌, ◌<◌, Bool, true, ◌&&◌, List, ◌∷◌, ◌++◌, refl, arith}
use Rattle.std.specs.List.{list_all}
use Rattle.std.proofs.lemmas.Bool.{and_from, agree_below_at}
use Rattle.std.proofs.lemmas.List.Folds.{list_all-append}
use Rattle.mst_ids.specs.Texts.{is_conf_name, is_conf_name_byte, hex_digit, hex_pair, mac_text}

digit_passes : (d : ℕ) → d < 16 → is_conf_name_byte (hex_digit d) ≡ true
digit_passes d = agree_below_at (λ d. is_conf_name_byte (hex_digit d)) (λ _. true) 16 d refl

pair_passes : (n : ℕ) → n < 256 → list_all is_conf_name_byte (hex_pair n) ≡ true
pair_passes n h =
    and_from (is_conf_name_byte (hex_digit (n / 16))) (is_conf_name_byte (hex_digit (n % 16)) && true)
    (digit_passes (n / 16) (omega arith))
    (and_from (is_conf_name_byte (hex_digit (n % 16))) true (digit_passes (n % 16) (omega arith)) refl)

-- six lists that pass, with a separator that passes between
six_pass : (p : ℕ → Bool) (s : ℕ) (a b c d e f : List ℕ) → p s ≡ true → list_all p a ≡ true → list_all p b ≡ true → list_all p c ≡ true → list_all p d ≡ true → list_all p e ≡ true → list_all p f ≡ true → list_all p (a ++ s ∷ b ++ s ∷ c ++ s ∷ d ++ s ∷ e ++ s ∷ f) ≡ true
six_pass p s a b c d e f hs ha hb hc hd he hf = simp (list_all-append, hs, ha, hb, hc, hd, he, hf)

-- six pairs of digits, and five colons, are 17 bytes of 21 to 7E hexadecimal
pub is_conf_name-mac_text : (n : ℕ) → n < 2 ^ 48 → is_conf_name (mac_text n) ≡ true
unfolding mac_text
is_conf_name-mac_text n h =
    six_pass is_conf_name_byte 58 (hex_pair (n / 2 ^ 40)) (hex_pair (n / 2 ^ 32 % 256)) (hex_pair (n / 2 ^ 24 % 256)) (hex_pair (n / 2 ^ 16 % 256)) (hex_pair (n / 2 ^ 8 % 256)) (hex_pair (n % 256)) refl
    (pair_passes (n / 2 ^ 40) (omega arith))
    (pair_passes (n / 2 ^ 32 % 256) (omega arith))
    (pair_passes (n / 2 ^ 24 % 256) (omega arith))
    (pair_passes (n / 2 ^ 16 % 256) (omega arith))
    (pair_passes (n / 2 ^ 8 % 256) (omega arith))
    (pair_passes (n % 256) (omega arith))
