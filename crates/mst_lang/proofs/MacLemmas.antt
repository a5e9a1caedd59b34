-- A MAC that a text gives has 48 bits.
use Rattle.std.proofs.Common.{◌≡◌, ℕ, ◌+◌, ◌^◌, ◌<◌, ◌≤◌, Bool, true, false, List, length, Option, Some, None, refl, arith}
use Rattle.std.specs.Prelude.{◌==◌, ◌&&◌, [], ◌∷◌, IfSome, if◌then◌else◌, slice_index, nat_le}
use Rattle.std.specs.Option.{option_and_then}
use Rattle.std.specs.List.{list_all}
use Rattle.std.specs.Char.{is_ascii_digit}
use Rattle.std.proofs.lemmas.Bool.{and_parts, leb-true}
use Rattle.mst_ids.specs.Texts.{hex_value, octet_at, is_separator, mac_value}

-- a value if a test passes
if_passed : {X : Type 0} (P : X → Type 0) (b : Bool) (o p : Option X) → (b ≡ true → IfSome o P) → IfSome p P → IfSome (if b then o else p) P
if_passed P true o p h i = h refl
if_passed P false o p h i = i

-- a value that is made of another
made_of : {X Y : Type 0} (P : X → Type 0) (Q : Y → Type 0) (f : X → Option Y) (o : Option X) → IfSome o P → ((x : X) → P x → IfSome (f x) Q) → IfSome (option_and_then f o) Q
made_of P Q f None h i = tt
made_of P Q f (Some x) h i = i x h

-- a number from the least to the most
pub between : (low high n : ℕ) → (nat_le low n && nat_le n high) ≡ true → (low ≤ n) × (n ≤ high)
between low high n h = let both = and_parts (nat_le low n) (nat_le n high) h in (leb-true low n both.0, leb-true n high both.1)

-- a digit is below 16
digit_fits : (b : ℕ) → IfSome (hex_value b) (λ d. d < 16)
digit_fits b =
    if_passed (λ d. d < 16) (is_ascii_digit b) _ _ (λ h. let i = between 48 57 b h in omega arith)
    (if_passed (λ d. d < 16) (nat_le 97 b && nat_le b 102) _ _ (λ h. let i = between 97 102 b h in omega arith)
    (if_passed (λ d. d < 16) (nat_le 65 b && nat_le b 70) _ _ (λ h. let i = between 65 70 b h in omega arith) tt))

-- an octet is below 256
octet_fits : (text : List ℕ) (i : ℕ) → IfSome (octet_at text i) (λ n. n < 256)
octet_fits text i =
    made_of (λ d. d < 16) _ _ _ (digit_fits (slice_index text i)) (λ x p.
    made_of (λ d. d < 16) _ _ _ (digit_fits (slice_index text (i + 1))) (λ y q. omega arith))

-- six octets make 48 bits
pub mac_fits : (text : List ℕ) → IfSome (mac_value text) (λ mac. mac < 2 ^ 48)
mac_fits text = if_passed (λ mac. mac < 2 ^ 48) (length text == 17 && list_all (λ i. is_separator (slice_index text i)) (2 ∷ 5 ∷ 8 ∷ 11 ∷ 14 ∷ [])) _ None
    (λ _. next _ 0 (λ a p. next _ 3 (λ b q. next _ 6 (λ c r. next _ 9 (λ d s. next _ 12 (λ e t. next _ 15 (λ f u. omega arith))))))) tt
  where
    next : (f : ℕ → Option ℕ) (i : ℕ) → ((x : ℕ) → x < 256 → IfSome (f x) (λ mac. mac < 2 ^ 48)) → IfSome (option_and_then f (octet_at text i)) (λ mac. mac < 2 ^ 48)
    next f i h = made_of (λ n. n < 256) (λ mac. mac < 2 ^ 48) f (octet_at text i) (octet_fits text i) h
