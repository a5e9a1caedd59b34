-- The texts of identifiers: which text stands for which value.
use Rattle.std.specs.Prelude.{ℕ, ◌+◌, ◌-◌, ◌*◌, ◌/◌, ◌%◌, ◌^◌, Bool, false, ◌==◌, ◌&&◌, ◌||◌, List, [], ◌∷◌, ◌++◌, length, slice_index, Option, None, Some, nat_lt, nat_le, if◌then◌else◌}
use Rattle.std.specs.List.{list_all}
use Rattle.std.specs.Char.{is_ascii_alphanumeric, is_ascii_digit}
use Rattle.std.specs.Option.{option_and_then}

-- a byte that may stand in a name
abbrev pub is_name_byte : ℕ → Bool
is_name_byte b = is_ascii_alphanumeric b || (b == 95 || (b == 45 || b == 46))

-- 1 to 16 letters, digits, `_`, `-` and `.`, the first a letter or a digit
abbrev pub is_name : List ℕ → Bool
is_name [] = false
is_name (b ∷ bs) = is_ascii_alphanumeric b && (nat_lt (length bs) 16 && list_all is_name_byte bs)

-- a byte that may stand in the name of a configuration
abbrev pub is_conf_name_byte : ℕ → Bool
is_conf_name_byte b = nat_le 0x21 b && nat_le b 0x7E

-- 1 to 32 bytes, each of 21 to 7E hexadecimal
abbrev pub is_conf_name : List ℕ → Bool
is_conf_name text = nat_le 1 (length text) && (nat_le (length text) 32 && list_all is_conf_name_byte text)

-- what a hexadecimal digit of either case stands for
abbrev pub hex_value : ℕ → Option ℕ
hex_value b =
    if is_ascii_digit b then Some (b - 48)
    else (if nat_le 97 b && nat_le b 102 then Some (b - 87)
    else (if nat_le 65 b && nat_le b 70 then Some (b - 55) else None))

-- two digits from a place on
abbrev pub octet_at : List ℕ → ℕ → Option ℕ
octet_at text i = option_and_then (λ x. option_and_then (λ y. Some (x * 16 + y)) (hex_value (slice_index text (i + 1)))) (hex_value (slice_index text i))

abbrev pub is_separator : ℕ → Bool
is_separator b = b == 58 || b == 45

-- the number of a MAC's text: six pairs, with `:` or `-` between two pairs
abbrev pub mac_value : List ℕ → Option ℕ
mac_value text =
    if length text == 17 && list_all (λ i. is_separator (slice_index text i)) (2 ∷ 5 ∷ 8 ∷ 11 ∷ 14 ∷ [])
    then option_and_then (λ a. option_and_then (λ b. option_and_then (λ c. option_and_then (λ d. option_and_then (λ e. option_and_then (λ f.
    Some (a * 2 ^ 40 + b * 2 ^ 32 + c * 2 ^ 24 + d * 2 ^ 16 + e * 2 ^ 8 + f))
    (octet_at text 15)) (octet_at text 12)) (octet_at text 9)) (octet_at text 6)) (octet_at text 3)) (octet_at text 0)
    else None

-- one lower case digit
abbrev pub hex_digit : ℕ → ℕ
hex_digit d = if nat_lt d 10 then 48 + d else 87 + d

-- one octet
abbrev pub hex_pair : ℕ → List ℕ
hex_pair n = hex_digit (n / 16) ∷ hex_digit (n % 16) ∷ []

-- the text of a MAC
unfoldable pub mac_text : ℕ → List ℕ
mac_text n =
    hex_pair (n / 2 ^ 40) ++ 58 ∷ hex_pair (n / 2 ^ 32 % 256) ++ 58 ∷ hex_pair (n / 2 ^ 24 % 256)
    ++ 58 ∷ hex_pair (n / 2 ^ 16 % 256) ++ 58 ∷ hex_pair (n / 2 ^ 8 % 256) ++ 58 ∷ hex_pair (n % 256)

-- a number of 16 bits
abbrev pub hex_four : ℕ → List ℕ
hex_four n = hex_pair (n / 256) ++ hex_pair (n % 256)

-- the text of a Bridge Identifier: its first two octets, a full stop, its MAC address
unfoldable pub bridge_id_text : ℕ → List ℕ
bridge_id_text n = hex_four (n / 2 ^ 48) ++ 46 ∷ mac_text (n % 2 ^ 48)

-- the text of a Port Identifier
unfoldable pub port_id_text : ℕ → List ℕ
port_id_text n = hex_four n
