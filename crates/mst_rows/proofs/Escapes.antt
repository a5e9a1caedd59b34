-- A plain text has no escapes.
use Rattle.std.proofs.Common.{◌≡◌, ◌∙◌, ℕ, true, false, List, [], ◌∷◌, ◌++◌, refl, sym, ap, true≢false}
use Rattle.std.proofs.lemmas.Bool.{and_parts, eq-eqb, ltb-false, not-true, or_parts}
use Rattle.std.specs.List.{list_all}
use Rattle.std.specs.Prelude.{◌||◌, ◌==◌, nat_lt}
use Rattle.json.specs.Print.{escape, escape_byte}
use Rattle.json.specs.Run.{is_plain}
use Rattle.json.proofs.Printed.Strings.{escape_byte_plain}

-- ---- a plain text has no escapes
differs : (b x : ℕ) → (b == x) ≡ false → b ≡ x → ⊥
differs b x other same = true≢false (sym (eq-eqb b x same) ∙ other)

plain_byte : (b : ℕ) → is_plain b ≡ true → escape_byte b ≡ b ∷ []
plain_byte b h =
    let control = or_parts ((b == 34) || (b == 92)) (nat_lt b 32) (not-true (((b == 34) || (b == 92)) || nat_lt b 32) h) in
    let others = or_parts (b == 34) (b == 92) control.0 in
    escape_byte_plain b (differs b 34 others.0) (differs b 92 others.1) (ltb-false b 32 control.1)

pub plain_escape : (text : List ℕ) → list_all is_plain text ≡ true → escape text ≡ text
plain_escape [] h = refl
plain_escape (b ∷ bs) h =
    let both = and_parts (is_plain b) (list_all is_plain bs) h in
    ap (λ l. l ++ escape bs) (plain_byte b both.0) ∙ ap (λ l. b ∷ l) (plain_escape bs both.1)
