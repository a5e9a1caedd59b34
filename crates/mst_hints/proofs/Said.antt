-- The table of sayings, as the code keeps it and as the definitions give it.
use Rattle.std.proofs.Common.{◌≡◌, ◌∙◌, ℕ, List, Option, Some, None, find, map, Bor, refl, ap}
use Rattle.std.specs.List.{list_any}
use Rattle.std.specs.Option.{option_map}
use Rattle.mst_hints.specs.Tools.{Saying, is_among, saying_in}
use Rattle.mst_lang.proofs.Tables.{find_map}

-- what asks for something and what is said, lent
abbrev pub Lent : Type 0
Lent = Bor (List ℕ) × Bor (List ℕ)

abbrev pub saying_entry : Lent → Saying
saying_entry lent = (lent.0.now, lent.1.now)

-- what is said
said_alike : (o : Option Lent) → option_map (λ (text : Bor (List ℕ)). text.now) (option_map (λ (e : Lent). e.1) o) ≡ option_map (λ (s : Saying). s.1) (option_map saying_entry o)
said_alike None = refl
said_alike (Some lent) = refl

pub said_found : (words : List (List ℕ)) (table : List Lent) (sayings : List Saying) → map saying_entry table ≡ sayings → option_map (λ (text : Bor (List ℕ)). text.now) (option_map (λ (e : Lent). e.1) (find (λ (e : Lent). list_any (is_among e.0.now) words) table)) ≡ saying_in sayings words
said_found words table sayings same =
    said_alike (find (λ (e : Lent). list_any (is_among e.0.now) words) table)
    ∙ ap (λ (o : Option Saying). option_map (λ (s : Saying). s.1) o) (find_map saying_entry (λ (s : Saying). list_any (is_among s.0) words) table ∙ ap (λ (ss : List Saying). find (λ (s : Saying). list_any (is_among s.0) words) ss) same)
