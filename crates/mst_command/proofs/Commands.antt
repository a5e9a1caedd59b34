-- The commands of the program's command line, by the rows of the table.
use Rattle.std.proofs.Common.{◌≡◌, ℕ, zero, suc, ◌≤◌, List, [], ◌∷◌, length, map, Option, Some, None, codes, refl, sym, ap, ◌∙◌, option_map, arith}
use Rattle.std.specs.Prelude.{fold, slice_get}
use Rattle.std.specs.Borrow.{Bor}
use Rattle.std.specs.Slice.{IsItemAt}
use Rattle.std.proofs.lemmas.Option.{slice_get-get_or, slice_get-map}
use Rattle.clap.specs.Words.{App, new_app, with_subcommand}
use Rattle.mst_command.specs.Table.{Place, place_of, row_of, verbs}
use Rattle.mst_command.specs.Words.{command_shape, no_command, place_ids, program, rules_of, with_place}
use Rattle.mst_command.specs.declared.table.Place.{Place as DeclaredPlace}
use Rattle.mst_command.specs.declared.table.Verb.{Verb}

past_end : {A : Type 0} (xs : List A) (i : ℕ) → length xs ≤ i → slice_get xs i ≡ None
past_end [] i h = refl
past_end (x ∷ xs) zero h = absurd (omega arith)
past_end (x ∷ xs) (suc i) h = past_end xs i (omega arith)

item_is : (xs : List DeclaredPlace) (i : ℕ) (r : Option (Bor DeclaredPlace)) → IsItemAt xs i r → option_map (λ place. place_of place.now) r ≡ option_map place_of (slice_get xs i)
item_is xs i None h = ap (option_map place_of) (sym (past_end xs i h.3))
item_is xs i (Some x) h = ap (λ y. Some (place_of y)) h.1 ∙ ap (option_map place_of) (sym (slice_get-get_or xs i x.now h.3.0))

-- the place that a row has there, if it has one
pub place_at : (xs : List DeclaredPlace) (places : List Place) (i : ℕ) (r : Option (Bor DeclaredPlace)) → IsItemAt xs i r → map place_of xs ≡ places → option_map (λ place. place_of place.now) r ≡ slice_get places i
place_at xs places i r h same = item_is xs i r h ∙ sym (slice_get-map place_of xs i) ∙ ap (λ ps. slice_get ps i) same

-- a command with all places of its row
abbrev pub with_all : App → List Place → App
with_all app places = with_place (with_place (with_place (with_place (with_place app (codes "1") (slice_get places 0)) (codes "2") (slice_get places 1)) (codes "3") (slice_get places 2)) (codes "4") (slice_get places 3)) (codes "5") (slice_get places 4)

pub all_placed : (name : List ℕ) (places : List Place) → (with_all (new_app name) places).top ≡ record ((new_app name).top) { rules = rules_of place_ids places }
all_placed name [] = refl
all_placed name (a ∷ []) = refl
all_placed name (a ∷ b ∷ []) = refl
all_placed name (a ∷ b ∷ c ∷ []) = refl
all_placed name (a ∷ b ∷ c ∷ d ∷ []) = refl
all_placed name (a ∷ b ∷ c ∷ d ∷ e ∷ more) = refl

-- the program with one more command
abbrev pub with_verb : App → Verb → App
with_verb app verb = with_subcommand app (command_shape (row_of verb))

pub all_verbs : fold with_verb no_command verbs ≡ program
all_verbs = refl
