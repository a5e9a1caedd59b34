-- The table of the program's words.
use Rattle.std.specs.Prelude.{ℕ, Bool, true, false, List, [], ◌∷◌, Option, codes, find}
use Rattle.std.specs.Str.{bytes_eq}
use Rattle.mst_command.specs.declared.table.Place.{Place as DeclaredPlace}
use Rattle.mst_command.specs.declared.table.Verb.{Verb}
use Rattle.mst_command.specs.declared.table.Verb.TheVariants.{Run, Check, Explain, Diff, Sweep, Summary, Dot, Ask, Verify, Edits, Steps, Advise, Path}

-- a place behind a word of the program: what help calls it, and whether a word has to stand there
pub record Place : Type 0 where
  pub name : List ℕ
  pub is_wanted : Bool

-- one where a word must stand, and one where one may
abbrev pub must : List ℕ → Place
must name = record { name = name; is_wanted = true }

abbrev pub may : List ℕ → Place
may name = record { name = name; is_wanted = false }

-- a word of the program: its name, the places behind it, of which there are five at most, and whether it tells in JSON, too
pub record Row : Type 0 where
  pub name : List ℕ
  pub places : List Place
  pub is_json : Bool

abbrev pub row : List ℕ → List Place → Bool → Row
row name places is_json = record { name = name; places = places; is_json = is_json }

-- THE TABLE: a word, and the words that must or may stand behind it, in this order
abbrev pub row_of : Verb → Row
row_of Run = row (codes "run") (must (codes "FILE") ∷ []) true
row_of Check = row (codes "check") (must (codes "FILE") ∷ must (codes "CAPTURES") ∷ []) true
row_of Explain = row (codes "explain") (must (codes "FILE") ∷ must (codes "B") ∷ must (codes "P") ∷ may (codes "TREE") ∷ []) true
row_of Diff = row (codes "diff") (must (codes "OLD") ∷ must (codes "NEW") ∷ []) true
row_of Sweep = row (codes "sweep") (must (codes "FILE") ∷ may (codes "PART") ∷ may (codes "OF_PAIRS") ∷ []) true
row_of Summary = row (codes "summary") (must (codes "FILE") ∷ []) true
row_of Dot = row (codes "dot") (must (codes "FILE") ∷ must (codes "TREE") ∷ may (codes "VID") ∷ []) false
row_of Ask = row (codes "ask") (must (codes "FILE") ∷ may (codes "POLICY") ∷ []) true
row_of Verify = row (codes "verify") (must (codes "FILE") ∷ must (codes "POLICY") ∷ []) true
row_of Edits = row (codes "edits") (must (codes "OLD") ∷ must (codes "NEW") ∷ []) true
row_of Steps = row (codes "steps") (must (codes "FILE") ∷ must (codes "CHANGE") ∷ may (codes "POLICY") ∷ []) true
row_of Advise = row (codes "advise") (must (codes "FILE") ∷ must (codes "GOAL") ∷ must (codes "TREE") ∷ must (codes "B") ∷ may (codes "P") ∷ []) true
row_of Path = row (codes "path") (must (codes "FILE") ∷ must (codes "VID") ∷ must (codes "A") ∷ must (codes "B") ∷ may (codes "ALWAYS") ∷ []) true

-- all of them
abbrev pub verbs : List Verb
verbs = Run ∷ Check ∷ Explain ∷ Diff ∷ Sweep ∷ Summary ∷ Dot ∷ Ask ∷ Verify ∷ Edits ∷ Steps ∷ Advise ∷ Path ∷ []

-- the word of this name
abbrev pub verb_named : List ℕ → Option Verb
verb_named name = find (λ verb. bytes_eq (row_of verb).name name) verbs

-- ---- the same, as it is declared

abbrev pub place_of : DeclaredPlace → Place
place_of place = record { name = place.name.now; is_wanted = place.is_wanted }
