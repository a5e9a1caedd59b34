-- Turns that lines can do.
use Rattle.std.proofs.Common.{◌≡◌, ℕ, ◌+◌, Bool, List, [], ◌∷◌, ap}
use Rattle.mst_lang.specs.declared.line.Version.{Version}
use Rattle.mst_questions.specs.tool.engine.print.declared.form.Form.{Form}
use Rattle.mst_ask.specs.Standing.{Standing, Turn, AsksBy, AsksLine, IsStanding, lacking_of}

-- any lines can be asked, whatever stands
abbrev pub AlwaysAsks : Type 0
AlwaysAsks = (form : Form) (version : Version) (number : ℕ) (now : Standing) (lines : List (List ℕ)) → IsStanding now → (turns : List Turn) × AsksBy form version number now lines turns

-- of two lists of turns that lack memory at the same lines the first do both or neither, and so do the others
pub alike_both : (s t : Turn) (a b : List Turn) → lacking_of (s ∷ a) ≡ lacking_of (t ∷ b) → (s.lacking ≡ t.lacking) × (lacking_of a ≡ lacking_of b)
alike_both s t a b alike = (ap (first_of s.lacking) alike, ap rest_of alike)
  where
    first_of : Bool → List Bool → Bool
    first_of none [] = none
    first_of none (x ∷ xs) = x

    rest_of : List Bool → List Bool
    rest_of [] = []
    rest_of (x ∷ xs) = xs

module _ (form : Form) (version : Version) where
  pub asks-none : (number : ℕ) (now : Standing) → AsksBy form version number now [] []
  unfolding AsksBy
  asks-none number now = tt

  pub asks-first : (number : ℕ) (now : Standing) (line : List ℕ) (lines : List (List ℕ)) (t : Turn) (turns : List Turn) → AsksLine form version number now line t
      → AsksBy form version (number + 1) t.standing lines turns → AsksBy form version number now (line ∷ lines) (t ∷ turns)
  unfolding AsksBy
  asks-first number now line lines t turns p q = (p, q)

  -- two lines of which one does what the other does
  pub asks_alike : (number : ℕ) (now : Standing) (x y : List ℕ) (xs ys : List (List ℕ)) (turns : List Turn) → ((t : Turn) → AsksLine form version number now x t → AsksLine form version number now y t)
      → ((n : ℕ) (now : Standing) (turns : List Turn) → AsksBy form version n now xs turns → AsksBy form version n now ys turns) → AsksBy form version number now (x ∷ xs) turns → AsksBy form version number now (y ∷ ys) turns
  unfolding AsksBy
  asks_alike number now x y xs ys [] alike rest h = h
  asks_alike number now x y xs ys (t ∷ turns) alike rest h = (alike t h.0, rest (number + 1) t.standing turns h.1)
