-- Steps that lines can do.
use Rattle.std.proofs.Common.{◌≡◌, ℕ, ◌+◌, Bool, true, false, cond, List, [], ◌∷◌, ◌++◌, Option, Some, None, Result, refl, sym, ap, ◌∙◌, arith}
use Rattle.std.proofs.lemmas.List.Sums.{sum_by-cons}
use Rattle.mst_lang.specs.declared.line.Line.{Line}
use Rattle.mst_lang.specs.declared.line.Fault.{Fault}
use Rattle.mst_lang.specs.declared.line.Version.{Version}
use Rattle.mst_report.specs.State.{State, IsState}
use Rattle.mst_engine.specs.Captures.{ServesCapture, Compares}
use Rattle.mst_engine.specs.Engine.{version_from, known_after, does, RunsOn}
use Rattle.mst_engine.specs.Script.{Serves, ServesRead, Loads, reading_at, version_said}
use Rattle.mst_engine.specs.Steps.{Step, RunsBy, left_by, lacks_of, lacking_of}
use Rattle.mst_engine.specs.declared.engine.Input.{Input}
use Rattle.mst_engine.specs.declared.engine.Input.TheVariants.{Script, Network, Captures}
use Rattle.mst_print.specs.declared.form.Form.{Form}
use Rattle.mst_print.specs.declared.form.Shape.{Shape}

-- what the line of this number of a script does in a state, by the shape of what is printed, and how what
-- it says is taken: as it stands, or loading
abbrev pub ServesBy : Shape → (Result Line Fault → Result Line Fault) → Version → ℕ → State → List ℕ → Step → Type 0
ServesBy shape how version number now line s = ServesRead shape number now (how (reading_at version number line)) s

-- any lines of an input have steps from every network on
abbrev pub AlwaysRuns : Type 0
AlwaysRuns = (input : Input) (known : Option Version) (number : ℕ) (now : State) (lines : List (List ℕ)) → IsState now → (steps : List Step) × RunsOn input known number now lines steps × (lacks_of steps ≡ 0)

pub always_runs : ((form : Form) (version : Version) (number : ℕ) (now : State) (lines : List (List ℕ)) → IsState now → (steps : List Step) × RunsBy (Serves form version) number now lines steps × (lacks_of steps ≡ 0))
    → ((shape : Shape) (version : Version) (number : ℕ) (now : State) (lines : List (List ℕ)) → IsState now → (steps : List Step) × RunsBy (Loads shape version) number now lines steps × (lacks_of steps ≡ 0))
    → ((form : Form) (number : ℕ) (now : State) (lines : List (List ℕ)) → IsState now → (steps : List Step) × Compares form number now lines steps × (lacks_of steps ≡ 0)) → AlwaysRuns
always_runs scripts networks captures (Script form) known number now lines = scripts form (version_from known lines) number now lines
always_runs scripts networks captures (Network shape) known number now lines = networks shape (version_from known lines) number now lines
always_runs scripts networks captures (Captures form) known number now lines = captures form number now lines

pub left_by-append : (now : State) (d e : List Step) → left_by now (d ++ e) ≡ left_by (left_by now d) e
left_by-append now [] e = refl
left_by-append now (s ∷ d) e = left_by-append s.state d e

-- the first of the steps met no want of memory, and the others neither
pub none_lack : (s : Step) (steps : List Step) → lacks_of (s ∷ steps) ≡ 0 → (s.lacking ≡ false) × (lacks_of steps ≡ 0)
none_lack s steps h = by s.lacking (sym (sum_by-cons (λ (t : Step). cond t.lacking 1 0) s steps) ∙ h)
  where
    by : (b : Bool) → cond b 1 0 + lacks_of steps ≡ 0 → (b ≡ false) × (lacks_of steps ≡ 0)
    by true h = absurd (omega arith)
    by false h = (refl, omega arith)

-- of two lists of steps that lack memory at the same lines the first do both or neither, and so do the others
pub alike_both : (s t : Step) (a b : List Step) → lacking_of (s ∷ a) ≡ lacking_of (t ∷ b) → (s.lacking ≡ t.lacking) × (lacking_of a ≡ lacking_of b)
alike_both s t a b alike = (ap first_of alike, ap rest_of alike)
  where
    first_of : List Bool → Bool
    first_of [] = false
    first_of (x ∷ xs) = x

    rest_of : List Bool → List Bool
    rest_of [] = []
    rest_of (x ∷ xs) = xs

-- steps of the same lines that lack none lack at the same lines
pub none_alike : (D E : ℕ → State → List ℕ → Step → Type 0) (m n : ℕ) (now other : State) (lines : List (List ℕ)) (a b : List Step) → RunsBy D m now lines a → RunsBy E n other lines b → lacks_of a ≡ 0 → lacks_of b ≡ 0 → lacking_of a ≡ lacking_of b
unfolding RunsBy
none_alike D E m n now other [] [] [] h k given too = refl
none_alike D E m n now other [] [] (t ∷ b) h k given too = absurd k
none_alike D E m n now other [] (s ∷ a) b h k given too = absurd h
none_alike D E m n now other (line ∷ lines) [] b h k given too = absurd h
none_alike D E m n now other (line ∷ lines) (s ∷ a) [] h k given too = absurd k
none_alike D E m n now other (line ∷ lines) (s ∷ a) (t ∷ b) h k given too =
    let x = none_lack s a given in
    let y = none_lack t b too in
    let rest = none_alike D E (m + 1) (n + 1) s.state t.state lines a b h.1 k.1 x.1 y.1 in
    λ i. (x.0 ∙ sym y.0) i ∷ rest i

-- where none of some steps met it, and one before neither, none does
pub no_more_lack : (s : Step) (steps : List Step) → s.lacking ≡ false → lacks_of steps ≡ 0 → lacks_of (s ∷ steps) ≡ 0
no_more_lack s steps h k =
    let none : 0 + lacks_of steps ≡ 0 = omega (arith, k) in
    sum_by-cons (λ (t : Step). cond t.lacking 1 0) s steps ∙ ap (λ b. cond b 1 0 + lacks_of steps) h ∙ none

module _ (Does : ℕ → State → List ℕ → Step → Type 0) where
  pub runs-none : (number : ℕ) (now : State) → RunsBy Does number now [] []
  unfolding RunsBy
  runs-none number now = tt

  pub runs-first : (number : ℕ) (now : State) (line : List ℕ) (lines : List (List ℕ)) (s : Step) (steps : List Step) → Does number now line s
      → RunsBy Does (number + 1) s.state lines steps → RunsBy Does number now (line ∷ lines) (s ∷ steps)
  unfolding RunsBy
  runs-first number now line lines s steps p q = (p, q)

  -- two lines of which one does what the other does
  pub runs_alike : (number : ℕ) (now : State) (x y : List ℕ) (xs ys : List (List ℕ)) (steps : List Step) → ((s : Step) → Does number now x s → Does number now y s)
      → ((n : ℕ) (now : State) (steps : List Step) → RunsBy Does n now xs steps → RunsBy Does n now ys steps) → RunsBy Does number now (x ∷ xs) steps → RunsBy Does number now (y ∷ ys) steps
  unfolding RunsBy
  runs_alike number now x y xs ys [] alike rest h = h
  runs_alike number now x y xs ys (s ∷ steps) alike rest h = (alike s h.0, rest (number + 1) s.state steps h.1)

-- no line is left
pub on-none : (input : Input) (known : Option Version) (number : ℕ) (now : State) → RunsOn input known number now [] []
on-none (Script form) known number now = runs-none (Serves form (version_from known [])) number now
on-none (Network shape) known number now = runs-none (Loads shape (version_from known [])) number now
on-none (Captures form) known number now = runs-none (ServesCapture form) number now

-- the next line of an input, and the lines after it
pub on-first : (input : Input) (known : Option Version) (number : ℕ) (now : State) (line : List ℕ) (lines : List (List ℕ)) (s : Step) (steps : List Step) → does input known number now line s
    → RunsOn input (known_after input known line) (number + 1) s.state lines steps → RunsOn input known number now (line ∷ lines) (s ∷ steps)
on-first (Script form) None number now line lines s steps p q = runs-first (Serves form (version_said line)) number now line lines s steps p q
on-first (Script form) (Some version) number now line lines s steps p q = runs-first (Serves form version) number now line lines s steps p q
on-first (Network shape) None number now line lines s steps p q = runs-first (Loads shape (version_said line)) number now line lines s steps p q
on-first (Network shape) (Some version) number now line lines s steps p q = runs-first (Loads shape version) number now line lines s steps p q
on-first (Captures form) known number now line lines s steps p q = runs-first (ServesCapture form) number now line lines s steps p q
