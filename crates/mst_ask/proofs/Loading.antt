-- How the lines of a script are loaded, one after another.
use Rattle.std.proofs.Common.{◌≡◌, ℕ, ◌+◌, ◌≤◌, Bool, true, false, cond, List, [], ◌∷◌, ◌++◌, length, Option, Some, None, refl, sym, ap, subst, ◌∙◌, arith, append_assoc, append-nil, count_by}
use Rattle.std.proofs.lemmas.Grind.{flat_map-append}
use Rattle.std.proofs.lemmas.List.Sums.{sum_by-cons, sum_by-append}
use Rattle.std.specs.Io.KnownBytes.{Appends}
use Rattle.std.proofs.KnownBytes.{Appends-trans}
use Rattle.mst_io.specs.Written.{AppendsFront}
use Rattle.mst_io.proofs.Known.{AppendsFront-after, AppendsFront-longer}
use Rattle.mst_lang.specs.declared.line.Version.{Version}
use Rattle.mst_drive.specs.Words.{WroteFront}
use Rattle.mst_questions.specs.tool.engine.Engine.{IsCounted, Tally, does, tallied, version_from}
use Rattle.mst_questions.specs.tool.engine.Script.{Loads, LoadsAll, version_of}
use Rattle.mst_questions.specs.tool.engine.Steps.{Step, RunsBy, left_by, lacks_of, refusals_of, texts_of}
use Rattle.mst_questions.specs.tool.engine.declared.engine.Input.TheVariants.{Network}
use Rattle.mst_questions.specs.tool.engine.report.State.{State, IsState, empty_state}
use Rattle.mst_questions.proofs.tool_lemmas.engine_lemmas.Steps.{left_by-append, runs-none, runs-first}
use Rattle.mst_questions.specs.tool.engine.print.Shape.{of_script}
use Rattle.mst_questions.specs.tool.engine.print.declared.form.Form.{Form}
use Rattle.mst_questions.specs.tool.engine.print.declared.form.Shape.{Shape}
use Rattle.mst_ask.specs.Answering.{LoadsLines}

-- what the engine has served of the lines, where these are left
pub record Loading (shape : Shape) (lines left : List (List ℕ)) (t : Tally) (done : List Step) : Type 0 where
  pub goes : (more : List Step) → RunsBy (Loads shape (version_of lines)) t.number t.state left more → RunsBy (Loads shape (version_of lines)) 1 empty_state lines (done ++ more)
  pub state : t.state ≡ left_by empty_state done
  pub refused : t.refused ≡ refusals_of done
  pub memory : t.memory ≡ lacks_of done
  pub version : version_from t.version left ≡ version_of lines
  pub counted : IsCounted t

-- the first line alone says the version, where it isn't known
first_says : (known : Option Version) (line : List ℕ) (lines : List (List ℕ)) → version_from known (line ∷ lines) ≡ version_from known (line ∷ [])
first_says None line lines = refl
first_says (Some version) line lines = refl

count_one : (b : Bool) (m n : ℕ) → m ≤ n → m + cond b 1 0 ≤ n + 1
count_one true m n h = omega (arith, h)
count_one false m n h = omega (arith, h)

module _ (shape : Shape) (lines : List (List ℕ)) where
  pub loading_begins : (t : Tally) → t ≡ record { state = empty_state; version = None; number = 1; refused = 0; memory = 0; differing = 0; answered = 0 } → Loading shape lines lines t []
  loading_begins t same = subst (λ u. Loading shape lines lines u []) (sym same) (record {
    goes = λ more h. h;
    state = refl;
    refused = refl;
    memory = refl;
    version = refl;
    counted = record { refused = omega arith; memory = omega arith; differing = omega arith; answered = omega arith };
  })

  pub loading_on : (t u : Tally) (done : List Step) (line : List ℕ) (left rest : List (List ℕ)) (made : Step) → left ≡ line ∷ rest → Loading shape lines left t done
      → does (Network shape) t.version t.number t.state line made → u ≡ tallied (Network shape) t line made → Loading shape lines rest u (done ++ made ∷ [])
  loading_on t u done line left rest made cut was served after = subst (λ v. Loading shape lines rest v (done ++ made ∷ [])) (sym after) (record {
    goes = λ more h.
        subst (RunsBy (Loads shape (version_of lines)) 1 empty_state lines) (sym (append_assoc done (made ∷ []) more))
        (was.goes (made ∷ more) (subst (λ l. RunsBy (Loads shape (version_of lines)) t.number t.state l (made ∷ more)) (sym cut) (runs-first (Loads shape (version_of lines)) t.number t.state line rest made more serves h)));
    state = ap (λ now. left_by now (made ∷ [])) was.state ∙ sym (left_by-append empty_state done (made ∷ []));
    refused = counted (λ (s : Step). s.refused) t.refused was.refused;
    memory = counted (λ (s : Step). s.lacking) t.memory was.memory;
    version = says;
    counted = record {
      refused = count_one made.refused t.refused t.number was.counted.refused;
      memory = count_one made.lacking t.memory t.number was.counted.memory;
      differing = count_one made.differs t.differing t.number was.counted.differing;
      answered = count_one made.answers t.answered t.number was.counted.answered;
    };
  })
    where
      says : version_from t.version (line ∷ []) ≡ version_of lines
      says = sym (first_says t.version line rest) ∙ ap (version_from t.version) (sym cut) ∙ was.version

      serves : Loads shape (version_of lines) t.number t.state line made
      serves = subst (λ version. Loads shape version t.number t.state line made) says served

      counted : (p : Step → Bool) (n : ℕ) → n ≡ count_by p done → n + cond (p made) 1 0 ≡ count_by p (done ++ made ∷ [])
      counted p n h = omega (arith, h, sum_by-append (λ s. cond (p s) 1 0) done (made ∷ []), sum_by-cons (λ s. cond (p s) 1 0) made [])

  -- all lines were served
  pub loading_ends : (t : Tally) (done : List Step) (left : List (List ℕ)) → left ≡ [] → Loading shape lines left t done → LoadsAll shape lines done
  loading_ends t done left none was =
      subst (LoadsAll shape lines) (append-nil done) (was.goes [] (subst (λ l. RunsBy (Loads shape (version_of lines)) t.number t.state l []) (sym none) (runs-none (Loads shape (version_of lines)) t.number t.state)))

-- the texts of steps, and of one more
pub texts_on : (a b c : Option (List ℕ)) (d : List Step) (s : Step) → Appends a b (texts_of d) → Appends b c s.text → Appends a c (texts_of (d ++ s ∷ []))
texts_on a b c d s p q = subst (Appends a c) (sym (flat_map-append (λ (t : Step). t.text) d (s ∷ []))) (Appends-trans a b c (texts_of d) (texts_of (s ∷ [])) p (subst (Appends b c) (sym (append-nil s.text)) q))

-- any lines of a script can be loaded
abbrev pub AlwaysLoads : Type 0
AlwaysLoads = (shape : Shape) (version : Version) (number : ℕ) (now : State) (lines : List (List ℕ)) → IsState now → (steps : List Step) × RunsBy (Loads shape version) number now lines steps × (lacks_of steps ≡ 0)

-- the writer failed in what a line prints
pub loading_breaks : AlwaysLoads → (form : Form) (lines : List (List ℕ)) (t : Tally) (done : List Step) (line : List ℕ) (left rest : List (List ℕ)) (made : Step) (written mid now : Option (List ℕ)) → left ≡ line ∷ rest → Loading (of_script form) lines left t done
    → does (Network (of_script form)) t.version t.number t.state line made → IsState made.state → Appends written mid (texts_of done) → AppendsFront mid now made.text → WroteFront written now (LoadsLines form lines)
loading_breaks always form lines t done line left rest made written mid now cut was served network went front =
    let shape = of_script form in
    let more = always shape (version_of lines) (t.number + 1) made.state rest network in
    let says : version_from t.version (line ∷ []) ≡ version_of lines = sym (first_says t.version line rest) ∙ ap (version_from t.version) (sym cut) ∙ was.version in
    let serves : Loads shape (version_of lines) t.number t.state line made = subst (λ version. Loads shape version t.number t.state line made) says served in
    let steps = done ++ made ∷ more.0 in
    let runs = runs-first (Loads shape (version_of lines)) t.number t.state line rest made more.0 serves more.1 in
    let loaded = was.goes (made ∷ more.0) (subst (λ l. RunsBy (Loads shape (version_of lines)) t.number t.state l (made ∷ more.0)) (sym cut) runs) in (
      texts_of steps,
      record { loads = steps; loaded = loaded; printed = refl },
      subst (AppendsFront written now) (sym (flat_map-append (λ (s : Step). s.text) done (made ∷ more.0)))
          (AppendsFront-after written mid now (texts_of done) (texts_of (made ∷ more.0)) went (AppendsFront-longer mid now made.text (texts_of more.0) front)),
    )

-- what a front of the lines prints is a front of what all of them print
pub runs-append : (Does : ℕ → State → List ℕ → Step → Type 0) (n : ℕ) (now : State) (xs ys : List (List ℕ)) (a b : List Step) → RunsBy Does n now xs a → RunsBy Does (n + length xs) (left_by now a) ys b → RunsBy Does n now (xs ++ ys) (a ++ b)
unfolding RunsBy
runs-append Does n now [] ys [] b h k = subst (λ m. RunsBy Does m now ys b) (omega arith) k
runs-append Does n now [] ys (s ∷ a) b h k = absurd h
runs-append Does n now (x ∷ xs) ys [] b h k = absurd h
runs-append Does n now (x ∷ xs) ys (s ∷ a) b h k = (h.0, runs-append Does (n + 1) s.state xs ys a b h.1 (subst (λ m. RunsBy Does m (left_by s.state a) ys b) (omega arith) k))
