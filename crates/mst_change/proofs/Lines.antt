-- The lines of the steps of a change.
use Rattle.std.proofs.Common.{◌≡◌, ℕ, ◌+◌, ◌==◌, Bool, true, false, true≢false, cond, List, [], ◌∷◌, ◌++◌, Result, Ok, Err, refl, sym, ap, ◌∙◌, append-nil, append_assoc}
use Rattle.std.specs.List.{AllByRecursion}
use Rattle.std.proofs.lemmas.Grind.{flat_map-append}
use Rattle.mst_lang.specs.Ranges.{InRange}
use Rattle.mst_lang.specs.Reading.{reading_as}
use Rattle.mst_lang.specs.declared.line.Edit.{Edit}
use Rattle.mst_lang.specs.declared.line.Fault.{Fault}
use Rattle.mst_lang.specs.declared.line.Line.{Line}
use Rattle.mst_lang.specs.declared.line.Line.TheVariants.{Blank, Mark, Edit as edit, Query as query}
use Rattle.mst_lang.specs.declared.line.Version.{Version}
use Rattle.mst_lang.specs.declared.line.Version.TheVariants.{V1, V2}
use Rattle.mst_change.specs.Reading.{IsInRange, LineRead, line_read, parts_steps, read_at, reading_at, version_at}
use Rattle.mst_change.specs.Steps.{all_lines, lines_from, step_of, steps_from}

-- a line between steps does nothing
parts_none : (n : ℕ) (read : Result Line Fault) (line : List ℕ) → parts_steps read line ≡ true → line_read n read ≡ []
parts_none n (Err fault) line e = absurd (true≢false (sym e))
parts_none n (Ok Blank) line e = refl
parts_none n (Ok Mark) line e = refl
parts_none n (Ok (edit x)) line e = absurd (true≢false (sym e))
parts_none n (Ok (query q)) line e = refl

step_lines : (begun : List LineRead) → all_lines (step_of begun) ≡ begun
step_lines [] = refl
step_lines (line ∷ lines) = append-nil (line ∷ lines)

-- with what is said of the steps that follow a line, whether it stands between steps or not
module _ (read : Result Line Fault) (n : ℕ) (line : List ℕ) (begun more : List LineRead) (ended others : List (List LineRead)) where
  lines_by : (b : Bool) → parts_steps read line ≡ b → all_lines ended ≡ more → all_lines others ≡ (begun ++ line_read n read) ++ more → all_lines (cond b (step_of begun ++ ended) others) ≡ begun ++ (line_read n read ++ more)
  lines_by true e here there =
      flat_map-append (λ (l : List LineRead). l) (step_of begun) ended ∙ (λ i. step_lines begun i ++ here i) ∙ ap (λ (l : List LineRead). begun ++ (l ++ more)) (sym (parts_none n read line e))
  lines_by false e here there = there ∙ append_assoc begun (line_read n read) more

pub lines_of_steps : (known : Version) (n : ℕ) (begun : List LineRead) (lines : List (List ℕ)) → all_lines (steps_from known n begun lines) ≡ begun ++ lines_from known n lines
lines_of_steps known n begun [] = step_lines begun ∙ sym (append-nil begun)
lines_of_steps known n begun (line ∷ lines) =
    let read : Result Line Fault = read_at known n line in
    let version : Version = version_at known n line in
    lines_by read n line begun (lines_from version (n + 1) lines) (steps_from version (n + 1) [] lines) (steps_from version (n + 1) (begun ++ line_read n read) lines) (parts_steps read line) refl
    (lines_of_steps version (n + 1) [] lines) (lines_of_steps version (n + 1) (begun ++ line_read n read) lines)

-- ---- ranges
abbrev blank : Result Line Fault
blank = Ok Blank

module _ (stay : (version : Version) (line : List ℕ) (e : Edit) → reading_as version line ≡ Ok (edit e) → InRange e) where
  blank_none : (e : Edit) → blank ≡ Ok (edit e) → InRange e
  blank_none e is = absurd (cc)

  reading_in_range : (version : Version) (n : ℕ) (line : List ℕ) (e : Edit) → reading_at version n line ≡ Ok (edit e) → InRange e
  reading_in_range V1 n line e is = stay V1 line e is
  reading_in_range V2 n line e is = by (n == 1) is
    where
      by : (b : Bool) → cond b blank (reading_as V2 line) ≡ Ok (edit e) → InRange e
      by true is = blank_none e is
      by false is = stay V2 line e is

  line_in_range : (n : ℕ) (read : Result Line Fault) → ((e : Edit) → read ≡ Ok (edit e) → InRange e) → AllByRecursion IsInRange (line_read n read)
  line_in_range n (Err fault) f = (tt, tt)
  line_in_range n (Ok Blank) f = tt
  line_in_range n (Ok Mark) f = tt
  line_in_range n (Ok (edit e)) f = (f e refl, tt)
  line_in_range n (Ok (query q)) f = tt

  all_joined : {A : Type 0} (P : A → Type 0) (xs ys : List A) → AllByRecursion P xs → AllByRecursion P ys → AllByRecursion P (xs ++ ys)
  all_joined P [] ys h k = k
  all_joined P (x ∷ xs) ys h k = (h.0, all_joined P xs ys h.1 k)

  pub lines_in_range : (known : Version) (n : ℕ) (lines : List (List ℕ)) → AllByRecursion IsInRange (lines_from known n lines)
  lines_in_range known n [] = tt
  lines_in_range known n (line ∷ lines) =
      all_joined IsInRange (line_read n (read_at known n line)) (lines_from (version_at known n line) (n + 1) lines) (line_in_range n (read_at known n line) (reading_in_range (version_at known n line) n line))
      (lines_in_range (version_at known n line) (n + 1) lines)
