-- The networks that the lines which are kept make, one after another.
use Rattle.std.proofs.Common.{◌≡◌, ℕ, ◌+◌, ◌<◌, ◌≤◌, zero, suc, Bool, true, false, nat_eq, cond, List, [], ◌∷◌, ◌++◌, length, map, take, drop, Some, None, Result, Ok, Err, refl, sym, ap, ◌∙◌, arith, length-drop, take-append-drop, reverse, get_or, Vec}
use Rattle.std.proofs.Math.Seq.{take-append_seam, drop-append_seam}
use Rattle.std.specs.List.{take-map, AllByRecursion}
use Rattle.std.specs.Global.{Global}
use Rattle.std.proofs.lemmas.Grind.{common_steps}
use Rattle.std.proofs.lemmas.List.{length-reverse, length-take, map-append, reverse-append, reverse-reverse, take_more}
use Rattle.mst_lang.specs.Lines.{lines_of}
use Rattle.mst_lang.specs.Ranges.{InRange}
use Rattle.mst_lang.specs.Reading.{reading_as}
use Rattle.mst_lang.specs.declared.line.Edit.{Edit}
use Rattle.mst_lang.specs.declared.line.Fault.{Fault}
use Rattle.mst_lang.specs.declared.line.Line.{Line}
use Rattle.mst_lang.specs.declared.line.Line.TheVariants.{Blank, Mark, Edit as edit, Query as query}
use Rattle.mst_lang.specs.declared.line.Version.{Version}
use Rattle.mst_lang.specs.declared.line.Version.TheVariants.{V1, V2}
use Rattle.mst_net.specs.tables.After.{after}
use Rattle.mst_net.specs.tables.Tables.{Net, IsNetwork, empty_net}
use Rattle.mst_net.specs.tables.declared.refusal.Refusal.{Refusal}
use Rattle.mst_questions.specs.tool.engine.Script.{Loads, LoadsAll, ServesRead, edited, loading, reading_at, version_of}
use Rattle.mst_questions.specs.tool.engine.Steps.{Step, RunsBy, left_by, lacks_of}
use Rattle.mst_questions.specs.tool.engine.report.Planned.{planned_state}
use Rattle.mst_questions.specs.tool.engine.report.State.{State, IsState, empty_state}
use Rattle.mst_questions.proofs.tool_lemmas.engine_lemmas.Steps.{none_lack}
use Rattle.mst_questions.specs.tool.engine.print.declared.form.Shape.{Shape}
use Rattle.mst_ask.specs.Kept.{line_row, lines_kept as all_lines, lines_net, made_by, made_in, net_of_script, net_or, script_net, standing_of}
use Rattle.mst_ask.specs.Standing.{IsStanding, back, undone_rows}
use Rattle.mst_ask.specs.declared.standing.Standing.{Standing}

module _ (version : Version) where
  pub lines_net-append : (net : Net) (xs ys : List (List ℕ)) → lines_net version net (xs ++ ys) ≡ lines_net version (lines_net version net xs) ys
  lines_net-append net [] ys = refl
  lines_net-append net (x ∷ xs) ys = lines_net-append (made_by (reading_as version x) net) xs ys

  pub net_more : (base : Net) (lines : List (List ℕ)) (line : List ℕ) → lines_net version base (lines ++ line ∷ []) ≡ made_by (reading_as version line) (lines_net version base lines)
  net_more base lines line = lines_net-append base lines (line ∷ [])

  -- an edit more, behind the others
  pub made_more : (base net : Net) (lines : List (List ℕ)) (line : List ℕ) → net ≡ lines_net version base lines → made_in version base (reverse (lines ++ line ∷ [])) ≡ record { line = line; before = net } ∷ made_in version base (reverse lines)
  made_more base net lines line is =
      ap (made_in version base) (reverse-append lines (line ∷ []))
      ∙ ap (λ before. record { line = line; before = before } ∷ made_in version base (reverse lines)) (ap (lines_net version base) (reverse-reverse lines) ∙ sym is)

  module _ (base : Net) where
    -- what stood before the last so many edits
    pub back_in : (count : ℕ) (newest : List (List ℕ)) → count ≤ length newest
        → back count (lines_net version base (reverse newest)) (made_in version base newest) ≡ Some (lines_net version base (reverse (drop count newest)), made_in version base (drop count newest))
    back_in zero newest few = refl
    back_in (suc count) [] few = absurd (omega (arith, few))
    back_in (suc count) (line ∷ older) few = back_in count older (omega (arith, few))

    -- there are no more than lines
    pub back_none : (count : ℕ) (net : Net) (newest : List (List ℕ)) → length newest < count → back count net (made_in version base newest) ≡ None
    back_none zero net newest many = absurd (omega (arith, many))
    back_none (suc count) net [] many = refl
    back_none (suc count) net (line ∷ older) many = back_none count (lines_net version base (reverse older)) older (omega (arith, many))

    -- the rows of edits that are taken back
    pub undone_in : (count : ℕ) (newest : List (List ℕ)) → undone_rows count (made_in version base newest) ≡ map line_row (take count newest)
    undone_in zero newest = refl
    undone_in (suc count) [] = refl
    undone_in (suc count) (line ∷ older) = ap (λ rows. line_row line ∷ rows) (undone_in count older)

-- of lines, the oldest first, the newest so many are the last of them, turned around, and the others are the first
module _ (lines : List (List ℕ)) (left count : ℕ) (all : left + count ≡ length lines) where
  newest_is : reverse lines ≡ reverse (drop left lines) ++ reverse (take left lines)
  newest_is = ap reverse (sym (take-append-drop left lines)) ∙ reverse-append (take left lines) (drop left lines)

  count_is : count ≡ length (reverse (drop left lines))
  count_is = omega (arith, all, length-drop left lines, length-reverse (drop left lines))

  pub newest_taken : take count (reverse lines) ≡ reverse (drop left lines)
  newest_taken = (λ i. take (count_is i) (newest_is i)) ∙ take-append_seam (reverse (drop left lines)) (reverse (take left lines))

  pub others_left : reverse (drop count (reverse lines)) ≡ take left lines
  others_left = ap reverse ((λ i. drop (count_is i) (newest_is i)) ∙ drop-append_seam (reverse (drop left lines)) (reverse (take left lines))) ∙ reverse-reverse (take left lines)

  pub newest_left : drop count (reverse lines) ≡ reverse (take left lines)
  newest_left = (λ i. drop (count_is i) (newest_is i)) ∙ drop-append_seam (reverse (drop left lines)) (reverse (take left lines))

-- so where the newest so many edits are taken back the first are left, and the network that they made
module _ (version : Version) (base net : Net) (lines : List (List ℕ)) (is : net ≡ lines_net version base lines) where
  pub back_to : (left count : ℕ) → left + count ≡ length lines → back count net (made_in version base (reverse lines)) ≡ Some (lines_net version base (take left lines), made_in version base (reverse (take left lines)))
  back_to left count all =
      ap (λ n. back count n (made_in version base (reverse lines))) (is ∙ ap (lines_net version base) (sym (reverse-reverse lines)))
      ∙ back_in version base count (reverse lines) (omega (arith, all, length-reverse lines))
      ∙ (λ i. Some (lines_net version base (others_left lines left count all i), made_in version base (newest_left lines left count all i)))

  pub back_beyond : (count : ℕ) → length lines < count → back count net (made_in version base (reverse lines)) ≡ None
  back_beyond count many = back_none version base count net (reverse lines) (omega (arith, many, length-reverse lines))

pub rows_back : (version : Version) (base : Net) (lines : List (List ℕ)) (left count : ℕ) → left + count ≡ length lines → undone_rows count (made_in version base (reverse lines)) ≡ map line_row (reverse (drop left lines))
rows_back version base lines left count all = undone_in version base count (reverse lines) ∙ ap (map line_row) (newest_taken lines left count all)

-- ---- networks
-- what the laws say of edits
pub record Laws : Type 0 where
  pub empty : IsNetwork empty_net
  pub networks : (e : Edit) (net new : Net) → InRange e → IsNetwork net → after e net ≡ Ok new → IsNetwork new
  pub ranges : (version : Version) (line : List ℕ) (e : Edit) → reading_as version line ≡ Ok (edit e) → InRange e

module _ (laws : Laws) where
  -- an edit makes a network, where it isn't refused
  edit_kept : (e : Edit) (net : Net) (made : Result Net Refusal) → InRange e → IsNetwork net → after e net ≡ made → IsNetwork (net_or net made)
  edit_kept e net (Err r) range is h = is
  edit_kept e net (Ok new) range is h = laws.networks e net new range is h

  -- so a line does that is read in some way
  read_kept : (r : Result Line Fault) (net : Net) → ((e : Edit) → r ≡ Ok (edit e) → InRange e) → IsNetwork net → IsNetwork (made_by r net)
  read_kept (Err f) net range is = is
  read_kept (Ok Blank) net range is = is
  read_kept (Ok Mark) net range is = is
  read_kept (Ok (query q)) net range is = is
  read_kept (Ok (edit e)) net range is = edit_kept e net (after e net) (range e refl) is refl

  line_kept : (version : Version) (line : List ℕ) (net : Net) → IsNetwork net → IsNetwork (made_by (reading_as version line) net)
  line_kept version line net is = read_kept (reading_as version line) net (laws.ranges version line) is

  at_kept : (version : Version) (number : ℕ) (line : List ℕ) (net : Net) → IsNetwork net → IsNetwork (made_by (reading_at version number line) net)
  at_kept V1 number line net is = line_kept V1 line net is
  at_kept V2 number line net is = by (nat_eq number 1)
    where
      by : (first : Bool) → IsNetwork (made_by (cond first (Ok Blank) (reading_as V2 line)) net)
      by true = is
      by false = line_kept V2 line net is

  -- and all lines, and a script
  lines_kept : (version : Version) (net : Net) (lines : List (List ℕ)) → IsNetwork net → IsNetwork (lines_net version net lines)
  lines_kept version net [] is = is
  lines_kept version net (line ∷ lines) is = lines_kept version (made_by (reading_as version line) net) lines (line_kept version line net is)

  script_kept : (version : Version) (number : ℕ) (net : Net) (lines : List (List ℕ)) → IsNetwork net → IsNetwork (script_net version number net lines)
  script_kept version number net [] is = is
  script_kept version number net (line ∷ lines) is = script_kept version (number + 1) (made_by (reading_at version number line) net) lines (at_kept version number line net is)

  made_kept : (version : Version) (net : Net) (newest : List (List ℕ)) → IsNetwork net → AllByRecursion (λ m. IsNetwork m.before) (made_in version net newest)
  made_kept version net [] is = tt
  made_kept version net (line ∷ older) is = (lines_kept version net (reverse older) is, made_kept version net older is)

  -- what is kept stands
  pub standing_is : (kept : Standing) → IsState (planned_state kept.planner) → IsStanding (standing_of kept)
  standing_is kept state = record { state = state; made = made_kept kept.version (net_of_script kept.script.items) (reverse (all_lines kept)) (script_kept (version_of (lines_of kept.script.items)) 1 empty_net (lines_of kept.script.items) laws.empty) }

-- ---- a script that is loaded
-- where no line lacks memory, its network is the one that its lines make
edited_net : (shape : Shape) (number : ℕ) (now : State) (new : Result Net Refusal) → (edited shape false number now new).state.net ≡ net_or now.net new
edited_net shape number now (Err r) = refl
edited_net shape number now (Ok net) = refl

load_net : (shape : Shape) (number : ℕ) (now : State) (r : Result Line Fault) (s : Step) → ServesRead shape number now (loading r) s → s.lacking ≡ false → s.state.net ≡ made_by r now.net
load_net shape number now (Err f) s h none = ap (λ (u : Step). u.state.net) h
load_net shape number now (Ok Blank) s h none = ap (λ (u : Step). u.state.net) h
load_net shape number now (Ok Mark) s h none = ap (λ (u : Step). u.state.net) h
load_net shape number now (Ok (query q)) s h none = ap (λ (u : Step). u.state.net) h
load_net shape number now (Ok (edit e)) s h none = ap (λ (u : Step). u.state.net) (h.0 ∙ ap (λ lacks. edited shape lacks number now (after e now.net)) none) ∙ edited_net shape number now (after e now.net)

module _ (shape : Shape) (version : Version) where
  pub loads_net : (number : ℕ) (now : State) (lines : List (List ℕ)) (loads : List Step) → RunsBy (Loads shape version) number now lines loads → lacks_of loads ≡ 0 → (left_by now loads).net ≡ script_net version number now.net lines
  unfolding RunsBy
  loads_net number now [] [] h full = refl
  loads_net number now [] (s ∷ loads) h full = absurd h
  loads_net number now (line ∷ lines) [] h full = absurd h
  loads_net number now (line ∷ lines) (s ∷ loads) h full =
      let x = none_lack s loads full in
      loads_net (number + 1) s.state lines loads h.1 x.1 ∙ ap (λ net. script_net version (number + 1) net lines) (load_net shape number now (reading_at version number line) s h.0 x.0)

pub script_loaded : (shape : Shape) (script : List ℕ) (loads : List Step) → LoadsAll shape (lines_of script) loads → lacks_of loads ≡ 0 → (left_by empty_state loads).net ≡ net_of_script script
script_loaded shape script loads h full = loads_net shape (version_of (lines_of script)) 1 empty_state (lines_of script) loads h full

-- one of the first lines was made again
pub line_more : (version : Version) (base net new : Net) (made : List (Vec ℕ Global)) (left i : ℕ) (line : Vec ℕ Global) → i < length (take left made) → line ≡ get_or (take left made) i line → net ≡ lines_net version base (take i (map (λ l. l.items) made))
    → new ≡ made_by (reading_as version line.items) net → new ≡ lines_net version base (take (i + 1) (map (λ l. l.items) made))
line_more version base net new made left i line there is was made_again =
    let lines = map (λ (l : Vec ℕ Global). l.items) made in
    let at : get_or made i line ≡ line = grind (arith, common_steps) in
    let more : take (i + 1) lines ≡ take i lines ++ line.items ∷ [] =
    take-map (λ (l : Vec ℕ Global). l.items) (i + 1) made ∙ ap (map (λ (l : Vec ℕ Global). l.items)) (take_more made i line (omega (arith, there, length-take left made)) ∙ ap (λ l. take i made ++ l ∷ []) at)
    ∙ map-append (λ (l : Vec ℕ Global). l.items) (take i made) (line ∷ []) ∙ ap (λ l. l ++ line.items ∷ []) (sym (take-map (λ (l : Vec ℕ Global). l.items) i made)) in
    made_again ∙ ap (made_by (reading_as version line.items)) was ∙ sym (net_more version base (take i lines) line.items) ∙ ap (lines_net version base) (sym more)
