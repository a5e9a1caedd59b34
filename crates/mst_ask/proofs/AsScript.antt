-- That the network that stands is that of the script with the edits that stand behind it.
use Rattle.std.proofs.Common.{◌≡◌, ◌⊎◌, inl, inr, ℕ, ◌+◌, ◌<◌, ◌≤◌, Bool, true, false, not, cond, nat_eq, nat_lt, ◌&&◌, List, [], ◌∷◌, ◌++◌, length, map, drop, take, Option, Some, None, Result, Ok, Err, refl, sym, ap, subst, ◌∙◌, arith, codes, take-append-drop, reverse}
use Rattle.std.specs.List.{list_all}
use Rattle.std.proofs.lemmas.Grind.{common_steps}
use Rattle.std.specs.Option.{option_map_or}
use Rattle.std.proofs.lemmas.Bool.{cases_lt, eqb-true}
use Rattle.std.specs.Cmp.Lexicographic.{pointwise}
use Rattle.std.proofs.lemmas.List.{reverse-append}
use Rattle.mst_lang.specs.Arguments.{is_text}
use Rattle.mst_lang.specs.Lines.{lines_of}
use Rattle.mst_lang.specs.Faults as fault
use Rattle.mst_lang.specs.Reading.{reading_as, says_version_2, worded}
use Rattle.mst_lang.specs.Words.{is_plain, two_of, words}
use Rattle.mst_lang.specs.declared.line.Edit.{Edit}
use Rattle.mst_lang.specs.declared.line.Fault.{Fault}
use Rattle.mst_lang.specs.declared.line.Fault.TheVariants.{E01}
use Rattle.mst_lang.specs.declared.line.Line.TheVariants.{Blank, Mark, Edit as edit, Query as query}
use Rattle.mst_lang.specs.declared.line.Version.{Version}
use Rattle.mst_lang.specs.declared.line.Version.TheVariants.{V1, V2}
use Rattle.mst_net.specs.tables.After.{after}
use Rattle.mst_net.specs.tables.Tables.{Net, empty_net}
use Rattle.mst_net.specs.tables.declared.refusal.Refusal.{Refusal}
use Rattle.mst_questions.specs.tool.engine.Script.{LoadsAll, ServesRead, marked, reading_at, version_of, version_said}
use Rattle.mst_questions.specs.tool.engine.Steps.{Step, left_by, lacks_of}
use Rattle.mst_questions.specs.tool.engine.report.State.{State, empty_state}
use Rattle.mst_questions.proofs.tool_lemmas.engine_lemmas.OneRun.{answered_keeps}
use Rattle.mst_policy.specs.declared.policy.PolicyLine.{PolicyLine}
use Rattle.mst_questions.specs.tool.engine.print.Shape.{of_script}
use Rattle.mst_questions.specs.tool.engine.print.declared.form.Form.{Form}
use Rattle.mst_ask.specs.Asking.{loaded_by}
use Rattle.mst_ask.specs.Kept.{lines_net, made_by, made_in, net_or, script_net}
use Rattle.mst_ask.specs.Requests.{request_of}
use Rattle.mst_ask.specs.Standing.{Made, Standing, Turn, Asks, AsksBy, answered, back, declined, edited, edits_of, left_after, passed, starved, stepped, traced, undone, verified}
use Rattle.mst_ask.specs.declared.request.Request.{Request}
use Rattle.mst_ask.specs.declared.request.Request.TheVariants.{Script, Word, Undo, Policy, Path}
use Rattle.mst_ask.proofs.Kept.{back_in, back_none, lines_net-append, loads_net}
use Rattle.mst_ask.proofs.Requests.{script_said}

-- ---- a line that says an edit doesn't say the version
is_split : (x y : Bool) → (x && y) ≡ true → (x ≡ true) × (y ≡ true)
is_split true y h = (refl, h)
is_split false y h = absurd (cc)

same_text : (a b : List ℕ) → pointwise nat_eq a b ≡ true → a ≡ b
same_text [] [] h = refl
same_text [] (y ∷ ys) h = absurd (cc)
same_text (x ∷ xs) [] h = absurd (cc)
same_text (x ∷ xs) (y ∷ ys) h =
    let both = is_split (nat_eq x y) (pointwise nat_eq xs ys) h in
    let first : x ≡ y = eqb-true x y both.0 in
    let others : xs ≡ ys = same_text xs ys both.1 in
    λ i. first i ∷ others i

module _ (version : Version) (e : Edit) where
  no_edit : (long plain : Bool) (ws : List (List ℕ)) → cond long (Err E01) (worded version plain ws) ≡ Ok (edit e)
      → (not long && option_map_or (λ w. is_text w.0 (codes "mstplan") && is_text w.1 (codes "2")) (two_of ws) false) ≡ true → ⊥
  no_edit true plain ws h k = absurd (cc)
  no_edit false plain [] h k = absurd (cc)
  no_edit false plain (a ∷ []) h k = absurd (cc)
  no_edit false plain (a ∷ b ∷ c ∷ ws) h k = absurd (cc)
  no_edit false plain (a ∷ b ∷ []) h k = by plain (subst (λ (word : List ℕ). worded version plain (word ∷ b ∷ []) ≡ Ok (edit e)) (same_text a (codes "mstplan") (is_split (is_text a (codes "mstplan")) (is_text b (codes "2")) k).0) h)
    where
      by : (plain : Bool) → worded version plain (codes "mstplan" ∷ b ∷ []) ≡ Ok (edit e) → ⊥
      by true h = cc
      by false h = cc

  not_said : (line : List ℕ) → reading_as version line ≡ Ok (edit e) → version_said line ≡ V1
  not_said line is = by (says_version_2 line) (no_edit (nat_lt 4096 (length line)) (list_all is_plain line) (words line) is)
    where
      by : (says : Bool) → (says ≡ true → ⊥) → cond says V2 V1 ≡ V1
      by true never = absurd (never refl)
      by false never = refl

-- of a front of lines the version is the same, where it is the first
version_front : (xs ys : List (List ℕ)) → version_of (xs ++ ys) ≡ V1 → version_of xs ≡ V1
version_front [] ys h = refl
version_front (x ∷ xs) ys h = h

version_more : (xs : List (List ℕ)) (line : List ℕ) → version_of xs ≡ V1 → version_said line ≡ V1 → version_of (xs ++ line ∷ []) ≡ V1
version_more [] line h k = k
version_more (x ∷ xs) line h k = h

-- ---- the edits that stand
-- their lines are these, the newest first, and make the network that stands of this one, and none says a version
record IsOf (version : Version) (base : Net) (now : Standing) : Type 0 where
  pub lines : List (List ℕ)
  pub made : now.made ≡ made_in version base lines
  pub net : now.state.net ≡ lines_net version base (reverse lines)
  pub first : version_of (reverse lines) ≡ V1

lines_made : (version : Version) (base : Net) (lines : List (List ℕ)) → map (λ (m : Made). m.line) (made_in version base lines) ≡ lines
lines_made version base [] = refl
lines_made version base (line ∷ lines) = ap (λ others. line ∷ others) (lines_made version base lines)

reversed_more : (line : List ℕ) (lines : List (List ℕ)) → reverse (line ∷ lines) ≡ reverse lines ++ line ∷ []
reversed_more line lines = reverse-append (line ∷ []) lines

-- the first of them are left where the newest are taken back
front_left : (count : ℕ) (lines : List (List ℕ)) → reverse lines ≡ reverse (drop count lines) ++ reverse (take count lines)
front_left count lines = ap reverse (sym (take-append-drop count lines)) ∙ reverse-append (take count lines) (drop count lines)

module _ (form : Form) (version : Version) (base : Net) where
  -- a turn that leaves the network and the edits
  same_of : (now : Standing) (next : State) → next.net ≡ now.state.net → IsOf version base now → IsOf version base (record now { state = next })
  same_of now next same is = record { lines = is.lines; made = is.made; net = same ∙ is.net; first = is.first }

  turn_of : (t u : Turn) → t ≡ u → IsOf version base u.standing → IsOf version base t.standing
  turn_of t u same is = subst (λ (v : Turn). IsOf version base v.standing) (sym same) is

  mark_net : (number : ℕ) (now : State) (s : Step) → ServesRead (of_script form) number now (Ok Mark) s → s.state.net ≡ now.net
  mark_net number now s h = by s.lacking h.2
    where
      by : (lacks : Bool) → s ≡ marked (of_script form) lacks number now h.0 → s.state.net ≡ now.net
      by true k = ap (λ (u : Step). u.state.net) k
      by false k = ap (λ (u : Step). u.state.net) k

  edited_of : (number : ℕ) (now : Standing) (line : List ℕ) (e : Edit) (new : Result Net Refusal) → IsOf version base now → reading_as version line ≡ Ok (edit e) → after e now.state.net ≡ new → IsOf version base (edited form number now line new).standing
  edited_of number now line e (Err r) is says h = is
  edited_of number now line e (Ok new) is says h =
      let older = is.lines in
      let newer = reversed_more line older in
      record {
        lines = line ∷ older;
        made = λ i. record { line = line; before = is.net i } ∷ is.made i;
        net = sym
            (ap (lines_net version base) newer
            ∙ lines_net-append version base (reverse older) (line ∷ [])
            ∙ ap (λ net. made_by (reading_as version line) net) (sym is.net)
            ∙ ap (λ r. made_by r now.state.net) says
            ∙ ap (net_or now.state.net) h);
        first = ap version_of newer ∙ version_more (reverse older) line is.first (not_said version e line says);
      }

  undone_of : (number count : ℕ) (now : Standing) (was : Option (Net × List Made)) → IsOf version base now → back count now.state.net now.made ≡ was → IsOf version base (undone form number count now was).standing
  undone_of number count now None is h = is
  undone_of number count now (Some was) is h = by (cases_lt (length is.lines) count)
    where
      there : back count (lines_net version base (reverse is.lines)) (made_in version base is.lines) ≡ Some was
      there = sym (λ i. back count (is.net i) (is.made i)) ∙ h

      inside : Net × List Made → Option (Net × List Made) → Net × List Made
      inside other None = other
      inside other (Some found) = found

      by : (length is.lines < count) ⊎ (count ≤ length is.lines) → IsOf version base (record now { state = record now.state { net = was.0 }; made = was.1 })
      by (inl many) = absurd (none_some (sym (back_none version base count (lines_net version base (reverse is.lines)) is.lines many) ∙ there))
        where
          none_some : None ≡ Some was → ⊥
          none_some e = cc
      by (inr few) =
          let left = drop count is.lines in
          let same : (lines_net version base (reverse left), made_in version base left) ≡ was = ap (inside was) (sym (back_in version base count is.lines few) ∙ there) in
          record {
            lines = left;
            made = sym (ap (λ w. w.1) same);
            net = sym (ap (λ w. w.0) same);
            first = version_front (reverse left) (reverse (take count is.lines)) (sym (ap version_of (front_left count is.lines)) ∙ is.first);
          }

  asked_of : (number : ℕ) (now : Standing) (line : List ℕ) (request : Result Request Fault) (t : Turn) → request_of version line ≡ request → IsOf version base now → Asks form number now line request t → IsOf version base t.standing
  asked_of number now line (Err f) t says is h = turn_of t (declined form number now (fault.code_of f) (fault.text_of f)) h is
  asked_of number now line (Ok (Script Blank)) t says is h = turn_of t (passed now) h is
  asked_of number now line (Ok (Script Mark)) t says is h = turn_of t (stepped form now h.0) h.2 (same_of now (h.0).state (mark_net number now.state h.0 h.1) is)
  asked_of number now line (Ok (Script (query q))) t says is h =
      turn_of t (stepped form now h.0) h.2 (same_of now (h.0).state (ap (λ (u : Step). u.state.net) h.1.2 ∙ ap (λ (u : State). u.net) (answered_keeps (of_script form) (h.0).lacking number now.state q h.1.0)) is)
  asked_of number now line (Ok (Script (edit e))) t says is (inl h) = turn_of t (edited form number now line (after e now.state.net)) h (edited_of number now line e (after e now.state.net) is (script_said version line (edit e) says) refl)
  asked_of number now line (Ok (Script (edit e))) t says is (inr h) = turn_of t (starved form number now) h.1 is
  asked_of number now line (Ok (Word question)) t says is (inl h) = turn_of t (answered form now h.0 h.1) h.3 is
  asked_of number now line (Ok (Word question)) t says is (inr h) = turn_of t (starved form number now) h.1 is
  asked_of number now line (Ok (Undo count)) t says is (inl h) = turn_of t (undone form number count now (back count now.state.net now.made)) h (undone_of number count now (back count now.state.net now.made) is refl)
  asked_of number now line (Ok (Undo count)) t says is (inr h) = turn_of t (starved form number now) h.1 is
  asked_of number now line (Ok (Policy question)) t says is (inl h) = turn_of t (verified form now h.0 h.1) h.3 is
  asked_of number now line (Ok (Policy question)) t says is (inr h) = turn_of t (starved form number now) h is
  asked_of number now line (Ok (Path question)) t says is (inl h) = turn_of t (traced form now h.0 h.1) h.3 is
  asked_of number now line (Ok (Path question)) t says is (inr h) = turn_of t (starved form number now) h.1 is

  all_of : (number : ℕ) (now : Standing) (lines : List (List ℕ)) (turns : List Turn) → IsOf version base now → AsksBy form version number now lines turns → IsOf version base (left_after now turns)
  unfolding AsksBy
  all_of number now [] [] is h = is
  all_of number now [] (t ∷ turns) is h = absurd h
  all_of number now (line ∷ lines) [] is h = absurd h
  all_of number now (line ∷ lines) (t ∷ turns) is h = all_of (number + 1) t.standing lines turns (asked_of number now line (request_of version line) t refl is h.0) h.1

-- ---- the script with their lines behind it
script_net-append : (version : Version) (number : ℕ) (net : Net) (xs ys : List (List ℕ)) → script_net version number net (xs ++ ys) ≡ script_net version (number + length xs) (script_net version number net xs) ys
script_net-append version number net [] ys = ap (λ n. script_net version n net ys) (omega arith)
script_net-append version number net (x ∷ xs) ys =
    script_net-append version (number + 1) (made_by (reading_at version number x) net) xs ys
    ∙ ap (λ n. script_net version n (script_net version (number + 1) (made_by (reading_at version number x) net) xs) ys) (omega arith)

-- behind the first line, and in a script of version 1, lines are read whatever their numbers
read_later : (version : Version) (number : ℕ) (line : List ℕ) → (version ≡ V1) ⊎ (1 < number) → reading_at version number line ≡ reading_as version line
read_later V1 number line later = refl
read_later V2 number line (inl same) = absurd (cc)
read_later V2 number line (inr later) = ap (λ b. cond b (Ok Blank) (reading_as V2 line)) (not_one number later)
  where
    not_one : (n : ℕ) → 1 < n → nat_eq n 1 ≡ false
    not_one n h = grind (arith, common_steps)

later_on : (version : Version) (number : ℕ) → (version ≡ V1) ⊎ (1 < number) → (version ≡ V1) ⊎ (1 < number + 1)
later_on version number (inl same) = inl same
later_on version number (inr later) = inr (omega (arith, later))

net_later : (version : Version) (number : ℕ) (net : Net) (lines : List (List ℕ)) → (version ≡ V1) ⊎ (1 < number) → script_net version number net lines ≡ lines_net version net lines
net_later version number net [] later = refl
net_later version number net (line ∷ lines) later =
    ap (λ r. script_net version (number + 1) (made_by r net) lines) (read_later version number line later)
    ∙ net_later version (number + 1) (made_by (reading_as version line) net) lines (later_on version number later)

both_net : (xs ys : List (List ℕ)) → version_of ys ≡ V1 → script_net (version_of (xs ++ ys)) 1 empty_net (xs ++ ys) ≡ lines_net (version_of xs) (script_net (version_of xs) 1 empty_net xs) ys
both_net [] ys first = ap (λ v. script_net v 1 empty_net ys) first ∙ net_later V1 1 empty_net ys (inl refl)
both_net (x ∷ xs) ys first =
    script_net-append (version_said x) 1 empty_net (x ∷ xs) ys
    ∙ net_later (version_said x) (1 + length (x ∷ xs)) (script_net (version_said x) 1 empty_net (x ∷ xs)) ys (inr (omega arith))

pub script_stands : (form : Form) (script : List ℕ) (loads : List Step) (policy : List PolicyLine) (asked : List (List ℕ)) (turns : List Turn) (whole : List Step) → LoadsAll (of_script form) (lines_of script) loads → lacks_of loads ≡ 0 → AsksBy form (version_of (lines_of script)) 1 (loaded_by loads policy) asked turns
    → LoadsAll (of_script form) (lines_of script ++ edits_of (left_after (loaded_by loads policy) turns)) whole → lacks_of whole ≡ 0 → (left_by empty_state whole).net ≡ (left_after (loaded_by loads policy) turns).state.net
script_stands form script loads policy asked turns whole loaded full asks again too =
    let lines = lines_of script in
    let version = version_of lines in
    let now = left_after (loaded_by loads policy) turns in
    let base = script_net version 1 empty_net lines in
    let begins : IsOf version base (loaded_by loads policy) = record { lines = []; made = refl; net = loads_net (of_script form) version 1 empty_state lines loads loaded full; first = refl } in
    let is = all_of form version base 1 (loaded_by loads policy) asked turns begins asks in
    let edits : edits_of now ≡ reverse is.lines = ap reverse (ap (map (λ (m : Made). m.line)) is.made ∙ lines_made version base is.lines) in
    loads_net (of_script form) (version_of (lines ++ edits_of now)) 1 empty_state (lines ++ edits_of now) whole again too
    ∙ ap (λ l. script_net (version_of (lines ++ l)) 1 empty_net (lines ++ l)) edits
    ∙ both_net lines (reverse is.lines) is.first
    ∙ sym is.net
