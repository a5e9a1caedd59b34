-- What stands where an edit was made or taken back.
use Rattle.std.proofs.Common.{◌≡◌, ℕ, ◌+◌, ◌-◌, ◌<◌, ◌≤◌, false, List, [], ◌∷◌, ◌++◌, Vec, length, map, take, drop, reverse, Some, None, is_some, Ok, sym, ap, ◌∙◌, subst, arith}
use Rattle.std.specs.Prelude.{IsSome}
use Rattle.std.specs.Global.{Global}
use Rattle.std.specs.List.{take-map, drop-map}
use Rattle.std.proofs.lemmas.List.{length-map, map-append}
use Rattle.mst_lang.specs.Reading.{reading_as}
use Rattle.mst_lang.specs.declared.line.Edit.{Edit}
use Rattle.mst_lang.specs.declared.line.Line.TheVariants.{Edit as edit}
use Rattle.mst_net.specs.tables.After.{after}
use Rattle.mst_questions.specs.tool.engine.report.Planned.{Planned, planned_state}
use Rattle.mst_questions.specs.tool.engine.print.Shape.{listed}
use Rattle.mst_questions.specs.tool.engine.print.declared.form.Form.{Form}
use Rattle.mst_ask.specs.Kept.{IsKept, Keeps, line_row, lines_kept, lines_net, made_by, made_in, net_of_script, net_or, rows_of, standing_of}
use Rattle.mst_ask.specs.Replies.{replied}
use Rattle.mst_ask.specs.Standing.{back, turned, undone, undone_rows, with_edit}
use Rattle.mst_ask.specs.declared.reply.Reply.TheVariants.{Undone}
use Rattle.mst_ask.specs.declared.standing.Standing.{Standing}
use Rattle.mst_ask.proofs.Kept.{back_beyond, back_to, made_more, net_more, rows_back}

-- a line more
abbrev one_more : (old new : List (Vec ℕ Global)) (line : List ℕ) → Keeps old line new → map (λ (l : Vec ℕ Global). l.items) new ≡ map (λ (l : Vec ℕ Global). l.items) old ++ line ∷ []
one_more old new line k = ap (map (λ (l : Vec ℕ Global). l.items)) k.2 ∙ map-append (λ (l : Vec ℕ Global). l.items) old (k.0 ∷ []) ∙ ap (λ l. map (λ (l : Vec ℕ Global). l.items) old ++ l ∷ []) k.1

module _ (old : Standing) (planner : Planned) (made : Vec (Vec ℕ Global) Global) (kept : IsKept old) where
  -- ---- an edit that was made
  module _ (line : List ℕ) (e : Edit) (keeps : Keeps old.made.items line made.items) (says : reading_as old.version line ≡ Ok (edit e)) (is : after e (planned_state old.planner).net ≡ Ok (planned_state planner).net) where
    pub edit_kept : IsKept (record old { planner = planner; made = made })
    edit_kept = record {
      version = kept.version;
      few = kept.few;
      net = sym
          (ap (lines_net old.version (net_of_script old.script.items)) (one_more old.made.items made.items line keeps)
          ∙ net_more old.version (net_of_script old.script.items) (lines_kept old) line
          ∙ ap (made_by (reading_as old.version line)) (sym kept.net)
          ∙ ap (λ r. made_by r (planned_state old.planner).net) says
          ∙ ap (net_or (planned_state old.planner).net) is);
    }

    pub edit_stands : planner.mark ≡ old.planner.mark → standing_of (record old { planner = planner; made = made }) ≡ with_edit (standing_of old) line (planned_state planner).net
    edit_stands mark =
        let edits = ap (λ lines. made_in old.version (net_of_script old.script.items) (reverse lines)) (one_more old.made.items made.items line keeps)
        ∙ made_more old.version (net_of_script old.script.items) (planned_state old.planner).net (lines_kept old) line kept.net in
        λ i. record { state = record { net = (planned_state planner).net; mark = mark i }; policy = old.policy; made = edits i }

  -- ---- edits that were taken back
  module _ (left count : ℕ) (all : left + count ≡ length old.made.items) (items : made.items ≡ take left old.made.items)
      (is : (planned_state planner).net ≡ lines_net old.version (net_of_script old.script.items) (take left (lines_kept old))) where
    first_left : map (λ (l : Vec ℕ Global). l.items) made.items ≡ take left (lines_kept old)
    first_left = ap (map (λ (l : Vec ℕ Global). l.items)) items ∙ sym (take-map (λ (l : Vec ℕ Global). l.items) left old.made.items)

    pub undo_kept : IsKept (record old { planner = planner; made = made })
    undo_kept = record { version = kept.version; few = kept.few; net = is ∙ ap (lines_net old.version (net_of_script old.script.items)) (sym first_left) }

    whole : left + count ≡ length (lines_kept old)
    whole = all ∙ sym (length-map old.made.items (λ (l : Vec ℕ Global). l.items))

    was : Some ((planned_state planner).net, made_in old.version (net_of_script old.script.items) (reverse (map (λ (l : Vec ℕ Global). l.items) made.items)))
        ≡ back count (planned_state old.planner).net (made_in old.version (net_of_script old.script.items) (reverse (lines_kept old)))
    was =
        (λ i. Some (is i, made_in old.version (net_of_script old.script.items) (reverse (first_left i))))
        ∙ sym (back_to old.version (net_of_script old.script.items) (planned_state old.planner).net (lines_kept old) kept.net left count whole)

    rows : rows_of (drop left old.made.items) ≡ undone_rows count (made_in old.version (net_of_script old.script.items) (reverse (lines_kept old)))
    rows =
        ap (λ lines. map line_row (reverse lines)) (sym (drop-map (λ (l : Vec ℕ Global). l.items) left old.made.items))
        ∙ sym (rows_back old.version (net_of_script old.script.items) (lines_kept old) left count whole)

    pub undo_stands : (form : Form) (number : ℕ) (text : Vec ℕ Global) → text.items ≡ listed form (rows_of (drop left old.made.items)) → planner.mark ≡ old.planner.mark
        → replied form number (standing_of (record old { planner = planner; made = made })) (Undone text) ≡ undone form number count (standing_of old) (back count (planned_state old.planner).net (standing_of old).made)
    undo_stands form number text told mark =
        let printed = told ∙ ap (listed form) rows in
        (λ i. turned form (record { state = record { net = (planned_state planner).net; mark = mark i }; policy = old.policy; made = made_in old.version (net_of_script old.script.items) (reverse (map (λ (l : Vec ℕ Global). l.items) made.items)) }) (printed i) false false false)
        ∙ ap (undone form number count (standing_of old)) was

-- there were fewer
pub undo_none : (old : Standing) (kept : IsKept old) (form : Form) (number count : ℕ) → length old.made.items < count → undone form number count (standing_of old) None ≡ undone form number count (standing_of old) (back count (planned_state old.planner).net (standing_of old).made)
undo_none old kept form number count many =
    ap (undone form number count (standing_of old))
    (sym (back_beyond old.version (net_of_script old.script.items) (planned_state old.planner).net (lines_kept old) kept.net count (subst (λ n. n < count) (sym (length-map old.made.items (λ (l : Vec ℕ Global). l.items))) many)))

-- there were as many, so that they may be taken back
pub undo_may : (old : Standing) (kept : IsKept old) (count : ℕ) → count ≤ length old.made.items → IsSome (back count (planned_state old.planner).net (standing_of old).made)
undo_may old kept count few =
    let lines = lines_kept old in
    let all : length lines ≡ length old.made.items = length-map old.made.items (λ (l : Vec ℕ Global). l.items) in
    ap is_some (back_to old.version (net_of_script old.script.items) (planned_state old.planner).net lines kept.net (length lines - count) count (omega (arith, all, few)))
