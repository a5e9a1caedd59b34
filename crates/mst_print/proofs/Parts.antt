-- What is written by parts is what a row is printed as.
use Rattle.std.proofs.Common.{◌≡◌, ◌∙◌, ℕ, List, [], ◌∷◌, ◌++◌, sym, ap, append_assoc}
use Rattle.std.proofs.lemmas.List.{append-nil}
use Rattle.std.specs.Prelude.{codes, decimal}
use Rattle.json.specs.Print.{escape_byte, quoted}
use Rattle.mst_bpdu.specs.CaptureText.{fault_row}
use Rattle.mst_bpdu.specs.Faults.{fault_code, fault_text}
use Rattle.mst_bpdu.specs.declared.fault.BpduFault.{BpduFault}
use Rattle.mst_kinds.specs.Kinds.{first_of_refusal_line}
use Rattle.mst_kinds.specs.Words.{mark_text}
use Rattle.mst_kinds.specs.declared.key.Key.TheVariants as key
use Rattle.mst_kinds.specs.declared.part.Part.{Part}
use Rattle.mst_kinds.specs.declared.part.Part.TheVariants as part
use Rattle.mst_kinds.specs.declared.refusal_line.RefusalLine.{RefusalLine}
use Rattle.mst_rows.specs.Answers.{IsPlain, named, parts_json, refusal_line}
use Rattle.mst_rows.specs.Cells.{word}
use Rattle.mst_rows.specs.Lines.{parts_text, row_line}
use Rattle.mst_print.specs.declared.form.Form.TheVariants.{Text, Json}
use Rattle.mst_print.specs.declared.form.Side.{Side}
use Rattle.mst_print.specs.declared.form.Side.TheVariants.{Only, Old, New}
use Rattle.mst_print.specs.Parts.{code_line, code_object, side_member, side_word, word_line, word_object}
use Rattle.mst_print.specs.Shape.{IsOfQuestion, coded_in, listed, unanswered}
use Rattle.mst_print.proofs.Plain.{capture_code, capture_text, first_word}

-- ---- lines
-- three words and the end of the line
words_end : (d c t : List ℕ) → d ++ (32 ∷ (c ++ (32 ∷ (t ++ 10 ∷ [])))) ≡ (d ++ (32 ∷ (c ++ (32 ∷ (t ++ []))))) ++ 10 ∷ []
words_end d c t = simp append_assoc

pub line_is : (side : Side) (number : ℕ) (code text : List ℕ) → code_line (side_word side) number code text ≡ coded_in Text side number code text
line_is Only number code text = ap (λ l. codes "line " ++ l) (words_end (decimal number) code text)
line_is Old number code text = ap (λ l. codes "old line " ++ l) (words_end (decimal number) code text)
line_is New number code text = ap (λ l. codes "new line " ++ l) (words_end (decimal number) code text)

pub fault_is : (number : ℕ) (f : BpduFault) → code_line (codes "capture ") number (fault_code f) (fault_text f) ≡ listed Text (fault_row number f ∷ [])
fault_is number f =
    ap (λ l. codes "capture " ++ l) (words_end (decimal number) (fault_code f) (fault_text f) ∙ sym (append-nil ((decimal number ++ (32 ∷ (fault_code f ++ (32 ∷ (fault_text f ++ []))))) ++ 10 ∷ [])))

-- ---- objects
-- a code and a text, which need no escapes, before the end of an object
codes_end : (d code text end : List ℕ) → IsPlain code → IsPlain text
    → d ++ (codes ",\"error\":\"" ++ (code ++ (codes "\",\"text\":\"" ++ (text ++ 34 ∷ end)))) ≡ (d ++ (codes ",\"error\":" ++ (quoted code ++ (codes ",\"text\":" ++ (quoted text ++ []))))) ++ end
codes_end d code text end plain other =
    let members = λ (a b : List ℕ). (d ++ (codes ",\"error\":" ++ (a ++ (codes ",\"text\":" ++ (b ++ []))))) ++ end in
    let as_is = λ (w : List ℕ). 34 ∷ (w ++ 34 ∷ []) in
    let both : members (quoted code) (quoted text) ≡ members (as_is code) (as_is text) = ap (λ a. members a (quoted text)) plain ∙ ap (members (as_is code)) other in
    let same : d ++ (codes ",\"error\":\"" ++ (code ++ (codes "\",\"text\":\"" ++ (text ++ 34 ∷ end)))) ≡ members (as_is code) (as_is text) = simp append_assoc in
    same ∙ sym both

pub object_is : (side : Side) (number : ℕ) (code text : List ℕ) → IsPlain code → IsPlain text → code_object (side_member side) number code text ≡ coded_in Json side number code text
unfolding named escape_byte
object_is Only number code text plain other = ap (λ l. codes "{\"line\":" ++ l) (codes_end (decimal number) code text (codes "}\n") plain other)
object_is Old number code text plain other = ap (λ l. codes "{\"side\":\"old\",\"line\":" ++ l) (codes_end (decimal number) code text (codes "}\n") plain other)
object_is New number code text plain other = ap (λ l. codes "{\"side\":\"new\",\"line\":" ++ l) (codes_end (decimal number) code text (codes "}\n") plain other)

-- a record, on a line of its own, alone
line_end : (record_front : List ℕ) → record_front ++ codes "}\n" ≡ ((record_front ++ 125 ∷ []) ++ 10 ∷ []) ++ []
line_end front = sym (append-nil ((front ++ 125 ∷ []) ++ 10 ∷ []) ∙ append_assoc front (125 ∷ []) (10 ∷ []))

pub record_is : (number : ℕ) (f : BpduFault) → code_object (codes "\"kind\":\"capture\",") number (fault_code f) (fault_text f) ≡ listed Json (fault_row number f ∷ [])
unfolding named escape_byte
record_is number f =
    let members = decimal number ++ (codes ",\"error\":" ++ (quoted (fault_code f) ++ (codes ",\"text\":" ++ (quoted (fault_text f) ++ [])))) in
    ap (λ l. codes "{\"kind\":\"capture\",\"line\":" ++ l) (codes_end (decimal number) (fault_code f) (fault_text f) (codes "}\n") (capture_code f) (capture_text f) ∙ line_end members)

-- ---- of a question
pub word_line_is : (line : RefusalLine) (code text : List ℕ) → IsOfQuestion line → word_line (mark_text (first_of_refusal_line line)) code text ≡ unanswered Text line code text
word_line_is line code text of =
    let first = mark_text (first_of_refusal_line line) in
    let said = λ (parts : List Part). first ++ (parts_text parts (word code ∷ word text ∷ []) ++ 10 ∷ []) in
    ap (λ l. first ++ l) (words_end [] code text) ∙ ap said (sym of)

pub word_object_is : (line : RefusalLine) (code text : List ℕ) → IsOfQuestion line → IsPlain code → IsPlain text → word_object (mark_text (first_of_refusal_line line)) code text ≡ unanswered Json line code text
unfolding named escape_byte
word_object_is line code text of plain other =
    let first = mark_text (first_of_refusal_line line) in
    let said = λ (q : List ℕ) (parts : List Part). codes "{\"query\":" ++ ((q ++ parts_json parts (word code ∷ word text ∷ [])) ++ codes "}\n") in
    let rest = codes ",\"error\":\"" ++ (code ++ (codes "\",\"text\":\"" ++ (text ++ codes "\"}\n"))) in
    ap (λ l. codes "{\"query\":\"" ++ l) (sym (append_assoc first (34 ∷ []) rest) ∙ codes_end (first ++ 34 ∷ []) code text (codes "}\n") plain other)
    ∙ ap (λ q. said q (part.Key key.Error ∷ part.Key key.Text ∷ [])) (sym (first_word line))
    ∙ ap (said (quoted first)) (sym of)
