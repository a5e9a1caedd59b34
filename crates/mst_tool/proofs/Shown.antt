-- What shows rows.
use Rattle.std.proofs.Common.{◌≡◌, ℕ, List, None, sym, ap, ◌∙◌}
use Rattle.mst_engine.specs.print.Shape.{shown}
use Rattle.mst_engine.specs.print.declared.form.Form.{Form}
use Rattle.mst_rows.specs.Rows.{Row}
use Rattle.mst_tool.specs.Shown.{IsShown}

-- where rows tell one thing, so does what shows them
pub one_shown : (form : Form) (question : Row) (P Q : List Row → Type 0) (R : Type 0) → ((a b : List Row) → P a → Q b → (a ≡ b) × R) → (a b : List ℕ) → IsShown form question P a → IsShown form question Q b → (a ≡ b) × R
one_shown form question P Q R one a b h k =
    let same = one h.0 k.0 h.1 k.1 in
    (h.2 ∙ ap (shown form None question) same.0 ∙ sym k.2, same.1)

pub same_shown : (form : Form) (question : Row) (P : List Row → Type 0) → ((a b : List Row) → P a → P b → a ≡ b) → (a b : List ℕ) → IsShown form question P a → IsShown form question P b → a ≡ b
same_shown form question P one a b h k = h.2 ∙ ap (shown form None question) (one h.0 k.0 h.1 k.1) ∙ sym k.2
