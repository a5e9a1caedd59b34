-- What is told of a policy in front of all steps.
use Rattle.std.proofs.Common.{◌≡◌, ◌∙◌, ◌++◌, ◌&&◌, ℕ, Bool, true, false, true≢false, List, [], ◌∷◌, Result, Ok, Err, is_some, ap, refl, sym}
use Rattle.std.specs.List.{flat_map, list_all}
use Rattle.mst_lang.specs.declared.line.Fault.{Fault}
use Rattle.mst_policy.specs.Lines.{risk_in}
use Rattle.mst_policy.specs.declared.policy.PolicyLine.{PolicyLine}
use Rattle.mst_policy.specs.declared.risk.Said.{Said}
use Rattle.mst_rows.specs.Rows.{Row}
use Rattle.mst_telling.specs.Told.{unread_by, unread_rows}

-- lines of risks can be read
read_one : (n : ℕ) (read : Result Said Fault) → is_some (risk_in read) ≡ true → unread_by n read ≡ []
read_one n (Err fault) e = absurd (true≢false (sym e))
read_one n (Ok said) e = refl

both : (a b : Bool) → (a && b) ≡ true → (a ≡ true) × (b ≡ true)
both true b e = (refl, e)
both false b e = absurd (true≢false (sym e))

pub none_unread : (lines : List PolicyLine) → list_all (λ (line : PolicyLine). is_some (risk_in line.read)) lines ≡ true → flat_map unread_rows lines ≡ []
none_unread [] e = refl
none_unread (line ∷ lines) e =
    let h = both (is_some (risk_in line.read)) (list_all (λ (line : PolicyLine). is_some (risk_in line.read)) lines) e in
    ap (λ (rows : List Row). rows ++ flat_map unread_rows lines) (read_one line.number line.read h.0) ∙ none_unread lines h.1
