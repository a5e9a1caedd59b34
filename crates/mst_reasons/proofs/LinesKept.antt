-- A line that is added to those of its name.
use Rattle.std.proofs.Common.{◌≡◌, ℕ, Bool, Bor, true, false, cond, List, [], ◌∷◌, ◌++◌, map, Option, Some, None, refl, sym, ap, ◌∙◌, append-nil}
use Rattle.std.specs.Prelude.{Vec}
use Rattle.std.specs.Option.{option_map_or}
use Rattle.std.specs.HashMap.{HashMap, get}
use Rattle.std.specs.Cmp.Lexicographic.{bytes_decides}
use Rattle.std.specs.declared.alloc.Global.{Global}
use Rattle.mst_policy.specs.declared.risk.RiskLine.{RiskLine}
use Rattle.mst_view.specs.Aggregation.{same_name}
use Rattle.mst_reasons.specs.Risks.{lines_of}
use Rattle.mst_reasons.specs.SeenRisks.{lines_at}

-- to what was kept, and was taken away
pub line_added : {S : Type 0} (old gone new : HashMap (List ℕ) (Vec (Bor RiskLine) Global) S) (line : RiskLine) (kept : Vec (Bor RiskLine) Global)
    → ((q : List ℕ) → get same_name gone q ≡ cond (same_name line.name q) None (get same_name old q))
    → ((q : List ℕ) → get same_name new q ≡ cond (same_name line.name q) (Some kept) (get same_name gone q))
    → map (λ (l : Bor RiskLine). l.now) kept.items ≡ lines_at old line.name ++ line ∷ []
    → (q : List ℕ) → lines_at new q ≡ lines_at old q ++ lines_of q (line ∷ [])
line_added old gone new line kept away put is q = go (same_name line.name q) refl
  where
    lines : Option (Vec (Bor RiskLine) Global) → List RiskLine
    lines o = option_map_or (λ w. map (λ (l : Bor RiskLine). l.now) w.items) o []

    at : (b : Bool) → same_name line.name q ≡ b → lines_at new q ≡ lines (cond b (Some kept) (cond b None (get same_name old q)))
    at b e = ap lines (put q ∙ ap (λ o. cond (same_name line.name q) (Some kept) o) (away q) ∙ ap (λ c. cond c (Some kept) (cond c None (get same_name old q))) e)

    go : (b : Bool) → same_name line.name q ≡ b → lines_at new q ≡ lines_at old q ++ cond b (line ∷ []) []
    go true e = at true e ∙ is ∙ ap (λ l. lines_at old l ++ line ∷ []) ((bytes_decides line.name q).0 e)
    go false e = at false e ∙ sym (append-nil (lines_at old q))
