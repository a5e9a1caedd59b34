-- A port that is added to those of a name.
use Rattle.std.proofs.Common.{◌≡◌, ℕ, Bool, true, false, cond, List, [], ◌∷◌, ◌++◌, Option, Some, None, refl, sym, ap, ◌∙◌, append-nil}
use Rattle.std.specs.Prelude.{Vec}
use Rattle.std.specs.Option.{option_map_or}
use Rattle.std.specs.HashMap.{HashMap, get}
use Rattle.std.specs.Cmp.Lexicographic.{bytes_decides}
use Rattle.std.specs.declared.alloc.Global.{Global}
use Rattle.mst_view.specs.Aggregation.{same_name}
use Rattle.mst_view.specs.declared.in_view.PortInView.{PortInView}
use Rattle.mst_slips.specs.Kept.{kept_at}

-- to what was kept, and was taken away
pub port_added : {S : Type 0} (old gone new : HashMap (List ℕ) (Vec PortInView Global) S) (name : List ℕ) (port : PortInView) (kept : Vec PortInView Global)
    → ((q : List ℕ) → get same_name gone q ≡ cond (same_name name q) None (get same_name old q))
    → ((q : List ℕ) → get same_name new q ≡ cond (same_name name q) (Some kept) (get same_name gone q))
    → kept.items ≡ kept_at old name ++ port ∷ []
    → (q : List ℕ) → kept_at new q ≡ kept_at old q ++ cond (same_name name q) (port ∷ []) []
port_added old gone new name port kept away put is q = go (same_name name q) refl
  where
    items : Option (Vec PortInView Global) → List PortInView
    items o = option_map_or (λ w. w.items) o []

    at : (b : Bool) → same_name name q ≡ b → kept_at new q ≡ items (cond b (Some kept) (cond b None (get same_name old q)))
    at b e = ap items (put q ∙ ap (λ o. cond (same_name name q) (Some kept) o) (away q) ∙ ap (λ c. cond c (Some kept) (cond c None (get same_name old q))) e)

    go : (b : Bool) → same_name name q ≡ b → kept_at new q ≡ kept_at old q ++ cond b (port ∷ []) []
    go true e = at true e ∙ is ∙ ap (λ l. kept_at old l ++ port ∷ []) ((bytes_decides name q).0 e)
    go false e = at false e ∙ sym (append-nil (kept_at old q))
