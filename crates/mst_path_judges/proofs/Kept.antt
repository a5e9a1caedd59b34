-- Stretches as they are kept are compared by their hops and the names of their bridges.
use Rattle.std.proofs.Common.{◌≡◌, ◌&&◌, ◌==◌, ℕ, Bool, true, false, true≢false, is_some, eq-eqb, List, [], Option, Some, None, refl, sym, ap}
use Rattle.std.specs.Bool.{Decides}
use Rattle.std.specs.Option.{option_eq}
use Rattle.std.specs.Cmp.Lexicographic.{bytes_decides, pointwise, pointwise_decides}
use Rattle.std.proofs.lemmas.Bool.{and_parts, eqb-true}
use Rattle.mst_view.specs.Aggregation.{same_name}
use Rattle.mst_judged.specs.reasons.Stretches.{Stretch}
use Rattle.mst_judged.proofs.reasons_lemmas.Things.{true_both}
use Rattle.mst_path_judges.specs.Asked.{told_of}
use Rattle.mst_path_judges.specs.declared.stretch.Stretch as kept

-- as `Eq` is derived
abbrev pub same_stretch : kept.Stretch → kept.Stretch → Bool
same_stretch a b = (a.hops == b.hops) && pointwise same_name a.bridges.items b.bridges.items

abbrev pub same_kept : Option kept.Stretch → Option kept.Stretch → Bool
same_kept = option_eq same_stretch

abbrev hops_of : Option Stretch → ℕ
hops_of None = 0
hops_of (Some s) = s.hops

abbrev bridges_of : Option Stretch → List (List ℕ)
bridges_of None = []
bridges_of (Some s) = s.bridges

pub kept_decide : (a b : Option kept.Stretch) → Decides (same_kept a b) (told_of a ≡ told_of b)
kept_decide None None = (λ e. refl, λ e. refl)
kept_decide None (Some b) = (λ e. absurd (true≢false (sym e)), λ e. absurd (true≢false (ap is_some (sym e))))
kept_decide (Some a) None = (λ e. absurd (true≢false (sym e)), λ e. absurd (true≢false (ap is_some e)))
kept_decide (Some a) (Some b) = (
  λ e. let both = and_parts (a.hops == b.hops) (pointwise same_name a.bridges.items b.bridges.items) e in
      let hops : a.hops ≡ b.hops = eqb-true a.hops b.hops both.0 in
      let bridges : a.bridges.items ≡ b.bridges.items = (pointwise_decides bytes_decides a.bridges.items b.bridges.items).0 both.1 in
      λ i. Some (record { hops = hops i; bridges = bridges i }),
  λ e. true_both (a.hops == b.hops) (pointwise same_name a.bridges.items b.bridges.items) (eq-eqb a.hops b.hops (ap hops_of e)) ((pointwise_decides bytes_decides a.bridges.items b.bridges.items).1 (ap bridges_of e)),
)
