-- The trees of a bridge in a view.
use Rattle.std.proofs.Common.{◌≡◌, ℕ, List, [], Option, nat_eq, unwrap_or, map, ap, ◌∙◌}
use Rattle.std.specs.List.{find}
use Rattle.std.specs.Option.{option_map}
use Rattle.std.specs.Map.{lookup}
use Rattle.mst_view.specs.Viewed.{Viewed}
use Rattle.mst_view.specs.declared.trees.TreesInView.{TreesInView}
use Rattle.mst_view.proofs.Placing.{pair_found}

-- what a view has of the trees of a number, by the element that is found
pub at_number : (v : Viewed) (ts : List TreesInView) (n : ℕ) (o : Option TreesInView) → v.trees ≡ map (λ (t : TreesInView). (t.bridge, t.trees)) ts → find (λ (t : TreesInView). nat_eq n t.bridge) ts ≡ o
    → unwrap_or (lookup (nat_eq n) v.trees) [] ≡ unwrap_or (option_map (λ (t : TreesInView). t.trees) o) []
at_number v ts n o is found =
    ap (λ es. unwrap_or (lookup (nat_eq n) es) []) is
    ∙ ap (λ p. unwrap_or p []) (pair_found (λ (t : TreesInView). t.bridge) (λ (t : TreesInView). t.trees) n ts ∙ ap (option_map (λ (t : TreesInView). t.trees)) found)
