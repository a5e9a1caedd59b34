-- What was found by slices holds of the lists that they show.
use Rattle.std.proofs.Common.{◌≡◌, ℕ, List, get_or, subst}
use Rattle.mst_path.specs.Places.{IsTree}

pub tree_of : (bridges lans b l depths : List ℕ) (root : ℕ) → b ≡ bridges → l ≡ lans → IsTree b l (get_or b root 0) depths → IsTree bridges lans (get_or bridges root 0) depths
tree_of bridges lans b l depths root e f t = subst (λ b. IsTree b lans (get_or b root 0) depths) e (subst (λ l. IsTree b l (get_or b root 0) depths) f t)
