-- A reason as it is kept: what another one tells, but for a bridge.
use Rattle.std.specs.Prelude.{ℕ, not, List, Option, None, Some, filter, map}
use Rattle.mst_graph.specs.Lists.{has_any}
use Rattle.mst_view.specs.Aggregation.{same_name}
use Rattle.mst_reasons.specs.Reasons.{Parts}
use Rattle.mst_reasons.specs.declared.reason.Reason.{Reason}
use Rattle.mst_reasons.specs.declared.reason.Reason.TheVariants.{Reach, Apart, Leaves, Together}

-- names but for this one, and the parts that still have a name then
abbrev pub names_but : List ℕ → List (List ℕ) → List (List ℕ)
names_but name names = filter (λ own. not (same_name own name)) names

abbrev pub parts_but : List ℕ → Parts → Parts
parts_but name parts = filter has_any (map (names_but name) parts)

-- a reason of parts but for a bridge; any other one stays
abbrev pub but_for : List ℕ → Reason → Reason
but_for name (Reach vids parts) = Reach vids (parts_but name parts)
but_for name (Apart vids parts) = Apart vids (parts_but name parts)
but_for name (Leaves vids parts) = Leaves vids (parts_but name parts)
but_for name (Together vids parts) = Together vids (parts_but name parts)
but_for name reason = reason

abbrev pub but_for_some : Option (List ℕ) → Reason → Reason
but_for_some None reason = reason
but_for_some (Some name) reason = but_for name reason
