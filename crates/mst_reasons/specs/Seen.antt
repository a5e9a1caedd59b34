-- The bridges of a view, by their names.
use Rattle.std.specs.Prelude.{ℕ, List, map}
use Rattle.mst_view.specs.declared.in_view.BridgeInView.{BridgeInView}

-- the names of these bridges
abbrev pub names_in : List BridgeInView → List (List ℕ)
names_in bridges = map (λ b. b.name) bridges
