-- When edges join a graph and make no loop.
use Rattle.std.specs.Prelude.{◌≢◌}
use Rattle.mst_graph.specs.Walks.{Ends, Walk}

-- the active edges link the two ends of every enabled edge
abbrev pub IsJoined : {N E : Type 0} → Ends N E → (E → Type 0) → (E → Type 0) → Type 0
IsJoined {N} {E} g Enabled Active = (e : E) → Enabled e → Walk g Active (g.from e) (g.to e)

-- an active edge other than e
abbrev pub Other : {E : Type 0} → (E → Type 0) → E → E → Type 0
Other Active e f = Active f × (f ≢ e)

-- no walk of the other active edges links the two ends of an active edge
abbrev pub HasNoLoop : {N E : Type 0} → Ends N E → (E → Type 0) → Type 0
HasNoLoop {N} {E} g Active = (e : E) → Active e → Walk g (Other Active e) (g.from e) (g.to e) → ⊥
