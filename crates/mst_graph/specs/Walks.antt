-- Walks in a graph, and bridges and LANs as its nodes.
use Rattle.std.specs.Prelude.{◌≡◌, ◌⊎◌}

-- the two ends of each edge
pub record Ends (N E : Type 0) : Type 0 where
  pub from : E → N
  pub to : E → N

-- the edge's ends are a and b, in one order or the other
abbrev pub Links : {N E : Type 0} → Ends N E → E → N → N → Type 0
Links g e a b = ((g.from e ≡ a) × (g.to e ≡ b)) ⊎ ((g.to e ≡ a) × (g.from e ≡ b))

-- a walk over edges of one kind
pub data Walk {N E : Type 0} (g : Ends N E) (P : E → Type 0) : N → N → Type 0 where
  stay : {a : N} → Walk g P a a
  along : {a b c : N} → (e : E) → P e → Links g e a b → Walk g P b c → Walk g P a c

-- a bridge or a LAN
pub data Node (N L : Type 0) : Type 0 where
  bridge_at : N → Node N L
  lan_at : L → Node N L
