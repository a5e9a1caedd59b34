-- Nodes in parts: a tree in each part, and at most one edge out of it.
use Rattle.std.specs.Prelude.{◌≡◌, ◌≢◌, ◌⊎◌, ℕ, ◌<◌}
use Rattle.mst_graph.specs.Walks.{Ends, Links, Walk}

pub record Levels (N : Type 0) : Type 0 where
  -- the part of a node
  pub part : N → ℕ
  -- how far down a node is in its part's tree
  pub rank : N → ℕ
  -- how far down a node's part is
  pub height : N → ℕ

-- an active edge from a node to a higher one of its part
pub record Climbs {N E : Type 0} (g : Ends N E) (Active : E → Type 0) (s : Levels N) (x : N) (e : E) : Type 0 where
  pub is_active : Active e
  pub above : N
  pub links : Links g e x above
  pub same_part : s.part above ≡ s.part x
  pub higher : s.rank above < s.rank x

-- an active edge out of a node's part: its first end is in that part, its second in another
pub record Leaves {N E : Type 0} (g : Ends N E) (Active : E → Type 0) (s : Levels N) (x : N) (e : E) : Type 0 where
  pub is_active : Active e
  pub own : s.part (g.from e) ≡ s.part x
  pub other : s.part (g.to e) ≢ s.part x

-- at most one edge up from each node and one out of each part, and none that stays level
pub record HasTreesInParts {N E : Type 0} (g : Ends N E) (Active : E → Type 0) (s : Levels N) : Type 0 where
  pub one_up : (x : N) (e f : E) → Climbs g Active s x e → Climbs g Active s x f → e ≡ f
  pub uneven : (e : E) → Active e → s.part (g.from e) ≡ s.part (g.to e) → s.rank (g.from e) ≢ s.rank (g.to e)
  pub one_exit : (x : N) (e f : E) → Leaves g Active s x e → Leaves g Active s x f → e ≡ f
  pub falls : (e : E) → Active e → s.part (g.from e) ≢ s.part (g.to e) → s.height (g.to e) < s.height (g.from e)
  pub same_height : (x y : N) → s.part x ≡ s.part y → s.height x ≡ s.height y

-- an active edge inside part k
abbrev pub Inside : {N E : Type 0} → Ends N E → (E → Type 0) → Levels N → ℕ → E → Type 0
Inside g Active s k e = Active e × (s.part (g.from e) ≡ k) × (s.part (g.to e) ≡ k)

-- the node is an end of an enabled edge
pub record Touches {N E : Type 0} (g : Ends N E) (Enabled : E → Type 0) (x : N) : Type 0 where
  pub edge : E
  pub is_enabled : Enabled edge
  pub is_end : (g.from edge ≡ x) ⊎ (g.to edge ≡ x)

-- each node but its part's root has an edge up, and each part but the top one of its connected set an edge out
pub record HasTops {N E : Type 0} (g : Ends N E) (Enabled Active : E → Type 0) (s : Levels N) (IsRoot IsTop : N → Type 0) : Type 0 where
  pub enabled : (e : E) → Active e → Enabled e
  pub way_up : (x : N) → Touches g Enabled x → ((e : E) × Climbs g Active s x e) ⊎ IsRoot x
  pub one_root : (x y : N) → s.part x ≡ s.part y → IsRoot x → IsRoot y → x ≡ y
  pub way_out : (x : N) → Touches g Enabled x → ((e : E) × Leaves g Active s x e) ⊎ IsTop x
  pub one_top : (x y : N) → Walk g Enabled x y → IsTop x → IsTop y → s.part x ≡ s.part y
