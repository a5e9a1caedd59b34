-- Ports in chains: of each LAN and of each bridge the last port leads to the one before it, and so on.
use Rattle.std.specs.Prelude.{◌≡◌, ℕ, ◌+◌, ◌<◌, ◌≤◌, List, length, Option, Some, None}
use Rattle.std.specs.List.{slice_index_or}
use Rattle.mst_topology.specs.Topology.{TreePort}
use Rattle.mst_topology.specs.declared.link.Link.{Link}

-- x stands at place k
abbrev pub IsAt : {A : Type 0} → List A → ℕ → A → Type 0
IsAt xs k x = (k < length xs) × (slice_index_or xs k x ≡ x)

-- all places up to this one
abbrev pub upto_place : Option ℕ → ℕ
upto_place None = 0
upto_place (Some k) = k + 1

-- the last place below a bound at which P holds, or none
pub record IsLast {A : Type 0} (xs : List A) (P : A → Type 0) (bound : ℕ) (o : Option ℕ) : Type 0 where
  pub at : (k : ℕ) → o ≡ Some k → (x : A) × (k < bound) × IsAt xs k x × P x
  pub none_after : (k : ℕ) (x : A) → upto_place o ≤ k → k < bound → IsAt xs k x → P x → ⊥

-- each number leads to the place of its port, and each place is led to
pub record IsPortIndex {P : Type 0} (ports : List (TreePort ℕ ℕ ℕ P)) (place_of : ℕ → Option ℕ) : Type 0 where
  pub found : (n i : ℕ) → place_of n ≡ Some i → (p : TreePort ℕ ℕ ℕ P) × IsAt ports i p × (p.number ≡ n)
  pub back : (i : ℕ) (p : TreePort ℕ ℕ ℕ P) → IsAt ports i p → place_of p.number ≡ Some i

pub record IsChained {P : Type 0} (ports : List (TreePort ℕ ℕ ℕ P)) (last_on last_of : ℕ → Option ℕ) (links : List Link) : Type 0 where
  pub size : length links ≡ length ports
  pub on : (lan : ℕ) → IsLast ports (λ p. p.lan ≡ lan) (length ports) (last_on lan)
  pub of : (n : ℕ) → IsLast ports (λ p. p.bridge ≡ n) (length ports) (last_of n)
  pub before_on : (k : ℕ) (p : TreePort ℕ ℕ ℕ P) (l : Link) → IsAt ports k p → IsAt links k l → IsLast ports (λ q. q.lan ≡ p.lan) k l.on_lan
  pub before_of : (k : ℕ) (p : TreePort ℕ ℕ ℕ P) (l : Link) → IsAt ports k p → IsAt links k l → IsLast ports (λ q. q.bridge ≡ p.bridge) k l.of_bridge

-- ports by number and in chains
pub record IsWired {P : Type 0} (ports : List (TreePort ℕ ℕ ℕ P)) (place_of last_on last_of : ℕ → Option ℕ) (links : List Link) : Type 0 where
  pub by_number : IsPortIndex ports place_of
  pub chains : IsChained ports last_on last_of links
