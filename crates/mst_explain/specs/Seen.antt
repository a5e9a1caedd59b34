-- What an explanation is made of, under the numbers of records.
use Rattle.std.specs.Prelude.{◌≡◌, ℕ, ◌==◌, ◌≤◌, ◌^◌, List, [], ◌∷◌, ◌++◌, Option, Some, None, IsTrue, filter_map, if◌then◌else◌}
use Rattle.std.specs.List.{Contains, find}
use Rattle.std.specs.Option.{option_map, option_map_or, option_and_then}
use Rattle.mst_vector.specs.Rules.{Rules}
use Rattle.mst_view.specs.Viewed.{Viewed}
use Rattle.mst_view.specs.declared.in_view.PortInView.{PortInView}
use Rattle.mst_rows.specs.Rows.{Row}
use Rattle.mst_explain.specs.declared.claims.Claim.{Claim}
use Rattle.mst_explain.specs.Claims.{told_rows}
use Rattle.mst_explain.specs.Fields.{Field}
use Rattle.mst_explain.specs.Lines.{designated_contest, restricted_rows, root_contest}

-- what is seen of a tree: the bridge of a number and its vector, and the settings of a port, where they are in the tree, and
-- the number of a LAN's designated port
pub record TreeSeen (B P V : Type 0) : Type 0 where
  pub bridge : ℕ → Option B
  pub vector : ℕ → Option V
  pub port : PortInView → Option P
  pub designated : ℕ → Option ℕ

-- what a tree must keep for steps: costs are in range
pub record CanStep {B P V : Type 0} (m : Rules B P V) (v : Viewed) (s : TreeSeen B P V) : Type 0 where
  pub in_range : (p : PortInView) (c : P) → Contains v.ports p → s.port p ≡ Some c → IsTrue (m.in_range c)
  pub costs : (p : PortInView) (x : V) → Contains v.ports p → s.vector p.bridge ≡ Some x → m.cost x ≤ 2 ^ 62

module _ {B P V : Type 0} (m : Rules B P V) (v : Viewed) (s : TreeSeen B P V) where
  -- the designated priority vector of a port, which it says on its LAN
  abbrev pub designated_vector : PortInView → Option V
  designated_vector q = option_and_then (λ c. option_and_then (λ b. option_map (λ x. m.designated_vector x b c) (s.vector q.bridge)) (s.bridge q.bridge)) (s.port q)

  -- the designated port of a LAN
  abbrev pub designated_on : ℕ → Option PortInView
  designated_on lan = option_and_then (λ n. find (λ q. n == q.number) v.ports) (s.designated lan)

  -- the root path priority vector that a port of these settings has from another one
  abbrev pub root_path_vector_from : PortInView → P → PortInView → Option V
  root_path_vector_from p c from = option_and_then (λ x. option_and_then (λ sender. option_map (λ b. m.root_path_vector x sender b c) (s.bridge p.bridge)) (s.bridge from.bridge)) (designated_vector from)

  -- what a port gives its bridge, if its role isn't restricted: the root path priority vector from its LAN's designated
  -- port, where that is on another bridge
  abbrev pub heard : PortInView → P → Option V
  heard p c = option_and_then (λ from. if from.bridge == p.bridge then None else root_path_vector_from p c from) (designated_on p.lan_number)

  abbrev pub given : PortInView → Option V
  given p = if p.settings.is_restricted then None else option_and_then (heard p) (s.port p)

  -- the claims on a LAN, and those at a bridge, the bridge priority vector first
  abbrev pub claim_of : PortInView → V → Claim V
  claim_of q x = record { port = Some q.name; vector = x }

  abbrev pub lan_claim : ℕ → PortInView → Option (Claim V)
  lan_claim lan q = if q.lan_number == lan then option_map (claim_of q) (designated_vector q) else None

  abbrev pub lan_claims : ℕ → List (Claim V)
  lan_claims lan = filter_map (lan_claim lan) v.ports

  abbrev pub own_claims : ℕ → List (Claim V)
  own_claims n = option_map_or (λ b. (record { port = None; vector = m.bridge_vector b }) ∷ []) (s.bridge n) []

  abbrev pub bridge_claim : ℕ → PortInView → Option (Claim V)
  bridge_claim n q = if q.bridge == n then option_map (claim_of q) (given q) else None

  abbrev pub bridge_claims : ℕ → List (Claim V)
  bridge_claims n = own_claims n ++ filter_map (bridge_claim n) v.ports

  -- the reason of an enabled port of the tree
  module _ (fields : V → List Field) (tree : ℕ) (p : PortInView) where
    abbrev pub root_rows : List Row
    root_rows = if p.settings.is_restricted then restricted_rows tree p.name else told_rows m.order fields (root_contest tree p.name) (Some p.name) (bridge_claims p.bridge)

    abbrev pub second_rows : Option PortInView → List Row
    second_rows None = []
    second_rows (Some q) = if q.bridge == p.bridge then [] else root_rows

    abbrev pub contest_rows : List Row
    contest_rows = told_rows m.order fields (designated_contest tree p.name) (Some p.name) (lan_claims p.lan_number) ++ second_rows (designated_on p.lan_number)
