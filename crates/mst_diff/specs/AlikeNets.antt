-- Two networks that are alike in their regions, roots, roles and islands.
use Rattle.std.specs.Prelude.{◌≡◌, ◌↔◌, ◌≤◌, ℕ, true, List, Some}
use Rattle.std.specs.List.{Contains}
use Rattle.std.specs.FinMap as fin
use Rattle.mst_ids.specs.Vids.{is_vid}
use Rattle.mst_ids.specs.declared.name.PortName.{PortName}
use Rattle.mst_graph.specs.Islands.{Island}
use Rattle.mst_tables.specs.Tables.{Net, BridgeRow}
use Rattle.mst_vlan.specs.forest.config.Regions.{first_of_region}
use Rattle.mst_vlan.specs.forest.Outcome.{Outcome}
use Rattle.mst_vlan.specs.roles.Roles.{role_of}
use Rattle.mst_vlan.specs.Reach.{AreIslandsOf}
use Rattle.mst_facts.specs.Told.{same_told}
use Rattle.mst_facts.specs.Roots.{root_name}
use Rattle.mst_diff.specs.Reach.{island_bridges}

-- the two networks with these outcomes are alike
pub record AreAlike (a : Net) (o : Outcome) (b : Net) (p : Outcome) : Type 0 where
  -- a bridge of both has one kind, one configuration name and one revision, and one first bridge of its region
  pub regions : (bridge : List ℕ) (old new : BridgeRow) → fin.get a.bridges bridge ≡ Some old → fin.get b.bridges bridge ≡ Some new
      → (same_told old new ≡ true) × (first_of_region a bridge ≡ first_of_region b bridge)
  -- a bridge that has a root in a tree in both has the same one
  pub roots : (tree : ℕ) → tree ≤ 4094 → (bridge old new : List ℕ) → root_name a o tree bridge ≡ Some old → root_name b p tree bridge ≡ Some new → old ≡ new
  -- a logical port has the same role in a tree in both, or none in both
  pub roles : (tree : ℕ) → tree ≤ 4094 → (port : PortName) → role_of a o tree port ≡ role_of b p tree port
  -- the islands of a VID that have a bridge have the same ones
  pub islands : (vid : ℕ) → is_vid vid ≡ true → (olds news : List (Island (List ℕ) (List ℕ))) → AreIslandsOf a o vid olds → AreIslandsOf b p vid news
      → (bridges : List (List ℕ)) → Contains (island_bridges olds) bridges ↔ Contains (island_bridges news) bridges
