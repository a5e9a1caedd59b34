-- There is one list of the islands of a VID.
use Rattle.std.proofs.Common.{◌≡◌, ℕ, List}
use Rattle.mst_graph.specs.Islands.{Island}
use Rattle.mst_tables.specs.Tables.{Net}
use Rattle.mst_roles.specs.forest.Outcome.{Outcome}
use Rattle.mst_vlan.specs.Reach.{AreIslandsOf}

-- there is one list of the islands of a VID
abbrev pub OneList : Type 0
OneList = (net : Net) (o : Outcome) (vid : ℕ) (islands others : List (Island (List ℕ) (List ℕ))) → AreIslandsOf net o vid islands → AreIslandsOf net o vid others → islands ≡ others
