-- The pictures of a network.
use Rattle.std.specs.Prelude.{◌≡◌, ℕ, List}
use Rattle.mst_net.specs.tables.Tables.{Net}
use Rattle.mst_roles.specs.forest.Outcome.{Outcome, IsOutcome}
use Rattle.mst_picture.specs.Picture.{picture}
use Rattle.mst_picture.specs.VlanPicture.{IsVlanPicture}

-- this text is the picture of the network with the tree, by a settled outcome of it
pub record Depicts (net : Net) (tree : ℕ) (text : List ℕ) : Type 0 where
  pub outcome : Outcome
  pub is_outcome : IsOutcome net outcome
  pub drawn : text ≡ picture net outcome tree

-- and this is the one with the VLAN
pub record DepictsVlan (net : Net) (vid : ℕ) (text : List ℕ) : Type 0 where
  pub outcome : Outcome
  pub is_outcome : IsOutcome net outcome
  pub drawn : IsVlanPicture net outcome vid text
