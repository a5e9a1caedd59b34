-- Classes of VIDs that nothing in a network tells apart, or nothing in either of two.
use Rattle.std.specs.Prelude.{◌≡◌, ℕ, ◌+◌, ◌<◌, Bool, List, [], nat_eq, slice_index}
use Rattle.std.specs.List.{AllByRecursion, Contains}
use Rattle.mst_graph.specs.Numbers.{AreNumbers}
use Rattle.mst_ids.specs.Vids.{has}
use Rattle.mst_graph.specs.declared.keys.Numbering.{Numbering}
use Rattle.mst_tables.specs.ByTree.{table_in, vlans_in}
use Rattle.mst_view.specs.Viewed.{Viewed}
use Rattle.mst_classes.specs.Alike.{TellApart}

-- VIDs of one class have one tree in each table and are in the same sets of VLANs of ports
pub record AreClasses (v : Viewed) (c : Numbering) : Type 0 where
  pub tables : List (List ℕ)
  pub sets : List (List Bool)
  pub have_tables : AllByRecursion (λ b. Contains tables (table_in v.settings.tables b.name)) v.bridges
  pub have_sets : AllByRecursion (λ p. Contains sets (vlans_in v.settings.vlans p.name)) v.ports
  pub numbers : List ℕ
  pub tell : TellApart tables sets numbers
  pub classes : AreNumbers nat_eq numbers c.numbers.items c.firsts.items

-- VIDs of one class have one tree in each table
pub record AreClassesByTables (v : Viewed) (c : Numbering) : Type 0 where
  pub tables : List (List ℕ)
  pub have_tables : AllByRecursion (λ b. Contains tables (table_in v.settings.tables b.name)) v.bridges
  pub numbers : List ℕ
  pub tell : TellApart tables [] numbers
  pub classes : AreNumbers nat_eq numbers c.numbers.items c.firsts.items

-- the tables and the sets of VLANs of a view are among these
pub record HasOnly (v : Viewed) (tables : List (List ℕ)) (sets : List (List Bool)) : Type 0 where
  pub tables_there : AllByRecursion (λ b. Contains tables (table_in v.settings.tables b.name)) v.bridges
  pub sets_there : AllByRecursion (λ p. Contains sets (vlans_in v.settings.vlans p.name)) v.ports

-- VIDs of one class have one tree in each table of either view, and are in the same of their sets
pub record AreClassesOf (v w : Viewed) (classes : Numbering) : Type 0 where
  pub tables : List (List ℕ)
  pub sets : List (List Bool)
  pub old : HasOnly v tables sets
  pub new : HasOnly w tables sets
  pub numbers : List ℕ
  pub tell : TellApart tables sets numbers
  pub are : AreNumbers nat_eq numbers classes.numbers.items classes.firsts.items

-- VIDs of one class are in the same of these sets
abbrev pub AreInSame : List (List Bool) → Numbering → Type 0
AreInSame sets c =
    (i j : ℕ) → i < 4094 → j < 4094 → slice_index c.numbers.items i ≡ slice_index c.numbers.items j
    → AllByRecursion (λ set. has set (i + 1) ≡ has set (j + 1)) sets
