-- What stays the same for all failures of a network.
use Rattle.std.specs.Prelude.{◌≡◌, ℕ, ◌+◌, Bool, List, length, map, nat_eq, Some, vec_len}
use Rattle.std.specs.List.{AllByRecursion, AllZip, Contains}
use Rattle.std.specs.Map.{lookup}
use Rattle.std.specs.FinMap as fin
use Rattle.mst_graph.specs.Islands.{Island}
use Rattle.mst_graph.specs.Numbers.{AreNumbers}
use Rattle.mst_net.specs.tables.ByTree.{table_in, vlans_in}
use Rattle.mst_net.specs.tables.Tables.{Net, Numbers}
use Rattle.mst_view.specs.Viewed.{Viewed}
use Rattle.mst_vlan.specs.forest.Agrees.{AreOf}
use Rattle.mst_vlan.specs.forest.Forest.{Forest, IsForest}
use Rattle.mst_vlan.specs.forest.Outcome.{Outcome}
use Rattle.mst_vlan.specs.Reach.{AreIslandsOf}
use Rattle.mst_vlan.specs.classes.Alike.{TellApart}
use Rattle.mst_sweep.specs.Parts.{home}
use Rattle.mst_sweep.specs.declared.baseline.Baseline.{Baseline}

-- the places of bridges' islands of a VID are kept under the numbers of the bridges
abbrev pub AreHomes : Net → Numbers → Outcome → ℕ → List (ℕ × ℕ) → Type 0
AreHomes net numbers o vid homes =
    (islands : List (Island (List ℕ) (List ℕ))) × AreIslandsOf net o vid islands × ((name : List ℕ) (n : ℕ) → fin.get numbers.bridges name ≡ Some n → lookup (nat_eq n) homes ≡ home islands name)

-- VIDs of one class have one tree in each table and are in the same sets of VLANs, and for the first VID of each class
-- the places of islands are kept
pub record IsBaseline (v : Viewed) (f : Forest) (s : Baseline) : Type 0 where
  pub tables : List (List ℕ)
  pub sets : List (List Bool)
  pub have_tables : AllByRecursion (λ b. Contains tables (table_in v.settings.tables b.name)) v.bridges
  pub have_sets : AllByRecursion (λ p. Contains sets (vlans_in v.settings.vlans p.name)) v.ports
  pub numbers : List ℕ
  pub tell : TellApart tables sets numbers
  pub classes : AreNumbers nat_eq numbers s.classes.numbers.items s.classes.firsts.items
  pub as_long : vec_len s.homes ≡ length s.classes.firsts.items
  pub homes : (net : Net) (k : Numbers) (is : IsForest net k f) → AreOf net k v f.regions → AllZip (λ place homes. AreHomes net k is.outcome (place + 1) homes) s.classes.firsts.items (map (λ h. h.entries) s.homes.items)
