-- An outcome under the numbers of records.
use Rattle.std.specs.Prelude.{◌≡◌, ℕ, ◌&&◌, List, Option, Some, None, MatchOption, filter}
use Rattle.std.specs.FinMap as fin
use Rattle.mst_ids.specs.declared.name.PortName.{PortName}
use Rattle.mst_net.specs.tables.Tables.{Net, Numbers, IsNetwork}
use Rattle.mst_net.specs.tables.Contents.{IsNumbered}
use Rattle.mst_view.specs.Viewed.{Viewed, IsView, named_port}
use Rattle.mst_view.specs.declared.in_view.PortInView.{PortInView}
use Rattle.mst_config.specs.Shared.{AreRegions}
use Rattle.mst_forest.specs.Outcome.{TreeOutcome}
use Rattle.mst_forest.specs.Msti.{is_internal}

-- a port's number and its name, or neither
abbrev pub IsNameOf : Numbers → Option ℕ → Option PortName → Type 0
IsNameOf numbers number name = MatchOption number (name ≡ None) (λ k. (q : PortName) × (name ≡ Some q) × (fin.get numbers.ports q ≡ Some k))

-- under the numbers of records the outcome has these vectors and these designated ports, and a number of no
-- bridge and of no LAN has none
pub record Agrees {V : Type 0} (numbers : Numbers) (o : TreeOutcome V) (vector : ℕ → Option V) (designated : ℕ → Option ℕ) : Type 0 where
  pub vectors : (a : List ℕ) (n : ℕ) → fin.get numbers.bridges a ≡ Some n → vector n ≡ o.vector a
  pub no_vector : (n : ℕ) → ((a : List ℕ) → fin.get numbers.bridges a ≡ Some n → ⊥) → vector n ≡ None
  pub designated_ports : (l : List ℕ) (n : ℕ) → fin.get numbers.lans l ≡ Some n → IsNameOf numbers (designated n) (o.designated l)
  pub no_designated : (n : ℕ) → ((l : List ℕ) → fin.get numbers.lans l ≡ Some n → ⊥) → designated n ≡ None

-- a view, and identifiers of regions by the numbers of bridges, are those of one network
pub record AreOf (net : Net) (numbers : Numbers) (v : Viewed) (region_ids : List (ℕ × ℕ)) : Type 0 where
  pub network : IsNetwork net
  pub numbered : IsNumbered net numbers
  pub view : IsView net numbers v
  pub regions : AreRegions net numbers region_ids

-- they are so of some network
pub record Known (v : Viewed) (region_ids : List (ℕ × ℕ)) : Type 0 where
  pub net : Net
  pub numbers : Numbers
  pub of : AreOf net numbers v region_ids

-- the enabled ports of the view whose LAN belongs to their own region, by the designated ports of the CIST
abbrev pub internal_ports_of : Net → (List ℕ → Option PortName) → Viewed → List PortInView
internal_ports_of net designated v = filter (λ p. p.is_enabled && is_internal net designated (named_port p)) v.ports
