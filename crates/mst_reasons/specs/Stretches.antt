-- How far bridges are from each other in a VID, and which of them a path meets.
use Rattle.std.specs.Prelude.{◌≡◌, ◌≢◌, ℕ, ◌≤◌, List, [], ◌∷◌, length, Option, Some, None}
use Rattle.std.specs.List.{Contains}
use Rattle.std.specs.Option.{option_map}
use Rattle.std.specs.Cmp.Lexicographic.{slice_cmp}
use Rattle.std.specs.declared.cmp.Ordering.TheVariants.{Greater}
use Rattle.mst_ids.specs.Names.{name_cmp}
use Rattle.mst_tables.specs.Tables.{Net}
use Rattle.mst_roles.specs.forest.Outcome.{Outcome}
use Rattle.mst_path.specs.Paths.{Hop, IsPathOf, bridges_met}

-- what is told of the paths of a VID: a number of hops, and bridges
pub record Stretch : Type 0 where
  pub hops : ℕ
  pub bridges : List (List ℕ)

-- two of these bridges have a path of so many hops
pub record LieApart (net : Net) (o : Outcome) (bridges : List (List ℕ)) (vid : ℕ) (a b : List ℕ) (hops : ℕ) : Type 0 where
  pub first : Contains bridges a
  pub second : Contains bridges b
  pub two : a ≢ b
  pub path : List Hop
  pub is_path : IsPathOf net o vid a b (Some path)
  pub as_many : length path ≡ hops

-- the most hops of a path between two of these bridges, and the first two by names that have such a path
pub record IsLongest (net : Net) (o : Outcome) (bridges : List (List ℕ)) (vid : ℕ) (s : Stretch) : Type 0 where
  pub from : List ℕ
  pub to : List ℕ
  pub ends : s.bridges ≡ from ∷ to ∷ []
  pub lie : LieApart net o bridges vid from to s.hops
  pub most : (a b : List ℕ) (hops : ℕ) → LieApart net o bridges vid a b hops → hops ≤ s.hops
  pub least : (a b : List ℕ) → LieApart net o bridges vid a b s.hops → slice_cmp name_cmp s.bridges (a ∷ b ∷ []) ≢ Greater

-- it, if any two of them have a path
abbrev pub HasLongest : Net → Outcome → List (List ℕ) → ℕ → Option Stretch → Type 0
HasLongest net o bridges vid None = (a b : List ℕ) (hops : ℕ) → LieApart net o bridges vid a b hops → ⊥
HasLongest net o bridges vid (Some s) = IsLongest net o bridges vid s

-- the hops of a path, and the bridges that it meets
abbrev pub stretch_of : List ℕ → List Hop → Stretch
stretch_of a path = record { hops = length path; bridges = bridges_met a path }

-- those of the path from a to b, if there is one
pub record HasStretch (net : Net) (o : Outcome) (a b : List ℕ) (vid : ℕ) (stretch : Option Stretch) : Type 0 where
  pub path : Option (List Hop)
  pub is_path : IsPathOf net o vid a b path
  pub are : stretch ≡ option_map (stretch_of a) path
