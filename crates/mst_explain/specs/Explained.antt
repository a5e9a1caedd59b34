-- Why a logical port has its role in a tree, by name.
use Rattle.std.specs.Prelude.{◌≡◌, ◌≢◌, ◌⊎◌, ℕ, ◌==◌, Bool, true, false, List, [], ◌∷◌, ◌++◌, Option, Some}
use Rattle.std.specs.Option.{option_map_or}
use Rattle.std.specs.FinMap as fin
use Rattle.mst_ids.specs.declared.name.PortName.{PortName}
use Rattle.mst_vector.specs.Rules.{Rules}
use Rattle.mst_vector.specs.Cist.{cist_rules}
use Rattle.mst_vector.specs.Msti.{msti_rules}
use Rattle.mst_roles.specs.forest.topology.Topology.{Topology, HasBridge}
use Rattle.mst_tables.specs.Tables.{Net}
use Rattle.mst_view.specs.Trees.{mstis_of}
use Rattle.mst_view.specs.View.{LogicalPort, is_on, is_up}
use Rattle.mst_roles.specs.forest.Cist.{cist_of}
use Rattle.mst_roles.specs.forest.Msti.{msti_of, is_internal}
use Rattle.mst_roles.specs.forest.Outcome.{Outcome, TreeOutcome}
use Rattle.mst_roles.specs.Roles.{cist_role, role_in}
use Rattle.mst_roles.specs.declared.kind.Role.{Role}
use Rattle.mst_rows.specs.Rows.{Row}
use Rattle.mst_explain.specs.Contest.{IsFirst, IsRival, IsAlone, IsDesignatedVectorOn, Gives}
use Rattle.mst_explain.specs.Fields.{Field, cist_fields, msti_fields, decided}
use Rattle.mst_explain.specs.Lines.{explain_rows, designated_contest, root_contest, over_rows, alone_rows, restricted_rows, boundary_rows, disabled_rows}

-- the first c of the vector x is told against the rival of `me`, by the first component at which their vectors differ
pub record TellsRival {K B P V : Type 0} (m : Rules B P V) (fields : V → List Field) (Has : K → V → Type 0) (me c : K) (x : V) (rows_of : K → Option (Field × Field) → List Row) (rows : List Row) : Type 0 where
  pub rival : K
  pub vector : V
  pub is_rival : IsRival m Has me c rival vector
  pub is : rows ≡ rows_of rival (decided (fields x) (fields vector))

module _ {B P V : Type 0} (m : Rules B P V) (fields : V → List Field) (t : Topology (List ℕ) (List ℕ) PortName B P) (o : TreeOutcome V) (tree : ℕ) (p : LogicalPort) where
  -- who may be the LAN's designated port, and what may be the root priority vector of the bridge, which is b
  abbrev pub OnLan : Option PortName → V → Type 0
  OnLan = IsDesignatedVectorOn m t o.vector p.lan

  abbrev pub AtBridge : B → Option PortName → V → Type 0
  AtBridge b = Gives m t o.vector p.name.bridge b

  -- the designated port q of the LAN, against the port itself or the next one, or alone
  pub record TellsDesignated (q : PortName) (rows : List Row) : Type 0 where
    pub vector : V
    pub is_first : IsFirst m OnLan (Some q) vector
    pub told : TellsRival m fields OnLan (Some p.name) (Some q) vector (over_rows (designated_contest tree p.name) (Some q)) rows
        ⊎ (IsAlone m OnLan (Some q) × (rows ≡ alone_rows (designated_contest tree p.name) (Some q)))

  -- whose vector is the bridge's, against the port itself or the next one
  pub record TellsRoot (rows : List Row) : Type 0 where
    pub bridge : B
    pub is_bridge : HasBridge t p.name.bridge bridge
    pub giver : Option PortName
    pub vector : V
    pub is_first : IsFirst m (AtBridge bridge) giver vector
    pub told : TellsRival m fields (AtBridge bridge) (Some p.name) giver vector (over_rows (root_contest tree p.name) giver) rows

  -- of an enabled port of the tree: its LAN's designated port; and where that is on another bridge, whose vector is its
  -- own bridge's, or that its role is restricted
  pub record TellsContest (rows : List Row) : Type 0 where
    pub designated : PortName
    pub is_designated : o.designated p.lan ≡ Some designated
    pub first : List Row
    pub tells_designated : TellsDesignated designated first
    pub second : List Row
    pub own : designated.bridge ≡ p.name.bridge → second ≡ []
    pub restricted : designated.bridge ≢ p.name.bridge → p.settings.is_restricted ≡ true → second ≡ restricted_rows tree p.name
    pub free : designated.bridge ≢ p.name.bridge → p.settings.is_restricted ≡ false → TellsRoot second
    pub is : rows ≡ first ++ second

module _ (net : Net) (o : Outcome) where
  -- of a port that has received external information: its role in the CIST, and its LAN's designated port there
  abbrev pub TellsBoundary : ℕ → LogicalPort → List Row → Type 0
  TellsBoundary tree p rows = (q : PortName) × (o.cist.designated p.lan ≡ Some q) × (rows ≡ boundary_rows tree p.name (cist_role net o p) q)

  -- of an enabled port in an MSTI, by whether its LAN belongs to its own region
  abbrev pub TellsInMsti : ℕ → LogicalPort → Bool → List Row → Type 0
  TellsInMsti tree p true rows = TellsContest msti_rules msti_fields (msti_of net tree o.cist.designated) (o.msti tree) tree p rows
  TellsInMsti tree p false rows = TellsBoundary tree p rows

  -- of an enabled port, by whether the tree is the CIST
  abbrev pub TellsEnabled : ℕ → LogicalPort → Bool → List Row → Type 0
  TellsEnabled tree p true rows = TellsContest cist_rules cist_fields (cist_of net) o.cist tree p rows
  TellsEnabled tree p false rows = TellsInMsti tree p (is_internal net o.cist.designated p) rows

  -- of any port, by whether it is enabled
  abbrev pub TellsReason : ℕ → LogicalPort → Bool → List Row → Type 0
  TellsReason tree p true rows = TellsEnabled tree p (tree == 0) rows
  TellsReason tree p false rows = rows ≡ disabled_rows tree p.name (is_on net p.name.bridge) (is_up net p.lan) p.lan

  -- the explanation of a port in a tree that its bridge has: its role, and the reason
  pub record IsExplained (tree : ℕ) (p : LogicalPort) (rows : List Row) : Type 0 where
    pub role : Role
    pub has_role : role_in net o tree p ≡ Some role
    pub reason : List Row
    pub tells : TellsReason tree p p.is_enabled reason
    pub is : rows ≡ explain_rows tree p.name p.lan role ++ reason

  -- in these trees, one after another
  abbrev pub AreExplained : LogicalPort → List ℕ → List Row → Type 0
  AreExplained p [] rows = rows ≡ []
  AreExplained p (tree ∷ trees) rows = (one rest : List Row) × IsExplained tree p one × AreExplained p trees rest × (rows ≡ one ++ rest)

-- the trees of a bridge, rising
abbrev pub trees_of_bridge : Net → List ℕ → List ℕ
trees_of_bridge net name = 0 ∷ option_map_or (mstis_of net name) (fin.get net.bridges name) []
