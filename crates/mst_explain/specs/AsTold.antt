-- What a reader may take from an explanation: that the lower vector is told to be lower, and the port's role.
use Rattle.std.specs.Prelude.{◌≡◌, ◌≢◌, ◌↔◌, ℕ, List, Option, Some}
use Rattle.mst_ids.specs.declared.name.PortName.{PortName}
use Rattle.mst_vector.specs.Rules.{Rules}
use Rattle.mst_roles.specs.forest.topology.Topology.{Topology, HasBridge}
use Rattle.mst_view.specs.View.{LogicalPort}
use Rattle.mst_roles.specs.forest.Outcome.{TreeOutcome}
use Rattle.mst_roles.specs.declared.kind.Role.{Role}
use Rattle.mst_roles.specs.declared.kind.Role.TheVariants.{Root, Designated, Alternate, Backup}
use Rattle.mst_explain.specs.Contest.{IsFirst, IsRival, IsDesignatedVectorOn, Gives}
use Rattle.mst_explain.specs.Fields.{Field, decided, TellsLower}

-- whoever is told against whom: the component is the first at which the vectors differ, and the first's value is lower
abbrev pub TellsLowerFirst : {B P V : Type 0} → Rules B P V → (V → List Field) → (Option PortName → V → Type 0) → Type 0
TellsLowerFirst {B} {P} {V} m fields Has =
    (me c d : Option PortName) (x y : V) → IsFirst m Has c x → IsRival m Has me c d y → TellsLower (fields x) (fields y) (decided (fields x) (fields y))

module _ {B P V : Type 0} (m : Rules B P V) (t : Topology (List ℕ) (List ℕ) PortName B P) (o : TreeOutcome V) (p : LogicalPort) where
  -- a port is the LAN's designated one, and the port gives its bridge's root priority vector
  abbrev pub IsDesignatedOn : PortName → Type 0
  IsDesignatedOn q = (x : V) × IsFirst m (IsDesignatedVectorOn m t o.vector p.lan) (Some q) x

  abbrev pub GivesRoot : Type 0
  GivesRoot = (b : B) × (x : V) × HasBridge t p.name.bridge b × IsFirst m (Gives m t o.vector p.name.bridge b) (Some p.name) x

  -- Designated where it is the designated port, Backup where another port of its bridge is, Root where it gives its
  -- bridge's vector, and else Alternate
  pub record IsAsTold (role : Role) : Type 0 where
    pub designated : role ≡ Designated ↔ IsDesignatedOn p.name
    pub backup : role ≡ Backup ↔ ((q : PortName) × (q ≢ p.name) × (q.bridge ≡ p.name.bridge) × IsDesignatedOn q)
    pub root : role ≡ Root ↔ GivesRoot
    pub otherwise : role ≢ Designated → role ≢ Backup → role ≢ Root → role ≡ Alternate
