-- Who is first among some that have vectors, and whom one is told against.
use Rattle.std.specs.Prelude.{◌≡◌, ◌≢◌, Option, None, Some, false}
use Rattle.std.specs.Ordering.{is_gt}
use Rattle.mst_vector.specs.Rules.{Rules}
use Rattle.mst_roles.specs.forest.topology.Topology.{TreePort, Topology}
use Rattle.mst_roles.specs.forest.topology.Settled.{IsDesignatedVector, IsRootPathVector}

module _ {K B P V : Type 0} (m : Rules B P V) (Has : K → V → Type 0) where
  -- c has the vector x, and none has a lower one
  pub record IsFirst (c : K) (x : V) : Type 0 where
    pub has : Has c x
    pub upto : (d : K) (y : V) → Has d y → is_gt (m.order x y) ≡ false

  -- d is told against the first c: it is `me`, where that isn't the first, and else the next, than which none
  -- but c has a lower vector
  pub record IsRival (me c d : K) (y : V) : Type 0 where
    pub has : Has d y
    pub other : d ≢ c
    pub itself : me ≢ c → d ≡ me
    pub next : me ≡ c → (e : K) (z : V) → e ≢ c → Has e z → is_gt (m.order y z) ≡ false

  -- nobody but c has a vector
  abbrev pub IsAlone : K → Type 0
  IsAlone c = (d : K) (y : V) → Has d y → d ≡ c

module _ {N L K B P V : Type 0} (m : Rules B P V) (t : Topology N L K B P) (v : N → Option V) where
  -- for the LAN's designated port: under the key of each port of the tree on it stands what that port says; nothing
  -- stands under no key
  abbrev pub IsDesignatedVectorOn : L → Option K → V → Type 0
  IsDesignatedVectorOn lan None x = ⊥
  IsDesignatedVectorOn lan (Some k) x = (p : TreePort N L K P) × (p.number ≡ k) × (p.lan ≡ lan) × IsDesignatedVector m t v p x

  -- for the root priority vector of bridge n, which is b: its own vector stands under no key, and under the key of a
  -- port the one that comes along that port
  abbrev pub Gives : N → B → Option K → V → Type 0
  Gives n b None x = x ≡ m.bridge_vector b
  Gives n b (Some k) x = (step : IsRootPathVector m t v n b x) × (step.port.number ≡ k)
