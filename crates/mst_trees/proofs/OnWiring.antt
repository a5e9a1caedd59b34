-- The trees of a view on the wirings that they share.
use Rattle.std.proofs.Common.{◌≡◌, ◌≢◌, ℕ, zero, suc, ◌<◌, ◌≤◌, ◌&&◌, Bool, true, false, cond, nat_eq, List, [], ◌∷◌, length, get_or, map, Option, Some, None, is_some, IsTrue, Result, Ok, Err, IfOk, refl, sym, ap, subst, ◌∙◌, arith, true≢false, eq-eqb, inl, inr}
use Rattle.std.specs.Prelude.{if◌then◌else◌}
use Rattle.std.specs.List.{AllByRecursion, Contains, filter_map}
use Rattle.std.specs.Map.{lookup}
use Rattle.std.specs.declared.alloc.AllocError.{AllocError}
use Rattle.std.proofs.lemmas.Bool.{and_parts, eqb-true}
use Rattle.mst_vector.specs.Rules.{Rules}
use Rattle.mst_vector.specs.Cist.{cist_rules}
use Rattle.mst_vector.specs.Msti.{msti_rules}
use Rattle.mst_vector.specs.declared.cist.CistBridge.{CistBridge}
use Rattle.mst_vector.specs.declared.cist.CistPort.{CistPort}
use Rattle.mst_vector.specs.declared.msti.MstiBridge.{MstiBridge}
use Rattle.mst_vector.specs.declared.msti.MstiPort.{MstiPort}
use Rattle.mst_forest.specs.topology.Topology.{TreePort, Topology, IsTopology, HasBridge, HasPort}
use Rattle.mst_forest.specs.topology.Settled.{Settled, IsDesignated}
use Rattle.mst_forest.specs.outcome.Assignment.{vector_of, designated_of, IsSettledFor}
use Rattle.mst_forest.specs.topology.Repair.{WithinBounds}
use Rattle.mst_forest.specs.outcome.Parts.{SameParts}
use Rattle.mst_forest.specs.topology.Wiring.{settings_in, port_in, topology_of}
use Rattle.mst_forest.specs.outcome.Held.{Tree, IsHeld}
use Rattle.mst_net.specs.tables.Tables.{Net, Numbers}
use Rattle.mst_net.specs.tables.Seen.{bridge_row}
use Rattle.mst_view.specs.Trees.{is_among}
use Rattle.mst_view.specs.Viewed.{Viewed, named_port}
use Rattle.mst_view.specs.declared.in_view.PortInView.{PortInView}
use Rattle.mst_forest.specs.Apart.{Apart}
use Rattle.mst_forest.specs.Agrees.{AreOf}
use Rattle.mst_trees.specs.Internal.{KnownInternal}
use Rattle.mst_forest.specs.Cist.{cist_sight}
use Rattle.mst_forest.specs.Msti.{msti_bridge, msti_port, is_internal, msti_sight}
use Rattle.mst_forest.specs.Numbered.{BridgesDiffer, PortsDiffer, CanSettle, topology_by_number}
use Rattle.mst_trees.specs.SettledBy.{IsSettledBy}
use Rattle.mst_forest.specs.Seen.{seen_tree_port, cist_seen, trees_at, seen_msti_bridge, seen_msti_port, msti_seen}
use Rattle.mst_trees.specs.Wirings.{HaveNumbers, AreOwn, base_port, cist_wires, cist_bridges_seen, msti_wires, msti_bridges_seen}
use Rattle.mst_forest.proofs.Entries.{all_both}
use Rattle.mst_forest.proofs.Lists.{there_first, there_later, all_contained, all_mapped, all_passing, apart_cases, apart_filtered, apart_mapped, apart_weaker, contains_mapped, contains_unmapped, kept_in, kept_from}
use Rattle.mst_forest.proofs.Views.{port_names_differ}
use Rattle.mst_forest.proofs.CistTopology.{given, cist_is_sight}
use Rattle.mst_forest.proofs.MstiTopology.{msti_in_range, msti_is_sight}
use Rattle.mst_forest.proofs.Seen.{SeenPort, PortsRise, ports_seen, ports_apart}
use Rattle.mst_forest.proofs.Numbering.{can_settle}
use Rattle.mst_forest.proofs.Looking.{cist_is_seen, msti_is_seen}

-- ---- an entry that is looked up by its number
looked_there : {A : Type 0} (n : ℕ) (es : List (ℕ × A)) → is_some (lookup (nat_eq n) es) ≡ true → (x : A) × Contains es (n, x)
looked_there n [] h = absurd (true≢false (sym h))
looked_there {A} n (e ∷ es) h = go (nat_eq n e.0) refl h (looked_there n es)
  where
    go : (t : Bool) → nat_eq n e.0 ≡ t → is_some (cond t (Some e.1) (lookup (nat_eq n) es)) ≡ true → (is_some (lookup (nat_eq n) es) ≡ true → (x : A) × Contains es (n, x)) → (x : A) × Contains (e ∷ es) (n, x)
    go true is k rest = (e.1, subst (λ k. Contains (e ∷ es) (k, e.1)) (sym (eqb-true n e.0 is)) (there_first e es))
    go false is k rest = let r = rest k in (r.0, there_later (n, r.0) e es r.1)

there_looked : {A : Type 0} (n : ℕ) (x : A) (es : List (ℕ × A)) → Contains es (n, x) → is_some (lookup (nat_eq n) es) ≡ true
there_looked n x [] c = let l = c.1 in absurd (omega arith)
there_looked {A} n x (e ∷ es) c = go c.0 c.1 c.2 (there_looked n x es)
  where
    later : (t : Bool) → is_some (lookup (nat_eq n) es) ≡ true → is_some (cond t (Some e.1) (lookup (nat_eq n) es)) ≡ true
    later true h = refl
    later false h = h

    go : (k : ℕ) → k < length (e ∷ es) → get_or (e ∷ es) k (n, x) ≡ (n, x) → (Contains es (n, x) → is_some (lookup (nat_eq n) es) ≡ true) → is_some (cond (nat_eq n e.0) (Some e.1) (lookup (nat_eq n) es)) ≡ true
    go zero l is rest = ap (λ t. is_some (cond t (Some e.1) (lookup (nat_eq n) es))) (eq-eqb n e.0 (sym (ap (λ (q : ℕ × A). q.0) is)))
    go (suc k) l is rest = later (nat_eq n e.0) (rest (k, omega arith, is))

-- ---- a tree on a wiring
-- t is a topology with the parts of u, and few bridges, of distinct numbers
pub record OnWiring {B P V : Type 0} (m : Rules B P V) (t u : Topology ℕ ℕ ℕ B P) : Type 0 where
  pub is_topology : IsTopology m t
  pub same : SameParts t u
  pub few : length t.bridges ≤ 1024
  pub numbers : Apart (λ (a b : ℕ × B). a.0 ≢ b.0) t.bridges

-- so is the tree of equal wires, bridges and settings
pub on_equal : {B P V : Type 0} (m : Rules B P V) (u : Topology ℕ ℕ ℕ B P) {wires wired : List (TreePort ℕ ℕ ℕ P)} {bridges seen : List (ℕ × B)} {own set : List (ℕ × P)}
    → wires ≡ wired → bridges ≡ seen → own ≡ set → OnWiring m (topology_of wired seen set) u → OnWiring m (topology_of wires bridges own) u
on_equal m u e f g = subst (λ t. OnWiring m t u) (λ i. topology_of (sym e i) (sym f i) (sym g i))

-- the law on topologies of the same parts, under numbers
pub record PartsAlone {B P V : Type 0} (m : Rules B P V) : Type 0 where
  pub vectors : (t u : Topology ℕ ℕ ℕ B P) (v : ℕ → Option V) → SameParts t u → Settled m t v → Settled m u v
  pub ports : (t u : Topology ℕ ℕ ℕ B P) (v : ℕ → Option V) (lan : ℕ) (p : Option ℕ) → SameParts t u → IsDesignated m t v lan p → IsDesignated m u v lan p

-- what is settled on the wiring is settled for u
pub settled_on : {B P V : Type 0} (m : Rules B P V) (u : Topology ℕ ℕ ℕ B P) (wires : List (TreePort ℕ ℕ ℕ P)) (bridges : List (ℕ × B)) (own : List (ℕ × P)) (before : ℕ → Option V)
    → PartsAlone m → OnWiring m (topology_of wires bridges own) u → (r : Result (Tree B P V) AllocError)
    → IfOk r (λ tree. tree.bridges ≡ bridges) → IfOk r (λ tree. tree.own ≡ own) → IfOk r (IsHeld m wires) → IfOk r (λ tree. WithinBounds before (vector_of tree.outcome) tree.outcome.settlings)
    → IfOk r (λ tree. IsSettledBy m u before tree.outcome)
settled_on m u wires bridges own before law on (Ok tree) e f held bounds =
    let t = topology_of wires bridges own in
    let settled = subst (λ t. IsSettledFor m t tree.outcome) (λ i. topology_of wires (e i) (f i)) held.settled in
    record {
      outcome = record {
        vectors = law.vectors t u (vector_of tree.outcome) on.same settled.vectors;
        designated = λ lan. law.ports t u (vector_of tree.outcome) lan (designated_of tree.outcome lan) on.same (settled.designated lan);
      };
      bounds = bounds;
    }
settled_on m u wires bridges own before law on (Err x) e f held bounds = tt

-- these ports are those of the wiring whose bridge is among these
record AreParts {B P V : Type 0} (m : Rules B P V) (wires : List (TreePort ℕ ℕ ℕ P)) (bridges : List (ℕ × B)) (own : List (ℕ × P)) (ports : List (TreePort ℕ ℕ ℕ P)) : Type 0 where
  numbers : HaveNumbers wires
  in_range : AllByRecursion (λ p. IsTrue (m.in_range (settings_in own p))) wires
  to : (p : TreePort ℕ ℕ ℕ P) → Contains wires p → IsTrue (port_in bridges own p).is_part → Contains ports (port_in bridges own p)
  from : (p : TreePort ℕ ℕ ℕ P) → Contains ports p → Contains (map (port_in bridges own) wires) p

module _ {B P V : Type 0} (m : Rules B P V) (wires : List (TreePort ℕ ℕ ℕ P)) (bridges : List (ℕ × B)) (own : List (ℕ × P)) (ports : List (TreePort ℕ ℕ ℕ P)) (can : CanSettle m bridges ports) (are : AreParts m wires bridges own ports) where
  abbrev t : Topology ℕ ℕ ℕ B P
  t = topology_of wires bridges own

  -- a port in the tree comes of one of the wiring
  wire_of : (p : TreePort ℕ ℕ ℕ P) → HasPort t p → (w : TreePort ℕ ℕ ℕ P) × Contains wires w × (port_in bridges own w ≡ p)
  wire_of p h = contains_unmapped (port_in bridges own) wires p h

  -- one that takes part is among these
  part_in : (p : TreePort ℕ ℕ ℕ P) → HasPort t p → IsTrue p.is_part → Contains ports p
  part_in p h part =
      let w = wire_of p h in
      subst (Contains ports) w.2 (are.to w.0 w.1 (subst (λ (q : TreePort ℕ ℕ ℕ P). IsTrue q.is_part) (sym w.2) part))

  one_bridge : (n : ℕ) (a b : B) → HasBridge t n a → HasBridge t n b → a ≡ b
  one_bridge n a b h j =
      elim (apart_cases (BridgesDiffer m) bridges (n, a) (n, b) can.bridges_differ h j) [
        | inl same ↦ ap (λ (q : ℕ × B). q.1) same
        | inr differ ↦ absurd (elim differ [ inl d ↦ d.numbers refl | inr d ↦ d.numbers refl ])
      ]

  bridge_ids : (n k : ℕ) (a b : B) → HasBridge t n a → HasBridge t k b → m.bridge_id a ≡ m.bridge_id b → n ≡ k
  bridge_ids n k a b h j e =
      elim (apart_cases (BridgesDiffer m) bridges (n, a) (k, b) can.bridges_differ h j) [
        | inl same ↦ ap (λ (q : ℕ × B). q.0) same
        | inr differ ↦ absurd (elim differ [ inl d ↦ d.identifiers e | inr d ↦ d.identifiers (sym e) ])
      ]

  one_port : (p q : TreePort ℕ ℕ ℕ P) → HasPort t p → HasPort t q → p.number ≡ q.number → p ≡ q
  one_port p q h j e =
      let w = wire_of p h in
      let x = wire_of q j in
      let numbers : w.0.number ≡ x.0.number = ap (λ (r : TreePort ℕ ℕ ℕ P). r.number) w.2 ∙ e ∙ sym (ap (λ (r : TreePort ℕ ℕ ℕ P). r.number) x.2) in
      elim (apart_cases (λ (p q : TreePort ℕ ℕ ℕ P). p.number ≢ q.number) wires w.0 x.0 are.numbers w.1 x.1) [
        | inl same ↦ sym w.2 ∙ ap (port_in bridges own) same ∙ x.2
        | inr differ ↦ absurd (elim differ [ inl d ↦ d numbers | inr d ↦ d (sym numbers) ])
      ]

  port_ids : (p q : TreePort ℕ ℕ ℕ P) → HasPort t p → IsTrue p.is_part → HasPort t q → IsTrue q.is_part → p.bridge ≡ q.bridge → m.port_id p.settings ≡ m.port_id q.settings → p ≡ q
  port_ids p q h part j takes on e =
      elim (apart_cases (PortsDiffer m) ports p q can.ports_differ (part_in p h part) (part_in q j takes)) [
        | inl same ↦ same
        | inr differ ↦ absurd (elim differ [ inl d ↦ d.identifiers on e | inr d ↦ d.identifiers (sym on) (sym e) ])
      ]

  has_bridge : (p : TreePort ℕ ℕ ℕ P) → HasPort t p → IsTrue p.is_part → (b : B) × HasBridge t p.bridge b
  has_bridge p h part =
      let w = wire_of p h in
      let parts = and_parts w.0.is_part (is_some (lookup (nat_eq w.0.bridge) bridges)) (subst (λ (q : TreePort ℕ ℕ ℕ P). IsTrue q.is_part) (sym w.2) part) in
      let b = looked_there w.0.bridge bridges parts.1 in
      (b.0, subst (λ n. HasBridge t n b.0) (ap (λ (q : TreePort ℕ ℕ ℕ P). q.bridge) w.2) b.1)

  in_range : (p : TreePort ℕ ℕ ℕ P) → HasPort t p → IsTrue (m.in_range p.settings)
  in_range p h =
      let w = wire_of p h in
      subst (λ (q : TreePort ℕ ℕ ℕ P). IsTrue (m.in_range q.settings)) w.2 (all_contained (λ p. IsTrue (m.in_range (settings_in own p))) wires w.0 are.in_range w.1)

  on_wiring : OnWiring m (topology_of wires bridges own) (topology_by_number bridges ports)
  on_wiring = record {
    is_topology = record { one_bridge = one_bridge; one_port = one_port; has_bridge = has_bridge; in_range = in_range; bridge_ids = bridge_ids; port_ids = port_ids };
    same = record { bridges = λ n b. (λ h. h, λ h. h); ports = λ p part. (λ h. part_in p h part, are.from p) };
    few = can.few;
    numbers = apart_weaker (BridgesDiffer m) (λ (a b : ℕ × B). a.0 ≢ b.0) (λ a b d. d.numbers) bridges can.bridges_differ;
  }

-- ---- the CIST
module _ (net : Net) (numbers : Numbers) (v : Viewed) (region_ids : List (ℕ × ℕ)) (of : AreOf net numbers v region_ids) where
  cist_can : CanSettle cist_rules (cist_bridges_seen v region_ids) (cist_wires v)
  cist_can =
      subst (λ (t : Topology ℕ ℕ ℕ CistBridge CistPort). CanSettle cist_rules t.bridges t.ports) (sym (cist_is_seen net numbers v region_ids of))
      (can_settle net numbers of.network of.numbered v of.view cist_rules (cist_sight net) (cist_is_sight net of.network))

  pub cist_numbers : HaveNumbers (cist_wires v)
  cist_numbers = apart_weaker (PortsDiffer cist_rules) (λ (p q : TreePort ℕ ℕ ℕ CistPort). p.number ≢ q.number) (λ p q d. d.numbers) (cist_wires v) cist_can.ports_differ

  -- each port of the wiring takes part
  each_part : (p : TreePort ℕ ℕ ℕ CistPort) → Contains (cist_wires v) p → port_in (cist_bridges_seen v region_ids) [] p ≡ p
  each_part p h = λ i. record { number = p.number; bridge = p.bridge; lan = p.lan; settings = p.settings; is_part = same i; is_restricted = p.is_restricted }
    where
      bridges : List (ℕ × CistBridge)
      bridges = cist_bridges_seen v region_ids

      takes : p.is_part ≡ true
      takes = all_contained (λ (p : TreePort ℕ ℕ ℕ CistPort). p.is_part ≡ true) (cist_wires v) p cist_can.take_part h

      there : is_some (lookup (nat_eq p.bridge) bridges) ≡ true
      there =
          let b = all_contained (λ (p : TreePort ℕ ℕ ℕ CistPort). (b : CistBridge) × Contains (cist_bridges_seen v region_ids) (p.bridge, b)) (cist_wires v) p cist_can.have_bridge h in
          there_looked p.bridge b.0 (cist_bridges_seen v region_ids) b.1

      same : (p.is_part && is_some (lookup (nat_eq p.bridge) bridges)) ≡ p.is_part
      same = (λ i. takes i && there i) ∙ sym takes

  pub cist_on_wiring : OnWiring cist_rules (topology_of (cist_wires v) (cist_bridges_seen v region_ids) []) (cist_seen v region_ids)
  cist_on_wiring = on_wiring cist_rules (cist_wires v) (cist_bridges_seen v region_ids) [] (cist_wires v) cist_can (record {
    numbers = cist_numbers;
    in_range = cist_can.in_range;
    to = λ p h part. subst (Contains (cist_wires v)) (sym (each_part p h)) h;
    from = λ p h. subst (Contains (map (port_in (cist_bridges_seen v region_ids) []) (cist_wires v))) (each_part p h) (contains_mapped (port_in (cist_bridges_seen v region_ids) []) (cist_wires v) p h);
  })

-- ---- the MSTIs
module _ (v : Viewed) (internal : List PortInView) (known : KnownInternal v internal) where
  abbrev passes : PortInView → Bool
  passes p = p.is_enabled && is_internal known.net known.designated (named_port p)

  pub internal_numbers : HaveNumbers (msti_wires internal)
  internal_numbers =
      apart_mapped (PortsRise known.net known.numbers) (λ (p q : TreePort ℕ ℕ ℕ MstiPort). p.number ≢ q.number) base_port
      (λ p q l same.
      port_names_differ p.name q.name l.less (known.of.numbered.ports_differ p.name q.name q.number (l.first.has_numbers.port ∙ ap Some same) l.second.has_numbers.port))
      internal
      (subst (Apart (PortsRise known.net known.numbers)) (sym known.is) (apart_filtered (PortsRise known.net known.numbers) passes v.ports (ports_apart known.net known.numbers v known.of.view)))

  internal_seen : AllByRecursion (SeenPort known.net known.numbers) internal
  internal_seen =
      subst (AllByRecursion (SeenPort known.net known.numbers)) (sym known.is)
      (all_passing (SeenPort known.net known.numbers) (SeenPort known.net known.numbers) passes (λ p seen _. seen) v.ports (ports_seen known.net known.numbers v known.of.view))

module _ (v : Viewed) (internal : List PortInView) (tree : ℕ) (own : List (ℕ × MstiPort)) (known : KnownInternal v internal) (are : AreOwn v internal tree own) where
  abbrev bridges : List (ℕ × MstiBridge)
  bridges = msti_bridges_seen v tree

  abbrev ports : List (TreePort ℕ ℕ ℕ MstiPort)
  ports = filter_map (seen_msti_port v tree) internal

  -- an internal port in the tree
  abbrev part : PortInView → TreePort ℕ ℕ ℕ MstiPort
  part p = seen_tree_port p (msti_port v.settings tree (named_port p))

  msti_can : CanSettle msti_rules bridges ports
  msti_can =
      subst (λ (t : Topology ℕ ℕ ℕ MstiBridge MstiPort). CanSettle msti_rules t.bridges t.ports)
      (sym (msti_is_seen known.net known.numbers v known.region_ids known.of tree known.designated internal known.is))
      (can_settle known.net known.numbers known.of.network known.of.numbered v known.of.view msti_rules (msti_sight known.net tree known.designated)
      (msti_is_sight known.net known.of.network tree known.designated))

  -- it is the port of the wiring, where its bridge is in the tree
  part_is : (p : PortInView) → Contains internal p → is_some (lookup (nat_eq p.bridge) bridges) ≡ true → port_in bridges own (base_port p) ≡ part p
  part_is p h there = λ i. record {
    number = p.number;
    bridge = p.bridge;
    lan = p.lan_number;
    settings = all_contained (λ p. settings_in own (base_port p) ≡ msti_port v.settings tree (named_port p)) internal p are h i;
    is_part = there i;
    is_restricted = p.settings.is_restricted;
  }

  -- a bridge in the tree has it
  has_tree : (n : ℕ) (b : MstiBridge) → Contains bridges (n, b) → is_among (trees_at v n) tree ≡ true
  has_tree n b h =
      let x = kept_from (seen_msti_bridge v tree) v.bridges (n, b) h in
      let row = bridge_row x.0.bridge in
      let is = given (row.is_on && is_among (trees_at v x.0.bridge.number) tree) (x.0.bridge.number, msti_bridge v.settings tree x.0.name row) (n, b) x.2 in
      ap (λ k. is_among (trees_at v k) tree) (sym (ap (λ (q : ℕ × MstiBridge). q.0) is.1)) ∙ (and_parts row.is_on (is_among (trees_at v x.0.bridge.number) tree) is.0).1

  to : (p : PortInView) → Contains internal p → is_some (lookup (nat_eq p.bridge) bridges) ≡ true → Contains ports (port_in bridges own (base_port p))
  to p h there =
      let b = looked_there p.bridge bridges there in
      let has = has_tree p.bridge b.0 b.1 in
      subst (Contains ports) (sym (part_is p h there)) (kept_in (seen_msti_port v tree) internal p (part p) h (ap (λ (t : Bool). if t then Some (part p) else None) has))

  from : (q : TreePort ℕ ℕ ℕ MstiPort) → Contains ports q → Contains (map (port_in bridges own) (msti_wires internal)) q
  from q h =
      let x = kept_from (seen_msti_port v tree) internal q h in
      let is : part x.0 ≡ q = (given (is_among (trees_at v x.0.bridge) tree) (part x.0) q x.2).1 in
      let b = all_contained (λ (p : TreePort ℕ ℕ ℕ MstiPort). (b : MstiBridge) × Contains bridges (p.bridge, b)) ports q msti_can.have_bridge h in
      let there = there_looked x.0.bridge b.0 bridges (subst (λ n. Contains bridges (n, b.0)) (sym (ap (λ (p : TreePort ℕ ℕ ℕ MstiPort). p.bridge) is)) b.1) in
      subst (Contains (map (port_in bridges own) (msti_wires internal))) (part_is x.0 x.1 there ∙ is)
      (contains_mapped (port_in bridges own) (msti_wires internal) (base_port x.0) (contains_mapped base_port internal x.0 x.1))

  pub msti_on_wiring : OnWiring msti_rules (topology_of (msti_wires internal) (msti_bridges_seen v tree) own) (msti_seen v internal tree)
  msti_on_wiring = on_wiring msti_rules (msti_wires internal) bridges own ports msti_can (record {
    numbers = internal_numbers v internal known;
    in_range = all_mapped (λ p. IsTrue (msti_rules.in_range (settings_in own p))) base_port internal
        (all_both (SeenPort known.net known.numbers) (λ p. settings_in own (base_port p) ≡ msti_port v.settings tree (named_port p)) (λ p. IsTrue (msti_rules.in_range (settings_in own (base_port p))))
        (λ p seen e.
        subst (λ c. IsTrue (msti_rules.in_range c)) (sym e)
        (subst (λ set. IsTrue (msti_rules.in_range (msti_port set tree (named_port p)))) (sym known.of.view.settings) (msti_in_range known.net known.of.network tree (named_port p))))
        internal (internal_seen v internal known) are);
    to = λ w h there.
        let x = contains_unmapped base_port internal w h in
        subst (λ (q : TreePort ℕ ℕ ℕ MstiPort). Contains ports (port_in bridges own q)) x.2
        (to x.0 x.1 (subst (λ (q : TreePort ℕ ℕ ℕ MstiPort). IsTrue (port_in bridges own q).is_part) (sym x.2) there));
    from = from;
  })
