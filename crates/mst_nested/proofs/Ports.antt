-- The ports of one settled tree, in a region: how the vectors of bridges on one LAN differ.
use Rattle.std.proofs.Common.{◌≡◌, ◌⊎◌, inl, inr, refl, sym, ◌∙◌, ap, ℕ, ◌+◌, [], ◌∷◌, ◌++◌, Option, Some, None, Bool, true, false, IsTrue, arith}
use Rattle.std.specs.Ordering.{is_gt}
use Rattle.std.proofs.lemmas.Cmp.{nat_list_cmp_total}
use Rattle.mst_topology.specs.Topology.{TreePort, HasBridge}
use Rattle.mst_topology.specs.Settled.{IsDesignatedVector, Designates, IsRootPathVector, IsSilent}
use Rattle.mst_topology.proofs.Orders.{first_part}
use Rattle.mst_topology.proofs.KeyTests.{fails}
use Rattle.mst_topology.proofs.Below.{one_designated}
use Rattle.mst_topology.proofs.Offers.{chosen}
use Rattle.mst_graph.specs.Walks.{Node, bridge_at, lan_at}
use Rattle.mst_nested.specs.Trees.{TakesPart}
use Rattle.mst_nested.proofs.Orders.{Upto, AreClose, close}
use Rattle.mst_nested.proofs.Settled.{SettledTree}

pub some_is : {V : Type 0} {x y : V} → Some x ≡ Some y → x ≡ y
some_is e = cc

module _ {N L K B P V : Type 0} (tree : SettledTree N L K B P V) where
  open tree use {rules as m, lawful as law, topology as t, vector as v, is_tree.{topology as ok, settled, port_ids}, tests, within as w, is_within as within}

  -- a bridge with its vector
  pub record Placed (n : N) : Type 0 where
    pub bridge : B
    pub has_bridge : HasBridge t n bridge
    pub vector : V
    pub is_vector : v n ≡ Some vector

  -- what a LAN's designated port says
  pub record Heard (lan : L) : Type 0 where
    pub port : TreePort N L K P
    pub message : V
    pub designates : Designates m t v lan port message

  pub placed : (p : TreePort N L K P) → TakesPart t p → Placed p.bridge
  placed p part =
      let b = ok.has_bridge p part.0 part.1 in
      let x = settled.has_vector p.bridge b.0 b.1 in
      record { bridge = b.0; has_bridge = b.1; vector = x.0; is_vector = x.1 }

  -- the bridge of a port says its designated vector there
  says : (p : TreePort N L K P) → TakesPart t p → (a : Placed p.bridge) → IsDesignatedVector m t v p (m.designated_vector a.vector a.bridge p.settings)
  says p part a = record { has_port = part.0; is_part = part.1; bridge = a.bridge; has_bridge = a.has_bridge; root = a.vector; is_root = a.is_vector; is_designated = refl }

  -- a LAN with a port has a designated port
  pub heard : (p : TreePort N L K P) → TakesPart t p → Heard p.lan
  heard p part = go (chosen m law t ok tests v p.lan)
    where
      go : ((q : TreePort N L K P) × (x : V) × Designates m t v p.lan q x) ⊎ IsSilent m t v p.lan → Heard p.lan
      go (inl d) = record { port = d.0; message = d.1; designates = d.2 }
      go (inr s) = (let a = placed p part in absurd (s p (m.designated_vector a.vector a.bridge p.settings) refl (says p part a)))

  abbrev pub sender : {lan : L} → (d : Heard lan) → Placed d.port.bridge
  sender d = let s = d.designates.says in record { bridge = s.bridge; has_bridge = s.has_bridge; vector = s.root; is_vector = s.is_root }

  -- a bridge's vector, and a LAN's designated bridge's
  abbrev lan_vector : (lan : L) → ((q : TreePort N L K P) × (x : V) × Designates m t v lan q x) ⊎ IsSilent m t v lan → Option V
  lan_vector lan (inl d) = v d.0.bridge
  lan_vector lan (inr s) = None

  abbrev pub node_vector : Node N L → Option V
  node_vector (bridge_at n) = v n
  node_vector (lan_at l) = lan_vector l (chosen m law t ok tests v l)

  pub lan_vector_is : (lan : L) (d : Heard lan) → node_vector (lan_at lan) ≡ v d.port.bridge
  lan_vector_is lan d = go (chosen m law t ok tests v lan)
    where
      go : (o : ((q : TreePort N L K P) × (x : V) × Designates m t v lan q x) ⊎ IsSilent m t v lan) → lan_vector lan o ≡ v d.port.bridge
      go (inl e) = ap (λ (q : TreePort N L K P). v q.bridge) (one_designated m law t ok v lan e.0 d.port e.1 d.message e.2 d.designates)
      go (inr s) = absurd (s d.port d.message d.designates.on_lan d.designates.says)

  -- a LAN has a designated port, or no vector
  pub heard_or_none : (lan : L) → Heard lan ⊎ (node_vector (lan_at lan) ≡ None)
  heard_or_none lan = go (chosen m law t ok tests v lan)
    where
      go : (o : ((q : TreePort N L K P) × (x : V) × Designates m t v lan q x) ⊎ IsSilent m t v lan) → Heard lan ⊎ (lan_vector lan o ≡ None)
      go (inl d) = inl (record { port = d.0; message = d.1; designates = d.2 })
      go (inr s) = inr refl

  -- neither of a port's bridge and its LAN's designated bridge makes a better offer to the other
  pub record Meets (p : TreePort N L K P) (a : Placed p.bridge) (d : Heard p.lan) : Type 0 where
    pub hears : is_gt (m.order a.vector (m.root_path_vector d.message d.designates.says.bridge a.bridge p.settings)) ≡ false
    pub says_worse : is_gt (m.order d.message (m.designated_vector a.vector a.bridge p.settings)) ≡ false

  pub meets : (p : TreePort N L K P) → TakesPart t p → p.is_restricted ≡ false → (a : Placed p.bridge) (d : Heard p.lan) → (a.vector ≡ d.designates.says.root) ⊎ Meets p a d
  meets p part free a d = go (tests.same_bridge d.port.bridge p.bridge) refl
    where
      go : (c : Bool) → tests.same_bridge d.port.bridge p.bridge ≡ c → (a.vector ≡ d.designates.says.root) ⊎ Meets p a d
      go true e =
          let same : d.port.bridge ≡ p.bridge = tests.bridges.alone d.port.bridge p.bridge e in
          inl (some_is (sym a.is_vector ∙ (ap v (sym same) ∙ d.designates.says.is_root)))
      go false e =
          let steps : IsRootPathVector m t v p.bridge a.bridge (m.root_path_vector d.message d.designates.says.bridge a.bridge p.settings) = record {
            port = p;
            has_port = part.0;
            is_part = part.1;
            is_free = free;
            on_bridge = refl;
            from = d.port;
            message = d.message;
            designates = d.designates;
            from_other = fails tests.bridges d.port.bridge p.bridge e;
            sender = d.designates.says.bridge;
            has_sender = d.designates.says.has_bridge;
            is_made = refl;
          } in
          inr (record {
            hears = (settled.bridges p.bridge a.bridge a.vector a.has_bridge a.is_vector).upto (m.root_path_vector d.message d.designates.says.bridge a.bridge p.settings) (inr steps);
            says_worse = d.designates.upto p (m.designated_vector a.vector a.bridge p.settings) refl (says p part a);
          })

  leading_upto : (x y : V) → is_gt (m.order x y) ≡ false → Upto (w.shared x ++ w.internal x ∷ []) (w.shared y ++ w.internal y ∷ [])
  leading_upto x y h = rw (within.leading x, within.leading y) at (first_part m.leading law.total nat_list_cmp_total law.leads x y h)

  -- on a LAN of its region a bridge shares all but the internal root path cost with the designated bridge,
  -- and by a port its cost is at most the port's more
  pub beside : (p : TreePort N L K P) → TakesPart t p → p.is_restricted ≡ false → (a : Placed p.bridge) (d : Heard p.lan) → IsTrue (w.is_near d.designates.says.bridge a.bridge) → AreClose (w.shared a.vector) (w.shared d.designates.says.root) (w.internal a.vector) (w.internal d.designates.says.root + w.cost p.settings) (w.internal d.designates.says.root) (w.internal a.vector)
  beside p part free a d near = elim (meets p part free a d) [
    | inl e ↦ (let i = ap w.internal e in record { same = ap w.shared e; up = omega arith; down = omega arith })
    | inr h ↦ go h
  ]
    where
      y : V
      y = d.designates.says.root

      x : V
      x = a.vector

      b : B
      b = a.bridge

      z : V
      z = m.root_path_vector d.message d.designates.says.bridge b p.settings

      message : d.message ≡ m.designated_vector y d.designates.says.bridge d.port.settings
      message = sym d.designates.says.is_designated

      go : Meets p a d → AreClose (w.shared x) (w.shared y) (w.internal x) (w.internal y + w.cost p.settings) (w.internal y) (w.internal x)
      go h =
          let message_shared : w.shared d.message ≡ w.shared y = ap w.shared message ∙ within.designated_shared y d.designates.says.bridge d.port.settings in
          let message_internal : w.internal d.message ≡ w.internal y = ap w.internal message ∙ within.designated_internal y d.designates.says.bridge d.port.settings in
          let step_shared : w.shared z ≡ w.shared y = within.near_shared d.message d.designates.says.bridge b p.settings near ∙ message_shared in
          let step_internal : w.internal z ≡ w.internal y + w.cost p.settings = within.near_internal d.message d.designates.says.bridge b p.settings near ∙ ap (λ (k : ℕ). k + w.cost p.settings) message_internal in
          let up = rw (step_shared, step_internal) at (leading_upto x z h.hears) in
          let down = rw (message_shared, message_internal, within.designated_shared x b p.settings, within.designated_internal x b p.settings) at (leading_upto d.message (m.designated_vector x b p.settings) h.says_worse) in
          close (w.shared x) (w.shared y) (w.internal x) (w.internal y + w.cost p.settings) (w.internal y) (w.internal x) (within.one_length x y) up down
