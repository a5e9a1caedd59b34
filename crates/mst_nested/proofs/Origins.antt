-- Where the vectors of a region's bridges come from in one settled tree, and what walks from there cost.
use Rattle.std.proofs.Common.{◌≡◌, ◌≢◌, ◌⊎◌, inl, inr, refl, sym, ◌∙◌, ap, subst, ℕ, zero, suc, ◌+◌, ◌<◌, ◌≤◌, Bool, true, false, IsTrue, arith}
use Rattle.mst_topology.specs.Topology.{TreePort, HasBridge}
use Rattle.mst_topology.specs.Settled.{IsRootPathVector}
use Rattle.mst_nested.specs.Trees.{TakesPart, IsUnrestricted}
use Rattle.mst_nested.specs.Costs.{CostWalk, at_start, enter}
use Rattle.mst_nested.proofs.Settled.{SettledTree}
use Rattle.mst_nested.proofs.Ports.{Placed, Heard, placed, heard, sender, beside, some_is}

-- what is heard on a LAN is heard under another name of it
abbrev pub on_same_lan : {N L K B P V : Type 0} {tree : SettledTree N L K B P V} {l k : L} → l ≡ k → Heard tree l → Heard tree k
on_same_lan e d = record {
  port = d.port;
  message = d.message;
  designates = record { on_lan = d.designates.on_lan ∙ e; says = d.designates.says; upto = λ q y on s. d.designates.upto q y (on ∙ sym e) s };
}

-- a designated port hears itself
abbrev pub own_heard : {N L K B P V : Type 0} {tree : SettledTree N L K B P V} {l : L} → (d : Heard tree l) → Heard tree d.port.lan
own_heard d = on_same_lan (sym d.designates.on_lan) d

abbrev pub same_placed : {N L K B P V : Type 0} {tree : SettledTree N L K B P V} {n k : N} → n ≡ k → Placed tree n → Placed tree k
same_placed {tree = tree} e a = record { bridge = a.bridge; has_bridge = subst (λ i. HasBridge tree.topology i a.bridge) e a.has_bridge; vector = a.vector; is_vector = ap tree.vector (sym e) ∙ a.is_vector }

module _ {N L K B P V : Type 0} (tree : SettledTree N L K B P V) where
  open tree use {rules as m, lawful as law, topology as t, vector as v, is_tree.{topology as ok, settled, port_ids}, tests, within as w, is_within as within}

  -- the bridge's vector is a step along this port, whose role isn't restricted
  pub record Took (n : N) (a : Placed tree n) : Type 0 where
    pub port : TreePort N L K P
    pub part : TakesPart t port
    pub is_free : port.is_restricted ≡ false
    pub on_bridge : port.bridge ≡ n
    pub heard : Heard tree port.lan
    pub from_other : heard.port.bridge ≢ n
    pub is_made : a.vector ≡ m.root_path_vector heard.message heard.designates.says.bridge a.bridge port.settings

  -- a bridge's vector is its own or a step
  pub took : (n : N) (a : Placed tree n) → (a.vector ≡ m.bridge_vector a.bridge) ⊎ Took n a
  took n a = elim (settled.bridges n a.bridge a.vector a.has_bridge a.is_vector).can_take [
    | inl e ↦ inl e
    | inr s ↦ inr (step s)
  ]
    where
      step : IsRootPathVector m t v n a.bridge a.vector → Took n a
      step s =
          let who : s.sender ≡ s.designates.says.bridge = ok.one_bridge s.from.bridge s.sender s.designates.says.bridge s.has_sender s.designates.says.has_bridge in
          record {
            port = s.port;
            part = (s.has_port, s.is_part);
            is_free = s.is_free;
            on_bridge = s.on_bridge;
            heard = record { port = s.from; message = s.message; designates = s.designates };
            from_other = s.from_other;
            is_made = sym s.is_made ∙ ap (λ c. m.root_path_vector s.message c a.bridge s.port.settings) who;
          }

  -- a step names its port as the receiving one
  pub names_port : (n : N) (a : Placed tree n) (k : Took n a) → w.receiver a.vector ≡ m.port_id k.port.settings
  names_port n a k = ap w.receiver k.is_made ∙ within.step_receiver k.heard.message k.heard.designates.says.bridge a.bridge k.port.settings

  -- and a vector that names a port so is a step along it
  pub took_along : (p : TreePort N L K P) → TakesPart t p → (a : Placed tree p.bridge) → w.receiver a.vector ≡ m.port_id p.settings → (k : Took p.bridge a) × (k.port ≡ p)
  took_along p part a by = elim (took p.bridge a) [
    | inl e ↦ absurd (port_ids p part.0 (sym by ∙ (ap w.receiver e ∙ within.own_receiver a.bridge)))
    | inr k ↦ (k, ok.port_ids k.port p k.part.0 k.part.1 part.0 part.1 k.on_bridge (sym (names_port p.bridge a k) ∙ by))
  ]

  -- a step from a bridge of the region
  pub record Near (n : N) (a : Placed tree n) (k : Took n a) : Type 0 where
    pub same : w.shared a.vector ≡ w.shared k.heard.designates.says.root
    pub costs : w.internal a.vector ≡ w.internal k.heard.designates.says.root + w.cost k.port.settings
    pub positive : 1 ≤ w.cost k.port.settings

  pub near_step : (n : N) (a : Placed tree n) (k : Took n a) → IsTrue (w.is_near k.heard.designates.says.bridge a.bridge) → Near n a k
  near_step n a k near =
      let s = k.heard.designates.says in
      let message = sym s.is_designated in
      record {
        same = ap w.shared k.is_made ∙ (within.near_shared k.heard.message s.bridge a.bridge k.port.settings near ∙ (ap w.shared message ∙ within.designated_shared s.root s.bridge k.heard.port.settings));
        costs = ap w.internal k.is_made ∙ (within.near_internal k.heard.message s.bridge a.bridge k.port.settings near ∙ ap (λ (i : ℕ). i + w.cost k.port.settings) (ap w.internal message ∙ within.designated_internal s.root s.bridge k.heard.port.settings));
        positive = within.costs k.port.settings (ok.in_range k.port k.part.0);
      }

  -- the ports of one kind are those within a region
  pub record AreNear (IsPort : TreePort N L K P → Type 0) : Type 0 where
    pub part : (p : TreePort N L K P) → IsPort p → TakesPart t p
    pub near : (p : TreePort N L K P) → IsPort p → (a : Placed tree p.bridge) (d : Heard tree p.lan) → IsTrue (w.is_near d.designates.says.bridge a.bridge)
    pub from_near : (p : TreePort N L K P) → TakesPart t p → (a : Placed tree p.bridge) (d : Heard tree p.lan) → IsTrue (w.is_near d.designates.says.bridge a.bridge) → IsPort p

  module _ (IsPort : TreePort N L K P → Type 0) (are : AreNear IsPort) where
    pub designated_port : {lan : L} → (d : Heard tree lan) → IsPort d.port
    designated_port d =
        let s = d.designates.says in
        are.from_near d.port (s.has_port, s.is_part) (sender tree d) (own_heard d) (within.itself_near s.bridge)

    -- the bridge at which the vectors of a region begin, by its own vector or a step from another region
    pub record Origin (n : N) (a : Placed tree n) : Type 0 where
      pub root : N
      pub at : Placed tree root
      pub same : w.shared at.vector ≡ w.shared a.vector
      pub no_cost : w.internal at.vector ≡ 0
      pub began : (at.vector ≡ m.bridge_vector at.bridge) ⊎ ((k : Took root at) × (w.is_near k.heard.designates.says.bridge at.bridge ≡ false))
      pub walk : CostWalk IsPort w.cost root n (w.internal a.vector)

    origin_below : (bound : ℕ) (n : N) (a : Placed tree n) → w.internal a.vector < bound → Origin n a
    origin_below zero n a low = absurd (omega arith)
    origin_below (suc bound) n a low = elim (took n a) [
      | inl e ↦ begins (ap w.internal e ∙ within.own_internal a.bridge) (inl e)
      | inr k ↦ go (origin_below bound) k (w.is_near k.heard.designates.says.bridge a.bridge) refl
    ]
      where
        begins : w.internal a.vector ≡ 0 → (a.vector ≡ m.bridge_vector a.bridge) ⊎ ((k : Took n a) × (w.is_near k.heard.designates.says.bridge a.bridge ≡ false)) → Origin n a
        begins e how = record { root = n; at = a; same = refl; no_cost = e; began = how; walk = subst (CostWalk IsPort w.cost n n) (sym e) at_start }

        go : ((i : N) (c : Placed tree i) → w.internal c.vector < bound → Origin i c) → (k : Took n a) (c : Bool) → w.is_near k.heard.designates.says.bridge a.bridge ≡ c → Origin n a
        go rest k false e = begins (ap w.internal k.is_made ∙ within.far_internal k.heard.message k.heard.designates.says.bridge a.bridge k.port.settings e) (inr (k, e))
        go rest k true e =
            let from : Placed tree k.heard.port.bridge = sender tree k.heard in
            let h = near_step n a k e in
            let c = h.costs in
            let one = h.positive in
            let r = rest k.heard.port.bridge from (omega arith) in
            let last : CostWalk IsPort w.cost r.root k.port.bridge (w.internal from.vector + w.cost k.port.settings) =
            enter r.walk k.heard.port k.port (designated_port k.heard) (are.from_near k.port k.part (same_placed (sym k.on_bridge) a) k.heard e) refl (sym k.heard.designates.on_lan) in
            record {
              root = r.root;
              at = r.at;
              same = r.same ∙ sym h.same;
              no_cost = r.no_cost;
              began = r.began;
              walk = subst (λ i. CostWalk IsPort w.cost r.root i (w.internal a.vector)) k.on_bridge (subst (CostWalk IsPort w.cost r.root k.port.bridge) (sym h.costs) last);
            }

    pub origin : (n : N) (a : Placed tree n) → Origin n a
    origin n a = origin_below (suc (w.internal a.vector)) n a (omega arith)

    -- a bridge that a walk comes to: it shares the region's components, at no more than the walk's cost
    pub record Reached (s a : V) (c : ℕ) : Type 0 where
      pub same : w.shared a ≡ w.shared s
      pub cheap : w.internal a ≤ w.internal s + c

    pub reached : IsUnrestricted t → {start n : N} {c : ℕ} → CostWalk IsPort w.cost start n c → (s : Placed tree start) (a : Placed tree n) → Reached s.vector a.vector c
    reached free at_start s a = let e : a.vector ≡ s.vector = some_is (sym a.is_vector ∙ s.is_vector) in record { same = ap w.shared e; cheap = (let i = ap w.internal e in omega arith) }
    reached free (enter {n = n} {c = c} walk out into is_out is_into on lan) s a =
        let at_out = placed tree out (are.part out is_out) in
        let rest = reached free walk s (same_placed on at_out) in
        let d = heard tree out (are.part out is_out) in
        let f = on_same_lan (sym lan) d in
        let up = beside tree out (are.part out is_out) (free out (are.part out is_out).0) at_out d (are.near out is_out at_out d) in
        let down = beside tree into (are.part into is_into) (free into (are.part into is_into).0) a f (are.near into is_into a f) in
        let i = up.down in
        let j = down.up in
        let k = rest.cheap in
        record { same = down.same ∙ (sym up.same ∙ rest.same); cheap = omega arith }
