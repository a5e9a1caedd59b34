-- Parents in one settled tree: a bridge's vector is a step from its parent, or its own where it has none.
use Rattle.std.proofs.Common.{◌≡◌, inl, inr, refl, sym, ◌∙◌, ap, ℕ, Option, Some}
use Rattle.mst_vector.specs.Rules.{Rules}
use Rattle.mst_roles.specs.forest.topology.Topology.{TreePort, Topology}
use Rattle.mst_roles.proofs.forest_lemmas.topology_lemmas.Below.{one_designated}
use Rattle.mst_roles.proofs.forest_lemmas.nested_lemmas.Settled.{SettledTree}
use Rattle.mst_roles.proofs.forest_lemmas.nested_lemmas.Ports.{Placed, Heard, some_is}
use Rattle.mst_roles.proofs.forest_lemmas.nested_lemmas.Origins.{Took, took, names_port, on_same_lan}
use Rattle.mst_note_text.specs.Depths.{HasParent}

-- the vector that names the root port is the bridge's
pub parent_vector : {N L K B P V : Type 0} {m : Rules B P V} {t : Topology N L K B P} {v : N → Option V} {receiver : V → ℕ} {n k : N} → (p : HasParent m t v receiver n k) → v n ≡ Some p.is_root.vector
parent_vector {v = v} p = ap v (sym p.on_bridge) ∙ p.is_root.is_vector

module _ {N L K B P V : Type 0} (tree : SettledTree N L K B P V) where
  open tree use {rules as m, lawful as law, topology as t, vector as v, is_tree.{topology as ok, port_ids}, within as w, is_within as within}

  abbrev pub Parent : N → N → Type 0
  Parent n k = HasParent m t v w.receiver n k

  pub one_parent : (n k j : N) → Parent n k → Parent n j → k ≡ j
  one_parent n k j p q =
      let vectors : p.is_root.vector ≡ q.is_root.vector = some_is (sym (parent_vector p) ∙ (parent_vector q)) in
      let ports : p.port ≡ q.port = ok.port_ids p.port q.port p.is_root.part.0 p.is_root.part.1 q.is_root.part.0 q.is_root.part.1 (p.on_bridge ∙ sym q.on_bridge) (sym p.is_root.came_by ∙ (ap w.receiver vectors ∙ q.is_root.came_by)) in
      let heard : Heard tree p.port.lan = record { port = p.from; message = p.message; designates = p.designates } in
      let d : Heard tree q.port.lan = on_same_lan (ap (λ (r : TreePort N L K P). r.lan) ports) heard in
      let from = one_designated m law t ok v q.port.lan d.port q.from d.message q.message d.designates q.designates in
      sym p.is_bridge ∙ (ap (λ (r : TreePort N L K P). r.bridge) from ∙ q.is_bridge)

  -- a step comes from the parent
  pub took_parent : (n : N) (a : Placed tree n) (k : Took tree n a) → Parent n k.heard.port.bridge
  took_parent n a k = record {
    port = k.port;
    is_root = record { part = k.part; vector = a.vector; is_vector = ap v k.on_bridge ∙ a.is_vector; came_by = names_port tree n a k };
    on_bridge = k.on_bridge;
    from = k.heard.port;
    message = k.heard.message;
    designates = k.heard.designates;
    is_bridge = refl;
  }

  -- a bridge with its own vector has no parent
  pub own_alone : (n k : N) (a : Placed tree n) → a.vector ≡ m.bridge_vector a.bridge → Parent n k → ⊥
  own_alone n k a own p =
      let vectors : p.is_root.vector ≡ a.vector = some_is (sym (parent_vector p) ∙ a.is_vector) in
      port_ids p.port p.is_root.part.0 (sym p.is_root.came_by ∙ (ap w.receiver vectors ∙ (ap w.receiver own ∙ within.own_receiver a.bridge)))

  -- the step from a parent
  pub record TookFrom (n k : N) (a : Placed tree n) : Type 0 where
    pub step : Took tree n a
    pub is_from : step.heard.port.bridge ≡ k

  pub took_from : (n k : N) (a : Placed tree n) → Parent n k → TookFrom n k a
  took_from n k a p = elim (took tree n a) [
    | inl e ↦ absurd (own_alone n k a e p)
    | inr s ↦ record { step = s; is_from = one_parent n s.heard.port.bridge k (took_parent n a s) p }
  ]
