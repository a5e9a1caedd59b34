-- Ports with roles are a forest.
use Rattle.std.proofs.Common.{◌≡◌, ◌⊎◌, inl, inr, sym, ◌∙◌, ap, ◌<◌, arith}
use Rattle.mst_topology.specs.Topology.{TreePort}
use Rattle.mst_graph.specs.Walks.{Node, bridge_at, lan_at}
use Rattle.mst_nested.specs.Ports.{port_ends}
use Rattle.mst_graph.specs.TreesInParts.{Climbs, HasTreesInParts}
use Rattle.mst_nested.proofs.Places.{Places, place_rank, levels, HasRoles, IsInside}

module _ {N L K P : Type 0} (q : Places N L) (Active Root Designated : TreePort N L K P → Type 0) (ok : HasRoles q Active Root Designated) where
  -- what climbs from a bridge is a root port
  climbs_root : (e : TreePort N L K P) → Active e → IsInside q e → place_rank q (lan_at e.lan) < place_rank q (bridge_at e.bridge) → Root e
  climbs_root e act i l = elim (ok.role e act i) [
    | inl d ↦ (let h = ok.designated_lead e d in absurd (omega arith))
    | inr r ↦ r
  ]

  -- and from a LAN a designated port
  climbs_designated : (e : TreePort N L K P) → Active e → IsInside q e → place_rank q (bridge_at e.bridge) < place_rank q (lan_at e.lan) → Designated e
  climbs_designated e act i l = elim (ok.role e act i) [
    | inl d ↦ d
    | inr r ↦ (let h = ok.root_lead e r in absurd (omega arith))
  ]

  same_bridge : {a b : N} {x : Node N L} → bridge_at a ≡ x → bridge_at b ≡ x → a ≡ b
  same_bridge d e = cc

  same_lan : {a b : L} {x : Node N L} → lan_at a ≡ x → lan_at b ≡ x → a ≡ b
  same_lan d e = cc

  apart : {a : N} {b : L} {x : Node N L} → bridge_at a ≡ x → lan_at b ≡ x → ⊥
  apart d e = cc

  -- the port that climbs from a node
  abbrev Up : Node N L → TreePort N L K P → Type 0
  Up x e = ((bridge_at e.bridge ≡ x) × Root e) ⊎ ((lan_at e.lan ≡ x) × Designated e)

  up_of : (x : Node N L) (e : TreePort N L K P) → Climbs port_ends Active (levels q) x e → Up x e
  up_of x e c = elim c.links [
    | inl h ↦ inl (
      h.0,
      climbs_root e c.is_active (ap q.part h.0 ∙ (sym c.same_part ∙ sym (ap q.part h.1)))
          (let a = ap (place_rank q) h.0 in let b = ap (place_rank q) h.1 in let l = c.higher in omega arith),
    )
    | inr h ↦ inr (
      h.0,
      climbs_designated e c.is_active (ap q.part h.1 ∙ (c.same_part ∙ sym (ap q.part h.0)))
          (let a = ap (place_rank q) h.0 in let b = ap (place_rank q) h.1 in let l = c.higher in omega arith),
    )
  ]

  one_up : (x : Node N L) (e f : TreePort N L K P) → Up x e → Up x f → e ≡ f
  one_up x e f u v = elim u [
    | inl a ↦ elim v [ inl b ↦ ok.one_root_port e f a.1 b.1 (same_bridge a.0 b.0) | inr b ↦ absurd (apart a.0 b.0) ]
    | inr a ↦ elim v [ inl b ↦ absurd (apart b.0 a.0) | inr b ↦ ok.one_designated e f a.1 b.1 (same_lan a.0 b.0) ]
  ]

  pub forest : HasTreesInParts port_ends Active (levels q)
  forest = record {
    one_up = λ x e f c d. one_up x e f (up_of x e c) (up_of x f d);
    uneven = λ e act i h. elim (ok.role e act i) [
      | inl d ↦ (let k = ok.designated_lead e d in omega arith)
      | inr r ↦ (let k = ok.root_lead e r in omega arith)
    ];
    one_exit = λ x e f c d. ok.one_exit e f c.is_active d.is_active (λ h. c.other (sym h ∙ c.own)) (λ h. d.other (sym h ∙ d.own)) (c.own ∙ sym d.own);
    falls = ok.falls;
    same_height = ok.same_height;
  }
