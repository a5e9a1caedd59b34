-- Ports with roles join what is enabled.
use Rattle.std.proofs.Common.{◌≡◌, ◌⊎◌, inl, inr, refl, sym, ◌∙◌, ap, subst, ℕ, arith}
use Rattle.mst_topology.specs.Topology.{TreePort}
use Rattle.mst_graph.specs.Walks.{Node, Walk, bridge_at, lan_at}
use Rattle.mst_nested.specs.Ports.{port_ends}
use Rattle.mst_graph.specs.Joined.{IsJoined}
use Rattle.mst_graph.specs.TreesInParts.{Climbs, Leaves, Inside, Touches, HasTops}
use Rattle.mst_nested.proofs.Places.{Places, levels, HasRoles, HasRoleTops}
use Rattle.mst_graph.proofs.Climb.{joined, part_joined, one_top_by}
use Rattle.mst_nested.proofs.RoleForest.{forest}

-- the bridge is the root of its part's tree
abbrev pub IsRootNode : {N L : Type 0} → (N → Type 0) → Node N L → Type 0
IsRootNode IsRoot (bridge_at b) = IsRoot b
IsRootNode IsRoot (lan_at l) = ⊥

module _ {N L K P : Type 0} (q : Places N L) (Enabled Active Root Designated : TreePort N L K P → Type 0) (group : Node N L → ℕ) (IsRoot : N → Type 0) (ok : HasRoles q Active Root Designated) (tops : HasRoleTops q Enabled Active Root Designated group IsRoot) where
  bridge_up : (e : TreePort N L K P) → Enabled e → ((d : TreePort N L K P) × Climbs port_ends Active (levels q) (bridge_at e.bridge) d) ⊎ IsRoot e.bridge
  bridge_up e on = elim (tops.bridge_way e on) [
    | inl w ↦ inl (
      w.port,
      record {
        is_active = w.is_active;
        above = lan_at w.port.lan;
        links = inl (ap bridge_at w.on_bridge, refl);
        same_part = w.same_part;
        higher = (let a = ok.root_lead w.port w.is_root in let b = ap (λ n. q.lead (bridge_at n)) w.on_bridge in omega arith);
      },
    )
    | inr r ↦ inr r
  ]

  lan_up : (e : TreePort N L K P) → Enabled e → (d : TreePort N L K P) × Climbs port_ends Active (levels q) (lan_at e.lan) d
  lan_up e on =
      let w = tops.lan_way e on in (
        w.port,
        record {
          is_active = w.is_active;
          above = bridge_at w.port.bridge;
          links = inr (ap lan_at w.on_lan, refl);
          same_part = w.same_part;
          higher = (let a = ok.designated_lead w.port w.is_designated in let b = ap (λ l. q.lead (lan_at l)) w.on_lan in omega arith);
        },
      )

  -- a node has the way out of its part that a bridge of the part has
  abbrev Out : Node N L → Type 0
  Out x = ((d : TreePort N L K P) × Leaves port_ends Active (levels q) x d) ⊎ (q.part x ≡ group x)

  bridge_out : (e : TreePort N L K P) → Enabled e → Out (bridge_at e.bridge)
  bridge_out e on = elim (tops.way_out e on) [
    | inl w ↦ inl (w.port, record { is_active = w.is_active; own = w.own; other = w.other })
    | inr t ↦ inr t
  ]

  lan_out : (e : TreePort N L K P) → Enabled e → Out (lan_at e.lan)
  lan_out e on =
      let w = tops.lan_way e on in
      elim (tops.way_out w.port (tops.enabled w.port w.is_active)) [
        | inl o ↦ inl (o.port, record { is_active = o.is_active; own = o.own ∙ w.same_part; other = λ h. o.other (h ∙ sym w.same_part) })
        | inr t ↦ inr (sym w.same_part ∙ (t ∙ (tops.one_group w.port (tops.enabled w.port w.is_active) ∙ ap (λ l. group (lan_at l)) w.on_lan)))
      ]

  way_up : (x : Node N L) → Touches port_ends Enabled x → ((d : TreePort N L K P) × Climbs port_ends Active (levels q) x d) ⊎ IsRootNode IsRoot x
  way_up x t = elim t.is_end [
    | inl h ↦ subst (λ (y : Node N L). ((d : TreePort N L K P) × Climbs port_ends Active (levels q) y d) ⊎ IsRootNode IsRoot y) h (bridge_up t.edge t.is_enabled)
    | inr h ↦ subst (λ (y : Node N L). ((d : TreePort N L K P) × Climbs port_ends Active (levels q) y d) ⊎ IsRootNode IsRoot y) h (inl (lan_up t.edge t.is_enabled))
  ]

  way_out : (x : Node N L) → Touches port_ends Enabled x → Out x
  way_out x t = elim t.is_end [
    | inl h ↦ subst Out h (bridge_out t.edge t.is_enabled)
    | inr h ↦ subst Out h (lan_out t.edge t.is_enabled)
  ]

  one_root : (x y : Node N L) → q.part x ≡ q.part y → IsRootNode IsRoot x → IsRootNode IsRoot y → x ≡ y
  one_root (bridge_at b) (bridge_at c) i r s = ap bridge_at (tops.one_root b c i r s)
  one_root (bridge_at b) (lan_at l) i r s = absurd s
  one_root (lan_at l) y i r s = absurd r

  has_tops : HasTops port_ends Enabled Active (levels q) (IsRootNode IsRoot) (λ x. q.part x ≡ group x)
  has_tops = record {
    enabled = tops.enabled;
    way_up = way_up;
    one_root = one_root;
    way_out = way_out;
    one_top = one_top_by port_ends Enabled (levels q) (λ x. q.part x ≡ group x) group tops.one_group (λ x t. t);
  }

  pub roles_join : IsJoined port_ends Enabled Active
  roles_join = joined port_ends Enabled Active (levels q) (IsRootNode IsRoot) (λ x. q.part x ≡ group x) (forest q Active Root Designated ok) has_tops

  -- inside each part too
  pub roles_join_part : (x y : Node N L) → Touches port_ends Enabled x → Touches port_ends Enabled y → q.part x ≡ q.part y → Walk port_ends (Inside port_ends Active (levels q) (q.part x)) x y
  roles_join_part = part_joined port_ends Enabled Active (levels q) (IsRootNode IsRoot) (λ x. q.part x ≡ group x) (forest q Active Root Designated ok) has_tops
