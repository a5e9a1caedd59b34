-- The active ports of a VID join what is enabled.
use Rattle.std.proofs.Common.{◌≡◌, ◌⊎◌, inl, inr, refl, sym, ◌∙◌, ap, subst, ℕ, zero, suc}
use Rattle.mst_vector.specs.declared.cist.CistVector.{CistVector}
use Rattle.mst_vector.specs.declared.cist.CistBridge.{CistBridge}
use Rattle.mst_vector.specs.declared.cist.CistPort.{CistPort}
use Rattle.mst_topology.specs.Topology.{TreePort, KeyTests}
use Rattle.mst_graph.specs.Walks.{bridge_at}
use Rattle.mst_nested.specs.Ports.{port_ends}
use Rattle.mst_nested.specs.Trees.{Trees, IsEnabled, IsSettled, IsFree}
use Rattle.mst_nested.proofs.Settled.{cist_tree}
use Rattle.mst_nested.proofs.Parts.{At, at_port, outer_not_internal, vector_at, part_region}
use Rattle.mst_nested.proofs.Roots.{Regional, regional, TookFar, far_outer, root_of, enabled_root}
use Rattle.mst_nested.proofs.Seats.{part_of, part_at, seat_at, same_regional, one_part, outer_part}
use Rattle.mst_graph.specs.Joined.{IsJoined}
use Rattle.mst_nested.specs.Roles.{IsCistRoot}
use Rattle.mst_nested.specs.Active.{IsTreeOfVid, IsActive}
use Rattle.mst_nested.proofs.Places.{HasRoleTops, WayOut}
use Rattle.mst_nested.proofs.RoleJoins.{roles_join}
use Rattle.mst_nested.proofs.OneTree.{took_root}
use Rattle.mst_nested.proofs.TreeRoles.{outer_forwards, IsTreeRoot, one_tree_root}
use Rattle.mst_nested.proofs.Vid.{places, RootHere, DesignatedHere, has_roles, has_tree, one_tree, lan_way, bridge_way}

-- the port by which a vector came from another region
module _ {N L K : Type 0} (f : Trees N L K) (tests : KeyTests N L) (ok : IsSettled f) where
  -- is the root port of the CIST
  pub far_forwards : (n : N) (a : At f tests ok n) (t : TookFar f tests ok n a) → IsCistRoot f t.0.port
  far_forwards n a t = took_root (cist_tree f tests ok) n a t.0

module _ {N L K : Type 0} (f : Trees N L K) (tests : KeyTests N L) (ok : IsSettled f) (free : IsFree f) (tree : N → ℕ) (of_vid : IsTreeOfVid f tree) where
  -- the bridge that is the root of its part in a tree has a vector in the CIST
  root_at : (i : ℕ) (n : N) → IsTreeRoot f tests ok i n → At f tests ok n
  root_at zero n r = r.0
  root_at (suc j) n r =
      let b = (ok.nested j).bridges n (r.0.bridge, r.0.has_bridge) in
      let x = ok.cist.settled.has_vector n b.0 b.1 in
      record { bridge = b.0; has_bridge = b.1; vector = x.0; is_vector = x.1 }

  one_root : (b c : N) → part_at f tests ok (bridge_at b) ≡ part_at f tests ok (bridge_at c) → IsTreeRoot f tests ok (tree b) b → IsTreeRoot f tests ok (tree c) c → b ≡ c
  one_root b c i r s =
      let a = root_at (tree b) b r in
      let d = root_at (tree c) c s in
      let roots = same_regional f tests ok (seat_at f tests ok a) (seat_at f tests ok d) i in
      let walk = (one_part f tests ok b c a d roots).walk in
      let there = part_region f tests ok a.bridge.region walk (a.bridge, a.has_bridge, refl) in
      let region : a.bridge.region ≡ d.bridge.region = sym there.2 ∙ ap (λ (x : CistBridge). x.region) (ok.cist.topology.one_bridge c there.0 d.bridge there.1 d.has_bridge) in
      let trees = one_tree f tests ok free tree of_vid a d region in
      one_tree_root f tests ok free (tree c) b c walk a d roots (subst (λ k. IsTreeRoot f tests ok k b) trees r) s

  -- a part has a port out of it, or holds the root
  way_out : (e : TreePort N L K CistPort) → IsEnabled f e → WayOut (places f tests ok free tree of_vid) (IsActive f tree) e ⊎ (part_at f tests ok (bridge_at e.bridge) ≡ root_of (vector_at f tests ok (bridge_at e.bridge)))
  way_out e on = go (at_port f tests ok e on)
    where
      go : At f tests ok e.bridge → WayOut (places f tests ok free tree of_vid) (IsActive f tree) e ⊎ (part_at f tests ok (bridge_at e.bridge) ≡ root_of (vector_at f tests ok (bridge_at e.bridge)))
      go a = by (regional f tests ok e.bridge a)
        where
          by : Regional f tests ok e.bridge a → WayOut (places f tests ok free tree of_vid) (IsActive f tree) e ⊎ (part_at f tests ok (bridge_at e.bridge) ≡ root_of (vector_at f tests ok (bridge_at e.bridge)))
          by r = elim r.began [
            | inl own ↦ (let own_root : r.at.vector.root ≡ r.at.bridge.id = ap (λ (x : CistVector). x.root) own in
                inr (ap part_of a.is_vector ∙ (ap suc (sym r.is_named ∙ (sym own_root ∙ r.same.root)) ∙ sym (ap root_of a.is_vector))))
            | inr t ↦ (let p : TreePort N L K CistPort = t.0.port in
                let o = far_outer f tests ok r.root r.at t in
                let own : part_at f tests ok (bridge_at p.bridge) ≡ part_at f tests ok (bridge_at e.bridge) = ap part_of o.at.is_vector ∙ (ap suc r.same.regional ∙ sym (ap part_of a.is_vector)) in
                inl (record {
                  port = p;
                  is_active = record { is_enabled = t.0.part; forwards = outer_forwards f tests ok (tree p.bridge) p (outer_not_internal f tests ok p o) (has_tree f tests ok free tree of_vid o.at) (far_forwards f tests ok r.root r.at t) };
                  own = own;
                  other = λ h. outer_part f tests ok p o (own ∙ sym h);
                }))
          ]

  pub has_role_tops : HasRoleTops (places f tests ok free tree of_vid) (IsEnabled f) (IsActive f tree) (RootHere f tests ok free tree of_vid) (DesignatedHere f tests ok free tree of_vid) (λ x. root_of (vector_at f tests ok x)) (λ n. IsTreeRoot f tests ok (tree n) n)
  has_role_tops = record {
    enabled = λ e act. act.is_enabled;
    lan_way = lan_way f tests ok free tree of_vid;
    bridge_way = bridge_way f tests ok free tree of_vid;
    one_root = one_root;
    way_out = way_out;
    one_group = enabled_root f tests ok free;
  }

  pub active_joins : IsJoined port_ends (IsEnabled f) (IsActive f tree)
  active_joins = roles_join (places f tests ok free tree of_vid) (IsEnabled f) (IsActive f tree) (RootHere f tests ok free tree of_vid) (DesignatedHere f tests ok free tree of_vid) (λ x. root_of (vector_at f tests ok x)) (λ n. IsTreeRoot f tests ok (tree n) n) (has_roles f tests ok free tree of_vid) has_role_tops
