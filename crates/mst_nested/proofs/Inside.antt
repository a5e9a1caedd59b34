-- In each tree the ports that forward inside a part join it without a loop.
use Rattle.std.proofs.Common.{◌≡◌, ◌⊎◌, inl, inr, refl, sym, ◌∙◌, subst, ℕ, zero, suc, Option, Some, None}
use Rattle.mst_vector.specs.declared.cist.CistBridge.{CistBridge}
use Rattle.mst_vector.specs.declared.cist.CistPort.{CistPort}
use Rattle.mst_vector.specs.declared.msti.MstiBridge.{MstiBridge}
use Rattle.mst_topology.specs.Topology.{TreePort, HasBridge, KeyTests}
use Rattle.mst_topology.proofs.Offers.{bridge_among, found, lost}
use Rattle.mst_graph.specs.Walks.{Walk, Node, bridge_at, lan_at}
use Rattle.mst_nested.specs.Ports.{port_ends}
use Rattle.mst_nested.specs.Trees.{Trees, IsEnabled, IsInternal, IsSettled, IsFree, HasTree, SameRegion, SamePart}
use Rattle.mst_graph.proofs.Walks.{weaker, replaced, stays_in}
use Rattle.mst_nested.proofs.Parts.{at_port, IsOf, keeps_region, vector_at}
use Rattle.mst_nested.proofs.Seats.{part_at, internal_part, seat_at, same_regional, one_part}
use Rattle.mst_nested.proofs.Facts.{one_region}
use Rattle.mst_nested.proofs.Roots.{root_of}
use Rattle.mst_graph.specs.Joined.{HasNoLoop}
use Rattle.mst_nested.specs.Roles.{Forwards, ForwardsInRegion, ForwardsInside}
use Rattle.mst_nested.specs.Active.{IsTreeOfVid, IsActive}
use Rattle.mst_graph.specs.TreesInParts.{Inside}
use Rattle.mst_nested.proofs.Places.{levels}
use Rattle.mst_nested.proofs.RoleJoins.{roles_join_part}
use Rattle.mst_nested.proofs.TreeRoles.{IsTreeRoot}
use Rattle.mst_nested.proofs.Vid.{places, RootHere, DesignatedHere, has_roles, inside_internal, active_has_no_loop}
use Rattle.mst_nested.proofs.Joins.{has_role_tops}

module _ {N L K : Type 0} (f : Trees N L K) (tests : KeyTests N L) (ok : IsSettled f) where
  abbrev some_tree : ℕ → Option MstiBridge → ℕ
  some_tree j None = 0
  some_tree j (Some b) = suc j

  -- tree i on each bridge that has it, else the CIST
  abbrev tree_or_cist : ℕ → N → ℕ
  tree_or_cist zero n = 0
  tree_or_cist (suc j) n = some_tree j (bridge_among tests.same_bridge (f.msti (suc j)).bridges n)

  -- where the bridge has the tree it is that
  chosen_tree : (i : ℕ) (n : N) → HasTree f i n → tree_or_cist i n ≡ i
  chosen_tree zero n has = refl
  chosen_tree (suc j) n has = go (bridge_among tests.same_bridge (f.msti (suc j)).bridges n) refl
    where
      go : (o : Option MstiBridge) → bridge_among tests.same_bridge (f.msti (suc j)).bridges n ≡ o → some_tree j o ≡ suc j
      go None e = absurd (lost tests (f.msti (suc j)) n has.0 has.1 e)
      go (Some b) e = refl

  -- the bridge has the tree, or the CIST is taken
  has_or_not : (j : ℕ) (n : N) → HasTree f (suc j) n ⊎ (tree_or_cist (suc j) n ≡ 0)
  has_or_not j n = go (bridge_among tests.same_bridge (f.msti (suc j)).bridges n) refl
    where
      go : (o : Option MstiBridge) → bridge_among tests.same_bridge (f.msti (suc j)).bridges n ≡ o → HasTree f (suc j) n ⊎ (some_tree j o ≡ 0)
      go None e = inr refl
      go (Some b) e = inl (b, found tests (f.msti (suc j)) n b e)

  turned_region : (n k : N) → SameRegion f n k → SameRegion f k n
  turned_region n k r = record { bridge = r.other; has_bridge = r.has_other; other = r.bridge; has_other = r.has_bridge; same = sym r.same }

  chosen_of_vid : (i : ℕ) → IsTreeOfVid f (tree_or_cist i)
  chosen_of_vid zero = record { has_tree = λ n b has. (b, has); one_tree = λ n k r. refl }
  chosen_of_vid (suc j) = record {
    has_tree = λ n b has. elim (has_or_not j n) [
      | inl h ↦ subst (λ i. HasTree f i n) (sym (chosen_tree (suc j) n h)) h
      | inr e ↦ subst (λ i. HasTree f i n) (sym e) (b, has)
    ];
    one_tree = λ n k r. elim (has_or_not j n) [
      | inl h ↦ chosen_tree (suc j) n h ∙ sym (chosen_tree (suc j) k ((ok.nested j).regions n k r h))
      | inr e ↦ elim (has_or_not j k) [
        | inl h ↦ chosen_tree (suc j) n ((ok.nested j).regions k n (turned_region n k r) h) ∙ sym (chosen_tree (suc j) k h)
        | inr g ↦ e ∙ sym g
      ]
    ];
  }

  -- a bridge of a region has the tree if another has
  region_tree : (i : ℕ) (n k : N) → SameRegion f n k → HasTree f i n → HasTree f i k
  region_tree zero n k r has = (r.other, r.has_other)
  region_tree (suc j) n k r has = (ok.nested j).regions n k r has

  -- a bridge of a tree, in the CIST
  tree_bridge : (i : ℕ) (n : N) → HasTree f i n → (b : CistBridge) × HasBridge f.cist n b
  tree_bridge zero n has = has
  tree_bridge (suc j) n has = (ok.nested j).bridges n has

  -- the bridge of an internal port that forwards in a tree has it
  forwards_tree : (i : ℕ) (p : TreePort N L K CistPort) → ForwardsInside f i p → HasTree f i p.bridge
  forwards_tree zero p h = (h.0.bridge, h.0.has_bridge)
  forwards_tree (suc j) p (i, inl r) = in_tree r
    where
      in_tree : ForwardsInRegion f (suc j) p → HasTree f (suc j) p.bridge
      in_tree r = elim r.role [
        | inl h ↦ (let b = (ok.msti j).topology.has_bridge r.port h.part.0 h.part.1 in (b.0, subst (λ n. HasBridge (f.msti (suc j)) n b.0) r.same.bridge b.1))
        | inr h ↦ (let s = h.designates.says in (s.bridge, subst (λ n. HasBridge (f.msti (suc j)) n s.bridge) r.same.bridge s.has_bridge))
      ]
  forwards_tree (suc j) p (i, inr m) = m.has_tree

  module _ (free : IsFree f) where
    inside_active : (i : ℕ) (p : TreePort N L K CistPort) → ForwardsInside f i p → IsActive f (tree_or_cist i) p
    inside_active i p h = record { is_enabled = h.0.is_enabled; forwards = subst (λ k. Forwards f k p) (sym (chosen_tree i p.bridge (forwards_tree i p h))) h.1 }

    pub inside_no_loop : (i : ℕ) → HasNoLoop port_ends (ForwardsInside f i)
    inside_no_loop i e h walk = active_has_no_loop f tests ok free (tree_or_cist i) (chosen_of_vid i) e (inside_active i e h) (weaker port_ends (λ p o. (inside_active i p o.0, o.1)) walk)

    -- the ends of an internal port are joined
    internal_joined : (i : ℕ) (e : TreePort N L K CistPort) → IsInternal f e → HasTree f i e.bridge → Walk port_ends (ForwardsInside f i) (bridge_at e.bridge) (lan_at e.lan)
    internal_joined i e internal has = weaker port_ends inside (roles_join_part (places f tests ok free tree vid) (IsEnabled f) (IsActive f tree) (RootHere f tests ok free tree vid) (DesignatedHere f tests ok free tree vid) (λ x. root_of (vector_at f tests ok x)) (λ n. IsTreeRoot f tests ok (tree n) n) (has_roles f tests ok free tree vid) (has_role_tops f tests ok free tree vid) (bridge_at e.bridge) (lan_at e.lan) (record { edge = e; is_enabled = internal.is_enabled; is_end = inl refl }) (record { edge = e; is_enabled = internal.is_enabled; is_end = inr refl }) (internal_part f tests ok free e internal))
      where
        tree : N → ℕ
        tree = tree_or_cist i

        vid : IsTreeOfVid f tree
        vid = chosen_of_vid i

        inside : (p : TreePort N L K CistPort) → Inside port_ends (IsActive f tree) (levels (places f tests ok free tree vid)) (part_at f tests ok (bridge_at e.bridge)) p → ForwardsInside f i p
        inside p h =
            let internal_port = inside_internal f tests ok free tree vid p h.0.is_enabled (h.1 ∙ sym h.2) in
            let a = at_port f tests ok e internal.is_enabled in
            let c = at_port f tests ok p h.0.is_enabled in
            let walk = (one_part f tests ok e.bridge p.bridge a c (same_regional f tests ok (seat_at f tests ok a) (seat_at f tests ok c) (sym h.1))).walk in
            let there = region_tree i e.bridge p.bridge (one_region f tests ok e.bridge p.bridge a.bridge a.has_bridge walk) has in
            (internal_port, subst (λ k. Forwards f k p) (chosen_tree i p.bridge there) h.0.forwards)

    -- so a part is
    pub inside_joined : (i : ℕ) (n : N) (y : Node N L) → HasTree f i n → SamePart f (bridge_at n) y → Walk port_ends (ForwardsInside f i) (bridge_at n) y
    inside_joined i n y has walk =
        let b = tree_bridge i n has in
        replaced port_ends (λ p h. internal_joined i p h.0 (region_tree i n p.bridge (record { bridge = b.0; has_bridge = b.1; other = h.1.0; has_other = h.1.1; same = sym h.1.2 }) has))
        (stays_in port_ends (IsOf f tests ok b.0.region) (keeps_region f tests ok b.0.region) (b.0, b.1, refl) walk)
