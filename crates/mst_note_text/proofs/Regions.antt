-- Parents in the CIST and in an MSTI, and where their chains within a region end.
use Rattle.std.proofs.Common.{◌≡◌, ◌⊎◌, inl, inr, refl, sym, ◌∙◌, ap, ℕ, zero, suc, Bool, true, false, eqb-true, eq-eqb}
use Rattle.std.proofs.lemmas.Bool.{eqb-false}
use Rattle.mst_vector.specs.declared.cist.CistBridge.{CistBridge}
use Rattle.mst_roles.specs.forest.topology.Topology.{KeyTests}
use Rattle.mst_graph.specs.Walks.{bridge_at, lan_at, Walk, stay, along}
use Rattle.mst_roles.specs.forest.nested.Ports.{port_ends}
use Rattle.mst_roles.specs.forest.nested.Trees.{Trees, TakesPart, IsSettled, HasTree, SameRegion}
use Rattle.mst_roles.proofs.forest_lemmas.nested_lemmas.Settled.{cist_tree, msti_tree}
use Rattle.mst_roles.proofs.forest_lemmas.nested_lemmas.Origins.{Took}
use Rattle.mst_roles.proofs.forest_lemmas.nested_lemmas.Parts.{At}
use Rattle.mst_roles.proofs.forest_lemmas.nested_lemmas.Mstis.{same_part}
use Rattle.mst_roles.proofs.forest_lemmas.nested_lemmas.Facts.{one_region}
use Rattle.mst_note_text.specs.Depths.{ParentIn, ParentWithin, ParentBetween}
use Rattle.mst_note_text.proofs.Chains.{IsOne, AreSides}
use Rattle.mst_note_text.proofs.ParentLaws.{one_parent, took_parent, TookFrom, took_from, parent_vector}
use Rattle.mst_note_text.proofs.Ends.{IsNear, AreSteps, one_step}

module _ {N L K : Type 0} (f : Trees N L K) (tests : KeyTests N L) (ok : IsSettled f) where
  pub cist_at : (n : N) → HasTree f 0 n → At f tests ok n
  cist_at n has = let x = ok.cist.settled.has_vector n has.0 has.1 in record { bridge = has.0; has_bridge = has.1; vector = x.0; is_vector = x.1 }

  pub one_parent_in : (i : ℕ) (n k j : N) → ParentIn f i n k → ParentIn f i n j → k ≡ j
  one_parent_in zero n k j p q = one_parent (cist_tree f tests ok) n k j p q
  one_parent_in (suc i) n k j p q = one_parent (msti_tree f tests ok i) n k j p q

  -- whether a step of the CIST is one within a region
  near_region : (n : N) (a : At f tests ok n) (k : Took (cist_tree f tests ok) n a) → IsNear (cist_tree f tests ok) n a k ≡ true → SameRegion f n k.heard.port.bridge
  near_region n a k near = record {
    bridge = a.bridge;
    has_bridge = a.has_bridge;
    other = k.heard.designates.says.bridge;
    has_other = k.heard.designates.says.has_bridge;
    same = sym (eqb-true k.heard.designates.says.bridge.region a.bridge.region near);
  }

  regions_agree : (n : N) (a : At f tests ok n) (k : Took (cist_tree f tests ok) n a) → SameRegion f n k.heard.port.bridge → k.heard.designates.says.bridge.region ≡ a.bridge.region
  regions_agree n a k r =
      let s = k.heard.designates.says in
      let here = ok.cist.topology.one_bridge n r.bridge a.bridge r.has_bridge a.has_bridge in
      let there = ok.cist.topology.one_bridge k.heard.port.bridge s.bridge r.other s.has_bridge r.has_other in
      ap (λ (b : CistBridge). b.region) there ∙ (sym r.same ∙ ap (λ (b : CistBridge). b.region) here)

  pub cist_steps : AreSteps (cist_tree f tests ok) (ParentWithin f 0)
  cist_steps = record {
    is_parent = λ n k s. s.is_parent;
    step = λ n a k near. record { is_parent = took_parent (cist_tree f tests ok) n a k; same_region = near_region n a k near };
    near = λ n a k s. eq-eqb k.heard.designates.says.bridge.region a.bridge.region (regions_agree n a k s.same_region);
  }

  -- the parent that a bridge heard from another region
  pub far_parent : (n : N) (a : At f tests ok n) (k : Took (cist_tree f tests ok) n a) → IsNear (cist_tree f tests ok) n a k ≡ false → ParentBetween f n k.heard.port.bridge
  far_parent n a k far = record {
    is_parent = took_parent (cist_tree f tests ok) n a k;
    other_region = λ r. eqb-false k.heard.designates.says.bridge.region a.bridge.region far (regions_agree n a k r);
  }

  -- each parent in the CIST is within the region or of another
  pub parent_sides : (n k : N) → ParentIn f 0 n k → ParentWithin f 0 n k ⊎ ParentBetween f n k
  parent_sides n k p = go (took_from (cist_tree f tests ok) n k at p)
    where
      at : At f tests ok n
      at = let b = ok.cist.settled.is_bridge n p.is_root.vector (parent_vector p) in record { bridge = b.0; has_bridge = b.1; vector = p.is_root.vector; is_vector = parent_vector p }

      go : TookFrom (cist_tree f tests ok) n k at → ParentWithin f 0 n k ⊎ ParentBetween f n k
      go t = by (IsNear (cist_tree f tests ok) n at t.step) refl
        where
          by : (c : Bool) → IsNear (cist_tree f tests ok) n at t.step ≡ c → ParentWithin f 0 n k ⊎ ParentBetween f n k
          by true e = inl (rw t.is_from at (cist_steps.step n at t.step e))
          by false e = inr (rw t.is_from at (far_parent n at t.step e))

  pub cist_sides : AreSides (ParentWithin f 0) (ParentBetween f)
  cist_sides = record {
    one_within = one_step (cist_tree f tests ok) (ParentWithin f 0) cist_steps;
    one_between = λ n k j s u. one_parent_in 0 n k j s.is_parent u.is_parent;
    apart = λ n k j s u. u.other_region (rw (one_parent_in 0 n k j s.is_parent u.is_parent) at s.same_region);
  }

  -- a parent in an MSTI is of the bridge's region
  pub msti_region : (i : ℕ) (n k : N) → ParentIn f (suc i) n k → SameRegion f n k
  msti_region i n k p =
      let b = (ok.msti i).settled.is_bridge n p.is_root.vector (parent_vector p) in
      let c = (ok.nested i).bridges n (b.0, b.1) in
      let s = p.designates.says in
      let down : Walk port_ends (TakesPart (f.msti (suc i))) (lan_at p.port.lan) (bridge_at k) = along p.from (s.has_port, s.is_part) (inr (ap lan_at p.designates.on_lan, ap bridge_at p.is_bridge)) stay in
      let walk : Walk port_ends (TakesPart (f.msti (suc i))) (bridge_at n) (bridge_at k) = along p.port p.is_root.part (inl (ap bridge_at p.on_bridge, refl)) down in
      one_region f tests ok n k c.0 c.1 (same_part f tests ok i walk)

  pub msti_steps : (i : ℕ) → AreSteps (msti_tree f tests ok i) (ParentWithin f (suc i))
  msti_steps i = record {
    is_parent = λ n k s. s.is_parent;
    step = λ n a k near. (let p = took_parent (msti_tree f tests ok i) n a k in record { is_parent = p; same_region = msti_region i n k.heard.port.bridge p });
    near = λ n a k s. refl;
  }

  pub one_within : (i : ℕ) → IsOne (ParentWithin f i)
  one_within i n k j s u = one_parent_in i n k j s.is_parent u.is_parent
