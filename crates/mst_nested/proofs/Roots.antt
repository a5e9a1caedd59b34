-- The regional root of a part in the CIST, and the ports that lead out of the part.
use Rattle.std.proofs.Common.{◌≡◌, ◌≢◌, ◌⊎◌, inl, inr, refl, sym, ◌∙◌, ap, subst, ℕ, suc, ◌+◌, ◌<◌, ◌≤◌, [], ◌∷◌, Option, Some, None, false, ◌==◌, arith}
use Rattle.std.specs.Ordering.{is_gt}
use Rattle.std.proofs.lemmas.Bool.{eqb-false}
use Rattle.mst_vector.specs.Cist.{cist_rules, cist_bridge_vector, cist_root_path_vector}
use Rattle.mst_vector.specs.CistLaws.{cist_lawful}
use Rattle.mst_vector.specs.declared.cist.CistVector.{CistVector}
use Rattle.mst_vector.specs.declared.cist.CistBridge.{CistBridge}
use Rattle.mst_vector.specs.declared.cist.CistPort.{CistPort}
use Rattle.mst_topology.specs.Topology.{TreePort, HasBridge, KeyTests}
use Rattle.mst_topology.proofs.Below.{one_designated}
use Rattle.mst_graph.specs.Walks.{bridge_at, lan_at}
use Rattle.mst_nested.specs.Ports.{port_ends}
use Rattle.mst_nested.specs.Trees.{Trees, IsEnabled, IsInternal, IsSettled, IsFree, SamePart}
use Rattle.mst_nested.specs.Costs.{CostWalk}
use Rattle.mst_nested.specs.Parts.{SameRoots}
use Rattle.mst_nested.proofs.Settled.{cist_tree}
use Rattle.mst_nested.proofs.Orders.{first_upto}
use Rattle.mst_nested.proofs.Within.{cist_within, cist_far_regional, cist_far_external, cist_external, cist_root}
use Rattle.mst_nested.proofs.Ports.{Meets, sender, meets}
use Rattle.mst_nested.proofs.Origins.{Took, origin, took_along, on_same_lan, same_placed}
use Rattle.mst_graph.proofs.Walks.{back}
use Rattle.mst_nested.proofs.CostWalks.{walk_of}
use Rattle.mst_nested.proofs.Parts.{At, HeardOn, at_port, heard_at, internal_near, IsOuter, part_region, vector_at, vector_on}

pub same_roots : (x y : CistVector) → cist_within.shared x ≡ cist_within.shared y → SameRoots x y
same_roots x y e = record { root = cc; external = cc; regional = cc }

-- a number for each connected set: that of its root
abbrev pub root_of : Option CistVector → ℕ
root_of None = 0
root_of (Some x) = suc x.root

module _ {N L K : Type 0} (f : Trees N L K) (tests : KeyTests N L) (ok : IsSettled f) where
  -- the bridge's vector is a step from another region
  abbrev pub TookFar : (n : N) → At f tests ok n → Type 0
  TookFar n a = (k : Took (cist_tree f tests ok) n a) × ((k.heard.designates.says.bridge.region == a.bridge.region) ≡ false)

  -- the regional root that a bridge's vector names: a bridge of its part
  pub record Regional (n : N) (a : At f tests ok n) : Type 0 where
    pub root : N
    pub at : At f tests ok root
    pub is_named : at.bridge.id ≡ a.vector.regional
    pub same : SameRoots at.vector a.vector
    pub no_cost : at.vector.internal ≡ 0
    pub began : (at.vector ≡ cist_bridge_vector at.bridge) ⊎ TookFar root at
    pub in_part : SamePart f (bridge_at n) (bridge_at root)
    pub same_region : at.bridge.region ≡ a.bridge.region
    pub walk : CostWalk (IsInternal f) (λ p. p.internal) root n a.vector.internal

  pub regional : (n : N) (a : At f tests ok n) → Regional n a
  regional n a =
      let o = origin (cist_tree f tests ok) (IsInternal f) (internal_near f tests ok) n a in
      let same = same_roots o.at.vector a.vector o.same in
      let to : SamePart f (bridge_at n) (bridge_at o.root) = back port_ends (walk_of o.walk) in
      let there = part_region f tests ok a.bridge.region to (a.bridge, a.has_bridge, refl) in
      let bridges : o.at.bridge ≡ there.0 = ok.cist.topology.one_bridge o.root o.at.bridge there.0 o.at.has_bridge there.1 in
      record {
        root = o.root;
        at = o.at;
        is_named = named o.at o.began ∙ same.regional;
        same = same;
        no_cost = o.no_cost;
        began = o.began;
        in_part = to;
        same_region = ap (λ (b : CistBridge). b.region) bridges ∙ there.2;
        walk = o.walk;
      }
    where
      named : {k : N} → (c : At f tests ok k) → (c.vector ≡ cist_bridge_vector c.bridge) ⊎ TookFar k c → c.bridge.id ≡ c.vector.regional
      named c (inl e) = sym (ap (λ (x : CistVector). x.regional) e)
      named c (inr t) = sym (ap (λ (x : CistVector). x.regional) t.0.is_made ∙ cist_far_regional t.0.heard.message t.0.heard.designates.says.bridge c.bridge t.0.port.settings t.1)

  -- bridges of one identifier are one
  pub one_id : {n k : N} → (a : At f tests ok n) (c : At f tests ok k) → a.bridge.id ≡ c.bridge.id → n ≡ k
  one_id {n} {k} a c e = ok.cist.topology.bridge_ids n k a.bridge c.bridge a.has_bridge c.has_bridge e

  pub same_vector : {n k : N} → n ≡ k → (a : At f tests ok n) (c : At f tests ok k) → a.vector ≡ c.vector
  same_vector e a c = some_is (sym a.is_vector ∙ (ap f.cist_vector e ∙ c.is_vector))
    where
      some_is : {x y : CistVector} → Some x ≡ Some y → x ≡ y
      some_is h = cc

  pub same_bridge : {n k : N} → n ≡ k → (a : At f tests ok n) (c : At f tests ok k) → a.bridge ≡ c.bridge
  same_bridge {n} {k} e a c = ok.cist.topology.one_bridge k a.bridge c.bridge (subst (λ i. HasBridge f.cist i a.bridge) e a.has_bridge) c.has_bridge

  -- a LAN's designated bridge with its vector
  abbrev pub sends : {lan : L} → (d : HeardOn f tests ok lan) → At f tests ok d.port.bridge
  sends d = sender (cist_tree f tests ok) d

  -- a LAN has one designated bridge
  one_sender : {lan : L} → (d e : HeardOn f tests ok lan) → d.port.bridge ≡ e.port.bridge
  one_sender {lan} d e = ap (λ (q : TreePort N L K CistPort). q.bridge) (one_designated cist_rules cist_lawful f.cist ok.cist.topology f.cist_vector lan d.port e.port d.message e.message d.designates e.designates)

  pub one_root : {lan : L} → (d e : HeardOn f tests ok lan) → d.designates.says.root ≡ e.designates.says.root
  one_root d e = same_vector (one_sender d e) (sends d) (sends e)

  pub one_sending_bridge : {lan : L} → (d e : HeardOn f tests ok lan) → d.designates.says.bridge ≡ e.designates.says.bridge
  one_sending_bridge d e = same_bridge (one_sender d e) (sends d) (sends e)

  -- vectors with one regional root are of bridges in one part
  pub part_by_root : {n k : N} → (a : At f tests ok n) (c : At f tests ok k) → a.vector.regional ≡ c.vector.regional → (r : Regional n a) (s : Regional k c) → r.root ≡ s.root
  part_by_root a c e r s = one_id r.at s.at (r.is_named ∙ (e ∙ sym s.is_named))

  -- an outer port's bridge and LAN have different regional roots
  pub outer_roots : (p : TreePort N L K CistPort) → (o : IsOuter f tests ok p) → o.at.vector.regional ≢ o.heard.designates.says.root.regional
  outer_roots p o e =
      let from : At f tests ok o.heard.port.bridge = sends o.heard in
      let r = regional p.bridge o.at in
      let s = regional o.heard.port.bridge from in
      let one = part_by_root o.at from e r s in
      let bridges = same_bridge one r.at s.at in
      eqb-false o.heard.designates.says.bridge.region o.at.bridge.region o.is_far (sym s.same_region ∙ (sym (ap (λ (b : CistBridge). b.region) bridges) ∙ r.same_region))

  -- the port by which a vector came from another region is an outer one
  abbrev pub far_outer : (n : N) (a : At f tests ok n) (t : TookFar n a) → IsOuter f tests ok t.0.port
  far_outer n a t = record { at = same_placed (sym t.0.on_bridge) a; heard = t.0.heard; is_far = t.1 }

  -- an outer port by which its bridge's vector came
  pub record LeadsOut (p : TreePort N L K CistPort) (o : IsOuter f tests ok p) : Type 0 where
    pub is_root : o.at.vector.regional ≡ o.at.bridge.id
    pub falls : o.heard.designates.says.root.external < o.at.vector.external

  -- it is that of a regional root, and the external root path cost falls along it
  pub leads_out : (p : TreePort N L K CistPort) (o : IsOuter f tests ok p) → IsEnabled f p → o.at.vector.receiver ≡ p.settings.id → LeadsOut p o
  leads_out p o on by = go (took_along (cist_tree f tests ok) p on o.at by)
    where
      go : (k : Took (cist_tree f tests ok) p.bridge o.at) × (k.port ≡ p) → LeadsOut p o
      go k =
          let t = k.0 in
          let d : HeardOn f tests ok p.lan = on_same_lan (ap (λ (q : TreePort N L K CistPort). q.lan) k.1) t.heard in
          let s = t.heard.designates.says in
          let far : (s.bridge.region == o.at.bridge.region) ≡ false = ap (λ (b : CistBridge). b.region == o.at.bridge.region) (one_sending_bridge d o.heard) ∙ o.is_far in
          let message : t.heard.message.external ≡ s.root.external = ap (λ (x : CistVector). x.external) (sym s.is_designated) in
          let root : s.root.external ≡ o.heard.designates.says.root.external = ap (λ (x : CistVector). x.external) (one_root d o.heard) in
          let rise : o.at.vector.external ≡ t.heard.message.external + t.port.settings.external = ap (λ (x : CistVector). x.external) t.is_made ∙ cist_far_external t.heard.message s.bridge o.at.bridge t.port.settings far in
          let positive = cist_external t.port.settings (ok.cist.topology.in_range t.port t.part.0) in
          record {
            is_root = ap (λ (x : CistVector). x.regional) t.is_made ∙ cist_far_regional t.heard.message s.bridge o.at.bridge t.port.settings far;
            falls = omega arith;
          }

  module _ (free : IsFree f) where
    -- a port's bridge has the root of its LAN's designated bridge
    pub port_root : (p : TreePort N L K CistPort) → IsEnabled f p → (a : At f tests ok p.bridge) (d : HeardOn f tests ok p.lan) → a.vector.root ≡ d.designates.says.root.root
    port_root p on a d = go (meets (cist_tree f tests ok) p on (free.cist p on.0) a d)
      where
        upto : (x y : CistVector) → is_gt (cist_rules.order x y) ≡ false → x.root ≤ y.root
        upto x y h = first_upto x.root y.root (x.external ∷ x.regional ∷ x.internal ∷ x.designated ∷ x.port ∷ x.receiver ∷ []) (y.external ∷ y.regional ∷ y.internal ∷ y.designated ∷ y.port ∷ y.receiver ∷ []) h

        go : (a.vector ≡ d.designates.says.root) ⊎ Meets (cist_tree f tests ok) p a d → a.vector.root ≡ d.designates.says.root.root
        go (inl e) = ap (λ (x : CistVector). x.root) e
        go (inr h) =
            let s = d.designates.says in
            let message : d.message.root ≡ s.root.root = ap (λ (x : CistVector). x.root) (sym s.is_designated) in
            let step = cist_root d.message s.bridge a.bridge p.settings in
            let low = upto a.vector (cist_root_path_vector d.message s.bridge a.bridge p.settings) h.hears in
            let high = upto d.message (cist_rules.designated_vector a.vector a.bridge p.settings) h.says_worse in
            omega arith

    pub enabled_root : (p : TreePort N L K CistPort) → IsEnabled f p → root_of (vector_at f tests ok (bridge_at p.bridge)) ≡ root_of (vector_at f tests ok (lan_at p.lan))
    enabled_root p on =
        let a = at_port f tests ok p on in
        let d = heard_at f tests ok p on in
        ap root_of a.is_vector ∙ (ap suc (port_root p on a d) ∙ sym (ap root_of (vector_on f tests ok d)))
