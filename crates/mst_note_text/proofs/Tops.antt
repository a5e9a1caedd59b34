-- The depths of bridges in settled trees, and the roots where their chains end.
use Rattle.std.proofs.Common.{◌≡◌, inl, inr, sym, ◌∙◌, ap, subst, ℕ, zero, suc, ◌+◌, ◌<◌, Some, arith}
use Rattle.mst_vector.specs.Cist.{cist_bridge_vector}
use Rattle.mst_vector.specs.declared.cist.CistVector.{CistVector}
use Rattle.mst_vector.specs.declared.cist.CistBridge.{CistBridge}
use Rattle.mst_vector.specs.declared.msti.MstiVector.{MstiVector}
use Rattle.mst_vector.specs.declared.msti.MstiBridge.{MstiBridge}
use Rattle.mst_roles.specs.forest.topology.Topology.{HasBridge, KeyTests}
use Rattle.mst_roles.specs.forest.nested.Trees.{Trees, IsSettled, HasTree}
use Rattle.mst_roles.proofs.forest_lemmas.nested_lemmas.Settled.{cist_tree, msti_tree}
use Rattle.mst_roles.proofs.forest_lemmas.nested_lemmas.Within.{cist_root, cist_far_regional, cist_far_external, cist_external, msti_within}
use Rattle.mst_roles.proofs.forest_lemmas.nested_lemmas.Parts.{At}
use Rattle.mst_roles.proofs.forest_lemmas.nested_lemmas.Roots.{same_roots, TookFar, sends}
use Rattle.mst_roles.proofs.forest_lemmas.nested_lemmas.Mstis.{InTree, in_tree}
use Rattle.mst_note_text.specs.Chains.{ExternalChain, last, across}
use Rattle.mst_note_text.specs.Depths.{ParentWithin, ParentBetween, InternalDepth, ExternalDepth}
use Rattle.mst_note_text.proofs.Chains.{one_internal, one_external, above}
use Rattle.mst_note_text.proofs.ParentLaws.{own_alone}
use Rattle.mst_note_text.proofs.Ends.{Begins, ChainEnd, chain_end}
use Rattle.mst_note_text.proofs.Regions.{cist_at, cist_steps, cist_sides, far_parent, msti_steps, one_within}

module _ {N L K : Type 0} (f : Trees N L K) (tests : KeyTests N L) (ok : IsSettled f) where
  abbrev pub CistEnd : (n : N) → At f tests ok n → Type 0
  CistEnd n a = ChainEnd (cist_tree f tests ok) (ParentWithin f 0) (cist_steps f tests ok) n a

  abbrev pub cist_end : (n : N) (a : At f tests ok n) → CistEnd n a
  cist_end n a = chain_end (cist_tree f tests ok) (ParentWithin f 0) (cist_steps f tests ok) n a

  abbrev pub MstiEnd : (i : ℕ) (n : N) → InTree f tests ok i n → Type 0
  MstiEnd i n a = ChainEnd (msti_tree f tests ok i) (ParentWithin f (suc i)) (msti_steps f tests ok i) n a

  abbrev pub msti_end : (i : ℕ) (n : N) (a : InTree f tests ok i n) → MstiEnd i n a
  msti_end i n a = chain_end (msti_tree f tests ok i) (ParentWithin f (suc i)) (msti_steps f tests ok i) n a

  pub internal_depth : (i : ℕ) (n : N) → HasTree f i n → (d : ℕ) × InternalDepth f i n d
  internal_depth zero n has = let e = cist_end n (cist_at f tests ok n has) in (e.depth, record { has_tree = has; root = e.root; chain = e.chain })
  internal_depth (suc i) n has = let e = msti_end i n (in_tree f tests ok i n has) in (e.depth, record { has_tree = has; root = e.root; chain = e.chain })

  pub one_internal_depth : (i : ℕ) (n : N) (d e : ℕ) → InternalDepth f i n d → InternalDepth f i n e → d ≡ e
  one_internal_depth i n d e x y = (one_internal (one_within f tests ok i) x.chain y.chain).steps

  -- what a step from another region keeps and adds to
  record Crosses (n : N) (a : At f tests ok n) (k : TookFar f tests ok n a) : Type 0 where
    root : a.vector.root ≡ k.0.heard.designates.says.root.root
    falls : k.0.heard.designates.says.root.external < a.vector.external

  crosses : (n : N) (a : At f tests ok n) (k : TookFar f tests ok n a) → Crosses n a k
  crosses n a k =
      let s = k.0.heard.designates.says in
      let message_root : k.0.heard.message.root ≡ s.root.root = ap (λ (x : CistVector). x.root) (sym s.is_designated) in
      let message_external : k.0.heard.message.external ≡ s.root.external = ap (λ (x : CistVector). x.external) (sym s.is_designated) in
      let rise : a.vector.external ≡ k.0.heard.message.external + k.0.port.settings.external = ap (λ (x : CistVector). x.external) k.0.is_made ∙ cist_far_external k.0.heard.message s.bridge a.bridge k.0.port.settings k.1 in
      let positive = cist_external k.0.port.settings (ok.cist.topology.in_range k.0.port k.0.part.0) in
      record {
        root = ap (λ (x : CistVector). x.root) k.0.is_made ∙ (cist_root k.0.heard.message s.bridge a.bridge k.0.port.settings ∙ message_root);
        falls = omega arith;
      }

  -- the end of the chain in the CIST
  pub record Top (n : N) (a : At f tests ok n) : Type 0 where
    pub root : N
    at : At f tests ok root
    is_own : at.vector ≡ cist_bridge_vector at.bridge
    same : at.vector.root ≡ a.vector.root
    pub depth : ℕ
    pub chain : ExternalChain (ParentWithin f 0) (ParentBetween f) root n depth

  top_below : (bound : ℕ) (n : N) (a : At f tests ok n) → a.vector.external < bound → Top n a
  top_below zero n a low = absurd (omega arith)
  top_below (suc bound) n a low = go (cist_end n a) (top_below bound)
    where
      go : CistEnd n a → ((k : N) (c : At f tests ok k) → c.vector.external < bound → Top k c) → Top n a
      go e rest = by e.began
        where
          same : e.at.vector.root ≡ a.vector.root
          same = (same_roots e.at.vector a.vector e.same).root

          by : Begins (cist_tree f tests ok) (ParentWithin f 0) (cist_steps f tests ok) e.root e.at → Top n a
          by (inl own) = record {
            root = e.root;
            at = e.at;
            is_own = own;
            same = same;
            depth = 0;
            chain = above e.chain (last (λ k s. own_alone (cist_tree f tests ok) e.root k e.at own s.is_parent) (λ k s. own_alone (cist_tree f tests ok) e.root k e.at own s.is_parent));
          }
          by (inr t) =
              let c = crosses e.root e.at t in
              let low_here = c.falls in
              let level = (same_roots e.at.vector a.vector e.same).external in
              let from = sends f tests ok t.0.heard in
              let more = rest t.0.heard.port.bridge from (omega arith) in
              record {
                root = more.root;
                at = more.at;
                is_own = more.is_own;
                same = more.same ∙ (sym c.root ∙ same);
                depth = suc more.depth;
                chain = above e.chain (across (far_parent f tests ok e.root e.at t.0 t.1) more.chain);
              }

  pub top_of : (n : N) (a : At f tests ok n) → Top n a
  top_of n a = top_below (suc a.vector.external) n a (omega arith)

  pub external_depth : (n : N) (b : CistBridge) → HasBridge f.cist n b → (d : ℕ) × ExternalDepth f n d
  external_depth n b has = let t = top_of n (cist_at f tests ok n (b, has)) in (t.depth, record { has_bridge = (b, has); root = t.root; chain = t.chain })

  pub one_external_depth : (n : N) (d e : ℕ) → ExternalDepth f n d → ExternalDepth f n e → d ≡ e
  one_external_depth n d e x y = (one_external (cist_sides f tests ok) x.chain y.chain).steps

  -- the ends are the roots that vectors name
  pub ends_regional : (n : N) (x : CistVector) (d : ℕ) (depth : InternalDepth f 0 n d) → f.cist_vector n ≡ Some x → (b : CistBridge) × HasBridge f.cist depth.root b × (b.id ≡ x.regional)
  ends_regional n x d depth is = go (cist_end n at)
    where
      at : At f tests ok n
      at = record { bridge = depth.has_tree.0; has_bridge = depth.has_tree.1; vector = x; is_vector = is }

      named : {k : N} → (c : At f tests ok k) → Begins (cist_tree f tests ok) (ParentWithin f 0) (cist_steps f tests ok) k c → c.bridge.id ≡ c.vector.regional
      named c (inl e) = sym (ap (λ (y : CistVector). y.regional) e)
      named c (inr t) = sym (ap (λ (y : CistVector). y.regional) t.0.is_made ∙ cist_far_regional t.0.heard.message t.0.heard.designates.says.bridge c.bridge t.0.port.settings t.1)

      go : CistEnd n at → (b : CistBridge) × HasBridge f.cist depth.root b × (b.id ≡ x.regional)
      go e =
          let one = (one_internal (one_within f tests ok 0) e.chain depth.chain).ends in
          (e.at.bridge, subst (λ k. HasBridge f.cist k e.at.bridge) one e.at.has_bridge, named e.at e.began ∙ (same_roots e.at.vector x e.same).regional)

  first_component : (x y : MstiVector) → msti_within.shared x ≡ msti_within.shared y → x.regional ≡ y.regional
  first_component x y e = cc

  pub ends_msti : (i : ℕ) (n : N) (x : MstiVector) (d : ℕ) (depth : InternalDepth f (suc i) n d) → f.msti_vector (suc i) n ≡ Some x → (b : MstiBridge) × HasBridge (f.msti (suc i)) depth.root b × (b.id ≡ x.regional)
  ends_msti i n x d depth is = go (msti_end i n at)
    where
      at : InTree f tests ok i n
      at = record { bridge = depth.has_tree.0; has_bridge = depth.has_tree.1; vector = x; is_vector = is }

      named : {k : N} → (c : InTree f tests ok i k) → Begins (msti_tree f tests ok i) (ParentWithin f (suc i)) (msti_steps f tests ok i) k c → c.bridge.id ≡ c.vector.regional
      named c (inl e) = sym (ap (λ (y : MstiVector). y.regional) e)
      named c (inr t) = let no = t.1 in cc

      go : MstiEnd i n at → (b : MstiBridge) × HasBridge (f.msti (suc i)) depth.root b × (b.id ≡ x.regional)
      go e =
          let one = (one_internal (one_within f tests ok (suc i)) e.chain depth.chain).ends in
          (e.at.bridge, subst (λ k. HasBridge (f.msti (suc i)) k e.at.bridge) one e.at.has_bridge, named e.at e.began ∙ first_component e.at.vector x e.same)

  pub ends_cist : (n : N) (x : CistVector) (d : ℕ) (depth : ExternalDepth f n d) → f.cist_vector n ≡ Some x → (b : CistBridge) × HasBridge f.cist depth.root b × (b.id ≡ x.root)
  ends_cist n x d depth is = go (top_of n at)
    where
      at : At f tests ok n
      at = record { bridge = depth.has_bridge.0; has_bridge = depth.has_bridge.1; vector = x; is_vector = is }

      go : Top n at → (b : CistBridge) × HasBridge f.cist depth.root b × (b.id ≡ x.root)
      go t =
          let one = (one_external (cist_sides f tests ok) t.chain depth.chain).ends in
          (t.at.bridge, subst (λ k. HasBridge f.cist k t.at.bridge) one t.at.has_bridge, sym (ap (λ (y : CistVector). y.root) t.is_own) ∙ t.same)
