-- A settled assignment exists: bridges are fixed one by one, the least leading part first.
use Rattle.std.proofs.Common.{◌≡◌, ◌≢◌, ℕ, suc, zero, ◌<◌, List, Option, Some, None, Bool, true, false, cond, refl, sym, ◌∙◌, ap, inl, inr, ◌⊎◌, Less, arith}
use Rattle.std.specs.Option.{is_none}
use Rattle.std.specs.Ordering.{is_gt, nat_cmp}
use Rattle.std.specs.Cmp.Lexicographic.{slice_cmp}
use Rattle.std.proofs.lemmas.Cmp.{nat_list_cmp_total, tied_itself, upto}
use Rattle.mst_vector.specs.Rules.{Rules, IsMetric, leading_order}
use Rattle.mst_topology.specs.Topology.{Topology, IsTopology, HasBridge, IsTest, KeyTests}
use Rattle.mst_topology.specs.Settled.{IsVectorOf, Settled}
use Rattle.mst_topology.specs.Settling.{IsPut}
use Rattle.mst_topology.proofs.Orders.{both, not_less, upto_not_less, less_is_upto}
use Rattle.mst_topology.proofs.KeyTests.{fails}
use Rattle.mst_topology.proofs.Rank.{Among, contains-among, count, count_strictly_more}
use Rattle.mst_topology.proofs.Search.{Best, NoKey, best, some_is}
use Rattle.mst_topology.proofs.Below.{Below, same_vector}
use Rattle.mst_topology.proofs.Offers.{bridge_among, found, lost, least_of}

-- whether the bridge has no vector
abbrev pub is_free : {N B V : Type 0} → (N → Option V) → N × B → Bool
is_free v k = is_none (v k.0)

-- v with x at n
abbrev pub put : {N V : Type 0} → (N → N → Bool) → (N → Option V) → N → V → N → Option V
put same v n x = λ k. cond (same k n) (Some x) (v k)

module _ {N V : Type 0} {same : N → N → Bool} (test : IsTest same) (v : N → Option V) (n : N) (x : V) where
  pub put-at : put same v n x n ≡ Some x
  put-at = rw (test.itself n) refl

  -- the key put, or another
  pub put_cases : (k : N) → (k ≡ n) × (put same v n x k ≡ Some x) ⊎ (k ≢ n) × (put same v n x k ≡ v k)
  put_cases k = go (same k n) refl
    where
      go : (t : Bool) → same k n ≡ t → (k ≡ n) × (put same v n x k ≡ Some x) ⊎ (k ≢ n) × (put same v n x k ≡ v k)
      go true q = inl (test.alone k n q, rw q refl)
      go false q = inr (fails test k n q, rw q refl)

-- the bridges fixed so far have the least that they can take, and the others cannot take less
pub record Fixed {N L K B P V : Type 0} (m : Rules B P V) (t : Topology N L K B P) (v : N → Option V) : Type 0 where
  pub is_bridge : (n : N) (x : V) → v n ≡ Some x → (b : B) × HasBridge t n b
  pub vectors : (n : N) (b : B) (x : V) → HasBridge t n b → v n ≡ Some x → IsVectorOf m t v n b x
  pub rest : (n k : N) (c : B) (x y : V) → v n ≡ Some x → HasBridge t k c → v k ≡ None → IsVectorOf m t v k c y → is_gt (leading_order m x y) ≡ false

module _ {N L K B P V : Type 0} (m : Rules B P V) (law : IsMetric m) (t : Topology N L K B P) (ok : IsTopology m t) (tests : KeyTests N L) where
  -- fix one more, whose vector has the least leading part
  module _ (v w : N → Option V) (f : Fixed m t v) (n : N) (b : B) (bn : HasBridge t n b) (free : v n ≡ None) (x : V) (ix : IsVectorOf m t v n b x)
      (low : (k : N) (c : B) (y : V) → HasBridge t k c → v k ≡ None → IsVectorOf m t v k c y → is_gt (leading_order m x y) ≡ false)
      (puts : IsPut v n x w) where
    below_vw : Below m (m.leading x) v w
    below_vw k y e l = go (puts k)
      where
        go : (k ≡ n) × (w k ≡ Some x) ⊎ (k ≢ n) × (w k ≡ v k) → w k ≡ Some y
        go (inl h) = let g : v k ≡ None = ap v h.0 ∙ free in cc
        go (inr h) = h.1 ∙ e

    below_wv : Below m (m.leading x) w v
    below_wv k y e l = go (puts k)
      where
        go : (k ≡ n) × (w k ≡ Some x) ⊎ (k ≢ n) × (w k ≡ v k) → v k ≡ Some y
        go (inl h) = let same : x ≡ y = some_is x y (sym h.1 ∙ e) in let loop : leading_order m x x ≡ Less = rw (sym same) at l in let tie = tied_itself nat_list_cmp_total (m.leading x) in cc
        go (inr h) = sym h.1 ∙ e

    -- what has at most this leading part is the same in both
    kept : (k : N) (c : B) (y z : V) → IsVectorOf m t v k c y → IsVectorOf m t w k c z → is_gt (leading_order m y x) ≡ false → y ≡ z
    kept k c y z iy iz u = same_vector m law t ok v w (m.leading x) below_vw below_wv k c y z iy iz u

    kept_back : (k : N) (c : B) (y z : V) → IsVectorOf m t v k c y → IsVectorOf m t w k c z → is_gt (leading_order m z x) ≡ false → z ≡ y
    kept_back k c y z iy iz u = same_vector m law t ok w v (m.leading x) below_wv below_vw k c z y iz iy u

    -- those fixed are at most this one
    at_most : (k : N) (y : V) → w k ≡ Some y → is_gt (leading_order m y x) ≡ false
    at_most k y e = go (puts k)
      where
        go : (k ≡ n) × (w k ≡ Some x) ⊎ (k ≢ n) × (w k ≡ v k) → is_gt (leading_order m y x) ≡ false
        go (inl h) = rw (sym (some_is x y (sym h.1 ∙ e))) (ap is_gt (tied_itself nat_list_cmp_total (m.leading x)))
        go (inr h) = f.rest k n b y x (sym h.1 ∙ e) bn free ix

    vectors_w : (k : N) (c : B) (y : V) → HasBridge t k c → w k ≡ Some y → IsVectorOf m t w k c y
    vectors_w k c y bk e = go (puts k)
      where
        z : (z : V) × IsVectorOf m t w k c z
        z = least_of m law t ok tests w k c bk

        go : (k ≡ n) × (w k ≡ Some x) ⊎ (k ≢ n) × (w k ≡ v k) → IsVectorOf m t w k c y
        go (inl h) =
            let here : c ≡ b = ok.one_bridge n c b (rw h.0 at bk) bn in
            let value : x ≡ y = some_is x y (sym h.1 ∙ e) in
            let iy : IsVectorOf m t v k c y = rw (h.0, here, sym value) ix in
            rw (kept k c y z.0 iy z.1 (at_most k y e)) z.1
        go (inr h) =
            let iy = f.vectors k c y bk (sym h.1 ∙ e) in
            rw (kept k c y z.0 iy z.1 (at_most k y e)) z.1

    rest_w : (j k : N) (c : B) (y z : V) → w j ≡ Some y → HasBridge t k c → w k ≡ None → IsVectorOf m t w k c z → is_gt (leading_order m y z) ≡ false
    rest_w j k c y z e bk free_k iz = upto nat_list_cmp_total (m.leading y) (m.leading x) (m.leading z) (at_most j y e) (not_less nat_list_cmp_total (m.leading z) (m.leading x) no)
      where
        still : v k ≡ None
        still = go (puts k)
          where
            go : (k ≡ n) × (w k ≡ Some x) ⊎ (k ≢ n) × (w k ≡ v k) → v k ≡ None
            go (inl h) = let g = h.1 in cc
            go (inr h) = sym h.1 ∙ free_k

        u : (u : V) × IsVectorOf m t v k c u
        u = least_of m law t ok tests v k c bk

        no : leading_order m z x ≡ Less → ⊥
        no l =
            let same : z ≡ u.0 = kept_back k c u.0 z u.1 iz (less_is_upto nat_list_cmp_total (m.leading z) (m.leading x) l) in
            let least : is_gt (leading_order m x z) ≡ false = rw same (low k c u.0 bk still u.1) in
            upto_not_less nat_list_cmp_total (m.leading x) (m.leading z) least l

    is_bridge_w : (k : N) (y : V) → w k ≡ Some y → (c : B) × HasBridge t k c
    is_bridge_w k y e = go (puts k)
      where
        go : (k ≡ n) × (w k ≡ Some x) ⊎ (k ≢ n) × (w k ≡ v k) → (c : B) × HasBridge t k c
        go (inl h) = (b, rw h.0 bn)
        go (inr h) = f.is_bridge k y (sym h.1 ∙ e)

    pub fixed_more : Fixed m t w
    fixed_more = record { is_bridge = is_bridge_w; vectors = vectors_w; rest = rest_w }

  -- at first none is fixed
  none_fixed : Fixed m t (λ k. None)
  none_fixed = record { is_bridge = λ n x e. cc; vectors = λ n b x bn e. cc; rest = λ n k c x y e. cc }

  -- the leading part that a free bridge would be fixed with
  abbrev leading_free : (v : N → Option V) (k : N) (o : Option V) (c : Option B) → bridge_among tests.same_bridge t.bridges k ≡ c → Option (List ℕ)
  leading_free v k (Some x) c e = None
  leading_free v k None None e = None
  leading_free v k None (Some c) e = Some (m.leading (least_of m law t ok tests v k c (found tests t k c e)).0)

  abbrev key : (v : N → Option V) → N × B → Option (List ℕ)
  key v k = leading_free v k.0 (v k.0) (bridge_among tests.same_bridge t.bridges k.0) refl

  -- a free bridge, with the least that it can take
  record Free (v : N → Option V) (k : N) (l : List ℕ) : Type 0 where
    bridge : B
    has_bridge : HasBridge t k bridge
    is_free : v k ≡ None
    vector : V
    is_vector : IsVectorOf m t v k bridge vector
    is_leading : m.leading vector ≡ l

  key-is : (v : N → Option V) (k : N × B) (l : List ℕ) → key v k ≡ Some l → Free v k.0 l
  key-is v k l = go (v k.0) refl (bridge_among tests.same_bridge t.bridges k.0) refl
    where
      go : (o : Option V) → v k.0 ≡ o → (c : Option B) (e : bridge_among tests.same_bridge t.bridges k.0 ≡ c) → leading_free v k.0 o c e ≡ Some l → Free v k.0 l
      go (Some x) vo c e h = cc
      go None vo None e h = cc
      go None vo (Some c) e h =
          let u = least_of m law t ok tests v k.0 c (found tests t k.0 c e) in
          record { bridge = c; has_bridge = found tests t k.0 c e; is_free = vo; vector = u.0; is_vector = u.1; is_leading = some_is (m.leading u.0) l h }

  -- a bridge has one least vector
  pub one_least : (v : N → Option V) (k : N) (b : B) (x y : V) → IsVectorOf m t v k b x → IsVectorOf m t v k b y → x ≡ y
  one_least v k b x y ix iy = law.equal x y (both law.total x y (ix.upto y iy.can_take) (iy.upto x ix.can_take))

  key-at : (v : N → Option V) (k : N) (c b : B) (y : V) → HasBridge t k c → v k ≡ None → IsVectorOf m t v k c y → key v (k, b) ≡ Some (m.leading y)
  key-at v k c b y bk free iy = go (v k) refl (bridge_among tests.same_bridge t.bridges k) refl
    where
      go : (o : Option V) → v k ≡ o → (d : Option B) (e : bridge_among tests.same_bridge t.bridges k ≡ d) → leading_free v k o d e ≡ Some (m.leading y)
      go (Some x) vo d e = cc
      go None vo None e = absurd (lost tests t k c bk e)
      go None vo (Some d) e =
          let u = least_of m law t ok tests v k d (found tests t k d e) in
          let same : c ≡ d = ok.one_bridge k c d bk (found tests t k d e) in
          ap (λ (z : V). Some (m.leading z)) (one_least v k d u.0 y u.1 (rw (sym same) iy))

  -- when none is free, all is settled
  all_fixed : (v : N → Option V) → Fixed m t v → NoKey (key v) t.bridges → Settled m t v
  all_fixed v f none = record {
    has_vector = λ n b bn. has n b bn (v n) refl;
    is_bridge = f.is_bridge;
    bridges = f.vectors;
  }
    where
      has : (n : N) (b : B) → HasBridge t n b → (o : Option V) → v n ≡ o → (x : V) × (v n ≡ Some x)
      has n b bn (Some x) e = (x, e)
      has n b bn None e =
          let u = least_of m law t ok tests v n b bn in
          let here = none (n, b) (contains-among t.bridges (n, b) bn) in
          let there = key-at v n b b u.0 bn e u.1 in
          let absurdity : ⊥ = cc in
          absurd absurdity

  fewer : (v : N → Option V) (k : N × B) (x : V) → v k.0 ≡ None → Among k t.bridges → count (is_free (put tests.same_bridge v k.0 x)) t.bridges < count (is_free v) t.bridges
  fewer v n x free among = count_strictly_more (is_free (put tests.same_bridge v n.0 x)) (is_free v) weaker t.bridges n among (ap is_none (put-at tests.bridges v n.0 x)) (ap is_none free)
    where
      weaker : (k : N × B) → is_none (put tests.same_bridge v n.0 x k.0) ≡ true → is_none (v k.0) ≡ true
      weaker k e = go (put_cases tests.bridges v n.0 x k.0)
        where
          go : (k.0 ≡ n.0) × (put tests.same_bridge v n.0 x k.0 ≡ Some x) ⊎ (k.0 ≢ n.0) × (put tests.same_bridge v n.0 x k.0 ≡ v k.0) → is_none (v k.0) ≡ true
          go (inl h) = ap is_none (ap v h.0 ∙ free)
          go (inr h) = ap is_none (sym h.1) ∙ e

  settle : (r : ℕ) (v : N → Option V) → Fixed m t v → count (is_free v) t.bridges < r → (s : N → Option V) × Settled m t s
  settle zero v f low = absurd (omega arith)
  settle (suc r) v f low = go (best (slice_cmp nat_cmp) nat_list_cmp_total (key v) t.bridges) (settle r)
    where
      go : Best (slice_cmp nat_cmp) (key v) t.bridges ⊎ NoKey (key v) t.bridges
          → ((w : N → Option V) → Fixed m t w → count (is_free w) t.bridges < r → (s : N → Option V) × Settled m t s)
          → (s : N → Option V) × Settled m t s
      go (inr none) rest = (v, all_fixed v f none)
      go (inl b) rest =
          let p = key-is v b.at b.best b.is_key in
          let less = fewer v b.at p.vector p.is_free b.among in
          rest (put tests.same_bridge v b.at.0 p.vector)
          (fixed_more v (put tests.same_bridge v b.at.0 p.vector) f b.at.0 p.bridge p.has_bridge p.is_free p.vector p.is_vector
          (λ k c y bk free iy. rw p.is_leading (b.upto (k, c) (m.leading y) (contains-among t.bridges (k, c) bk) (key-at v k c c y bk free iy)))
          (put_cases tests.bridges v b.at.0 p.vector))
          (omega arith)

  pub exists : (s : N → Option V) × Settled m t s
  exists = settle (suc (count (is_free {V = V} (λ k. None)) t.bridges)) (λ k. None) none_fixed (omega arith)
