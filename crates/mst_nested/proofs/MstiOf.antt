-- An MSTI made from the settled CIST and what is set for it.
use Rattle.std.proofs.Common.{◌≡◌, ◌⊎◌, inl, inr, refl, sym, ◌∙◌, ap, subst, List, [], ◌∷◌, Option, Some, None, Bool, true, false}
use Rattle.mst_vector.specs.Cist.{cist_rules}
use Rattle.mst_vector.specs.declared.cist.CistVector.{CistVector}
use Rattle.mst_vector.specs.declared.cist.CistBridge.{CistBridge}
use Rattle.mst_vector.specs.declared.cist.CistPort.{CistPort}
use Rattle.mst_vector.specs.declared.msti.MstiBridge.{MstiBridge}
use Rattle.mst_vector.specs.declared.msti.MstiPort.{MstiPort}
use Rattle.mst_topology.specs.Topology.{TreePort, Topology, HasBridge, HasPort, KeyTests}
use Rattle.mst_topology.proofs.Rank.{Among, among-contains, contains-among}
use Rattle.mst_topology.proofs.Unique.{cons_option}
use Rattle.mst_nested.specs.Trees.{Trees, IsTree, IsInternal, IsSettled}
use Rattle.mst_nested.proofs.Ports.{some_is}
use Rattle.mst_nested.proofs.Parts.{IsOuter, sides, outer_not_internal}

among_cons : {A : Type 0} (x : A) (o : Option A) (xs : List A) → Among x xs → Among x (cons_option o xs)
among_cons x None xs h = h
among_cons x (Some y) xs h = inr h

among_first : {A : Type 0} (x : A) (o : Option A) (xs : List A) → o ≡ Some x → Among x (cons_option o xs)
among_first x None xs e = cc
among_first x (Some y) xs e = inl (some_is (sym e))

among_either : {A : Type 0} (x : A) (o : Option A) (xs : List A) → Among x (cons_option o xs) → (o ≡ Some x) ⊎ Among x xs
among_either x None xs h = inr h
among_either x (Some y) xs h = elim h [ inl e ↦ inl (ap Some (sym e)) | inr r ↦ inr r ]

module _ {N L K : Type 0} (t : Topology N L K CistBridge CistPort) (tests : KeyTests N L) (v : N → Option CistVector) (cist : IsTree cist_rules t v) where
  -- the CIST alone
  abbrev pub alone : Trees N L K
  alone = record { cist = t; cist_vector = v; msti = λ i. record { bridges = []; ports = [] }; msti_vector = λ i n. None }

  pub alone_settled : IsSettled alone
  alone_settled = record {
    cist = cist;
    msti = λ i. record {
      topology = record {
        one_bridge = λ n a b h k. absurd (contains-among [] (n, a) h);
        one_port = λ p q h k e. absurd (contains-among [] p h);
        has_bridge = λ p h o. absurd (contains-among [] p h);
        in_range = λ p h. absurd (contains-among [] p h);
        bridge_ids = λ n k a b h g e. absurd (contains-among [] (n, a) h);
        port_ids = λ p q h o k u e g. absurd (contains-among [] p h);
      };
      settled = record {
        has_vector = λ n b h. absurd (contains-among [] (n, b) h);
        is_bridge = λ n x e. cc;
        bridges = λ n b x h e. absurd (contains-among [] (n, b) h);
      };
      port_ids = λ p h. absurd (contains-among [] p h);
    };
    nested = λ i. record {
      bridges = λ n h. absurd (contains-among [] (n, h.0) h.1);
      regions = λ n k r h. absurd (contains-among [] (n, h.0) h.1);
      ports = λ p internal h. absurd (contains-among [] (p.bridge, h.0) h.1);
      from_ports = λ q h. absurd (contains-among [] q h.0);
    };
  }

  -- an MSTI from what is set for it: the bridges that have it, and their internal ports
  module _ (bridge : N → Option MstiBridge) (port : K → MstiPort) where
    abbrev with_key : N → Option MstiBridge → Option (N × MstiBridge)
    with_key n None = None
    with_key n (Some x) = Some (n, x)

    abbrev bridges_of : List (N × CistBridge) → List (N × MstiBridge)
    bridges_of [] = []
    bridges_of (b ∷ bs) = cons_option (with_key b.0 (bridge b.0)) (bridges_of bs)

    abbrev pub tree_port : TreePort N L K CistPort → TreePort N L K MstiPort
    tree_port p = record { number = p.number; bridge = p.bridge; lan = p.lan; settings = port p.number; is_part = true; is_restricted = p.is_restricted }

    abbrev port_by : (p : TreePort N L K CistPort) → IsInternal alone p ⊎ IsOuter alone tests alone_settled p → Option MstiBridge → Option (TreePort N L K MstiPort)
    port_by p (inl i) (Some x) = Some (tree_port p)
    port_by p (inl i) None = None
    port_by p (inr o) x = None

    abbrev port_if : (p : TreePort N L K CistPort) → HasPort t p → (c : Bool) → p.is_part ≡ c → Option (TreePort N L K MstiPort)
    port_if p has true e = port_by p (sides alone tests alone_settled p (has, e)) (bridge p.bridge)
    port_if p has false e = None

    abbrev ports_of : (ps : List (TreePort N L K CistPort)) → ((p : TreePort N L K CistPort) → Among p ps → HasPort t p) → List (TreePort N L K MstiPort)
    ports_of [] all = []
    ports_of (p ∷ ps) all = cons_option (port_if p (all p (inl refl)) p.is_part refl) (ports_of ps (λ q h. all q (inr h)))

    abbrev pub msti_of : Topology N L K MstiBridge MstiPort
    msti_of = record { bridges = bridges_of t.bridges; ports = ports_of t.ports (λ p h. among-contains t.ports p h) }

    -- its bridges are those that have it
    key_is : (n k : N) (o : Option MstiBridge) (x : MstiBridge) → with_key n o ≡ Some (k, x) → (n ≡ k) × (o ≡ Some x)
    key_is n k None x e = cc
    key_is n k (Some y) x e = let pair = some_is e in (ap (λ (d : N × MstiBridge). d.0) pair, ap (λ (d : N × MstiBridge). Some d.1) pair)

    among_bridges : (bs : List (N × CistBridge)) (n : N) (x : MstiBridge) → Among (n, x) (bridges_of bs) → (c : CistBridge) × Among (n, c) bs × (bridge n ≡ Some x)
    among_bridges [] n x h = absurd h
    among_bridges (b ∷ bs) n x h = go (among_either (n, x) (with_key b.0 (bridge b.0)) (bridges_of bs) h) (among_bridges bs n x)
      where
        go : (with_key b.0 (bridge b.0) ≡ Some (n, x)) ⊎ Among (n, x) (bridges_of bs) → (Among (n, x) (bridges_of bs) → (c : CistBridge) × Among (n, c) bs × (bridge n ≡ Some x)) → (c : CistBridge) × Among (n, c) (b ∷ bs) × (bridge n ≡ Some x)
        go (inl e) rest = let k = key_is b.0 n (bridge b.0) x e in (b.1, inl (λ i. (sym k.0 i, b.1)), ap bridge (sym k.0) ∙ k.1)
        go (inr r) rest = let c = rest r in (c.0, inr c.1, c.2)

    bridges_among : (bs : List (N × CistBridge)) (n : N) (c : CistBridge) (x : MstiBridge) → Among (n, c) bs → bridge n ≡ Some x → Among (n, x) (bridges_of bs)
    bridges_among [] n c x h e = absurd h
    bridges_among (b ∷ bs) n c x h e = elim h [
      | inl f ↦ (let key : n ≡ b.0 = ap (λ (d : N × CistBridge). d.0) f in among_first (n, x) (with_key b.0 (bridge b.0)) (bridges_of bs) (ap (λ k. with_key k (bridge k)) (sym key) ∙ ap (with_key n) e))
      | inr r ↦ among_cons (n, x) (with_key b.0 (bridge b.0)) (bridges_of bs) (bridges_among bs n c x r e)
    ]

    pub bridge_is : (n : N) (x : MstiBridge) → HasBridge msti_of n x → (c : CistBridge) × HasBridge t n c × (bridge n ≡ Some x)
    bridge_is n x h = let c = among_bridges t.bridges n x (contains-among (bridges_of t.bridges) (n, x) h) in (c.0, among-contains t.bridges (n, c.0) c.1, c.2)

    pub is_bridge : (n : N) (c : CistBridge) (x : MstiBridge) → HasBridge t n c → bridge n ≡ Some x → HasBridge msti_of n x
    is_bridge n c x h e = among-contains (bridges_of t.bridges) (n, x) (bridges_among t.bridges n c x (contains-among t.bridges (n, c) h) e)

    -- its ports are their internal ports
    pub record FromPort (q : TreePort N L K MstiPort) : Type 0 where
      pub from : TreePort N L K CistPort
      pub is_internal : IsInternal alone from
      pub settings : MstiBridge
      pub has_tree : bridge from.bridge ≡ Some settings
      pub is_port : tree_port from ≡ q

    by_is : (p : TreePort N L K CistPort) (q : TreePort N L K MstiPort) (o : IsInternal alone p ⊎ IsOuter alone tests alone_settled p) (x : Option MstiBridge) → bridge p.bridge ≡ x → port_by p o x ≡ Some q → FromPort q
    by_is p q (inl i) (Some x) has e = record { from = p; is_internal = i; settings = x; has_tree = has; is_port = some_is e }
    by_is p q (inl i) None has e = cc
    by_is p q (inr o) x has e = cc

    if_is : (p : TreePort N L K CistPort) (q : TreePort N L K MstiPort) (has : HasPort t p) (c : Bool) (on : p.is_part ≡ c) → port_if p has c on ≡ Some q → FromPort q
    if_is p q has true on e = by_is p q (sides alone tests alone_settled p (has, on)) (bridge p.bridge) refl e
    if_is p q has false on e = cc

    by_at : (p : TreePort N L K CistPort) (o : IsInternal alone p ⊎ IsOuter alone tests alone_settled p) (x : MstiBridge) (y : Option MstiBridge) → IsInternal alone p → y ≡ Some x → port_by p o y ≡ Some (tree_port p)
    by_at p (inl i) x (Some y) internal e = refl
    by_at p (inl i) x None internal e = cc
    by_at p (inr o) x y internal e = absurd (outer_not_internal alone tests alone_settled p o internal)

    if_at : (p : TreePort N L K CistPort) (has : HasPort t p) (x : MstiBridge) (c : Bool) (on : p.is_part ≡ c) → IsInternal alone p → bridge p.bridge ≡ Some x → port_if p has c on ≡ Some (tree_port p)
    if_at p has x true on internal e = by_at p (sides alone tests alone_settled p (has, on)) x (bridge p.bridge) internal e
    if_at p has x false on internal e = let part = internal.is_enabled.1 in cc

    among_ports : (ps : List (TreePort N L K CistPort)) (all : (p : TreePort N L K CistPort) → Among p ps → HasPort t p) (q : TreePort N L K MstiPort) → Among q (ports_of ps all) → FromPort q
    among_ports [] all q h = absurd h
    among_ports (p ∷ ps) all q h = go (among_either q (port_if p (all p (inl refl)) p.is_part refl) (ports_of ps (λ r g. all r (inr g))) h) (among_ports ps (λ r g. all r (inr g)) q)
      where
        go : (port_if p (all p (inl refl)) p.is_part refl ≡ Some q) ⊎ Among q (ports_of ps (λ r g. all r (inr g))) → (Among q (ports_of ps (λ r g. all r (inr g))) → FromPort q) → FromPort q
        go (inl e) rest = if_is p q (all p (inl refl)) p.is_part refl e
        go (inr r) rest = rest r

    ports_among : (ps : List (TreePort N L K CistPort)) (all : (p : TreePort N L K CistPort) → Among p ps → HasPort t p) (p : TreePort N L K CistPort) (x : MstiBridge) → Among p ps → IsInternal alone p → bridge p.bridge ≡ Some x → Among (tree_port p) (ports_of ps all)
    ports_among [] all p x h internal e = absurd h
    ports_among (r ∷ ps) all p x h internal e = elim h [
      | inl f ↦ among_first (tree_port p) (port_if r (all r (inl refl)) r.is_part refl) (ports_of ps (λ q g. all q (inr g))) (if_at r (all r (inl refl)) x r.is_part refl (subst (IsInternal alone) f internal) (ap (λ (k : TreePort N L K CistPort). bridge k.bridge) (sym f) ∙ e) ∙ ap (λ (k : TreePort N L K CistPort). Some (tree_port k)) (sym f))
      | inr g ↦ among_cons (tree_port p) (port_if r (all r (inl refl)) r.is_part refl) (ports_of ps (λ q k. all q (inr k))) (ports_among ps (λ q k. all q (inr k)) p x g internal e)
    ]

    pub port_is : (q : TreePort N L K MstiPort) → HasPort msti_of q → FromPort q
    port_is q h = among_ports t.ports (λ p g. among-contains t.ports p g) q (contains-among (ports_of t.ports (λ p g. among-contains t.ports p g)) q h)

    pub is_port : (p : TreePort N L K CistPort) (x : MstiBridge) → IsInternal alone p → bridge p.bridge ≡ Some x → HasPort msti_of (tree_port p)
    is_port p x internal e = among-contains (ports_of t.ports (λ q g. among-contains t.ports q g)) (tree_port p) (ports_among t.ports (λ q g. among-contains t.ports q g) p x (contains-among t.ports p internal.is_enabled.0) internal e)
