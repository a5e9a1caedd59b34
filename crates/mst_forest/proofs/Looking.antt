-- What is looked up in a view by number, under names.
use Rattle.std.proofs.Common.{◌≡◌, ℕ, ◌&&◌, ◌==◌, Bool, true, false, cond, nat_eq, List, [], ◌∷◌, Option, Some, None, is_some, refl, sym, ap, subst, ◌∙◌, true≢false, eq-eqb, unwrap_or}
use Rattle.std.specs.Prelude.{if◌then◌else◌}
use Rattle.std.specs.List.{AllByRecursion, Contains, filter, filter_map, find, cons_option}
use Rattle.std.specs.Option.{option_map, option_map_or, option_and_then}
use Rattle.std.specs.Map.{lookup}
use Rattle.std.specs.FinMap as fin
use Rattle.std.proofs.lemmas.Bool.{eqb-true}
use Rattle.mst_ids.specs.declared.name.PortName.{PortName}
use Rattle.mst_vector.specs.Rules.{Rules}
use Rattle.mst_vector.specs.Cist.{cist_rules}
use Rattle.mst_vector.specs.declared.cist.CistVector.{CistVector}
use Rattle.mst_vector.specs.declared.cist.CistBridge.{CistBridge}
use Rattle.mst_vector.specs.declared.msti.MstiBridge.{MstiBridge}
use Rattle.mst_topology.specs.Settled.{IsDesignated}
use Rattle.mst_net.specs.tables.Tables.{Net, Numbers, BridgeRow}
use Rattle.mst_net.specs.tables.ByTree.{by_tree}
use Rattle.mst_net.specs.tables.Seen.{bridge_row}
use Rattle.mst_view.specs.Trees.{mstis_of, is_among}
use Rattle.mst_view.specs.Viewed.{Viewed, named_port}
use Rattle.mst_view.specs.declared.in_view.BridgeInView.{BridgeInView}
use Rattle.mst_view.specs.declared.in_view.PortInView.{PortInView}
use Rattle.mst_view.proofs.Placing.{pair_found}
use Rattle.mst_config.specs.Regions.{same_region, region_of}
use Rattle.mst_config.specs.Shared.{same_in}
use Rattle.mst_forest.specs.Sight.{Sight, tree_of}
use Rattle.mst_forest.specs.Cist.{cist_bridge, cist_port, cist_sight, cist_of}
use Rattle.mst_forest.specs.Msti.{msti_bridge, msti_port, has_msti, is_internal, msti_sight}
use Rattle.mst_forest.specs.Outcome.{TreeOutcome, IsTreeOutcome}
use Rattle.mst_forest.specs.Seen.{seen_tree_port, seen_cist_bridge, seen_cist_port, cist_seen, trees_at, seen_internal, internal_seen, seen_msti_bridge, seen_msti_port, msti_seen}
use Rattle.mst_forest.specs.Agrees.{Agrees, IsNameOf, AreOf, internal_ports_of}
use Rattle.mst_forest.proofs.Lists.{some_is, all_contained, all_there, kept_same}
use Rattle.mst_forest.proofs.Entries.{all_weaker}
use Rattle.mst_forest.proofs.CistTopology.{cist_is_sight}
use Rattle.mst_forest.proofs.Sights.{IsSight, port_from}
use Rattle.mst_forest.proofs.Seen.{SeenBridge, SeenPort, bridges_seen, ports_seen, bridge_seen, port_seen, bridge_there, port_there}
use Rattle.mst_forest.proofs.Numbering.{number_bridge, number_port, number_tree}

-- ---- the first that passes
pub record IsFirst {A : Type 0} (test : A → Bool) (xs : List A) : Type 0 where
  pub it : A
  pub found : find test xs ≡ Some it
  pub there : Contains xs it
  pub passes : test it ≡ true

first_of_all : {A : Type 0} (test : A → Bool) (ys xs : List A) → AllByRecursion (Contains ys) xs → AllByRecursion (λ x. test x ≡ true → (y : A) × (find test xs ≡ Some y) × Contains ys y × (test y ≡ true)) xs
first_of_all test ys [] h = tt
first_of_all {A} test ys (x ∷ xs) h = go (test x) refl (first_of_all test ys xs h.1)
  where
    go : (b : Bool) → test x ≡ b → AllByRecursion (λ z. test z ≡ true → (y : A) × (find test xs ≡ Some y) × Contains ys y × (test y ≡ true)) xs
        → AllByRecursion (λ z. test z ≡ true → (y : A) × (cond (test x) (Some x) (find test xs) ≡ Some y) × Contains ys y × (test y ≡ true)) (x ∷ xs)
    go true e rest = (
      λ _. (x, ap (λ b. cond b (Some x) (find test xs)) e, h.0, e),
      all_weaker _ _ (λ z _ _. (x, ap (λ b. cond b (Some x) (find test xs)) e, h.0, e)) xs rest,
    )
    go false e rest = (
      λ f. absurd (true≢false (sym f ∙ e)),
      all_weaker _ _ (λ z k f. let r = k f in (r.0, ap (λ b. cond b (Some x) (find test xs)) e ∙ r.1, r.2, r.3)) xs rest,
    )

pub first_found : {A : Type 0} (test : A → Bool) (xs : List A) (x : A) → Contains xs x → test x ≡ true → IsFirst test xs
first_found {A} test xs x there passes =
    let r = all_contained (λ z. test z ≡ true → (y : A) × (find test xs ≡ Some y) × Contains xs y × (test y ≡ true)) xs x (first_of_all test xs xs (all_there xs)) there passes in
    record { it = r.0; found = r.1; there = r.2; passes = r.3 }

-- those that pass a test, changed
filtered_kept : {A B : Type 0} (h : A → Option B) (test : A → Bool) (xs : List A) → filter_map h (filter test xs) ≡ filter_map (λ x. if test x then h x else None) xs
filtered_kept h test [] = refl
filtered_kept {A} {B} h test (x ∷ xs) = go (test x) (filtered_kept h test xs)
  where
    go : (b : Bool) → filter_map h (filter test xs) ≡ filter_map (λ x. if test x then h x else None) xs
        → filter_map h (cond b (x ∷ filter test xs) (filter test xs)) ≡ cons_option (if b then h x else None) (filter_map (λ x. if test x then h x else None) xs)
    go true e = ap (cons_option (h x)) e
    go false e = e

pub filter_alike : {A : Type 0} (p q : A → Bool) (xs : List A) → AllByRecursion (λ x. p x ≡ q x) xs → filter p xs ≡ filter q xs
filter_alike p q [] h = refl
filter_alike p q (x ∷ xs) h = λ i. cond (h.0 i) (x ∷ filter_alike p q xs h.1 i) (filter_alike p q xs h.1 i)

module _ (net : Net) (numbers : Numbers) (v : Viewed) (region_ids : List (ℕ × ℕ)) (of : AreOf net numbers v region_ids) where
  -- ---- the CIST
  cist_bridge_same : (b : BridgeInView) → SeenBridge net numbers b → seen_cist_bridge v.settings region_ids b ≡ number_bridge (cist_sight net) b
  cist_bridge_same b seen =
      ap (λ set. seen_cist_bridge set region_ids b) of.view.settings
      ∙ ap (λ (o : Option ℕ). if◌then◌else◌ {A = Option (ℕ × CistBridge)} (bridge_row b.bridge).is_on (option_map (λ region. (b.bridge.number, cist_bridge (by_tree net) region b.name (bridge_row b.bridge))) o) None)
      (of.regions.identifiers b.name b.bridge.number seen.has_number)
      ∙ go (bridge_row b.bridge).is_on
    where
      go : (t : Bool) → if◌then◌else◌ {A = Option (ℕ × CistBridge)} t (Some (b.bridge.number, cist_bridge (by_tree net) (region_of net b.name) b.name (bridge_row b.bridge))) None
          ≡ option_map (λ c. (b.bridge.number, c)) (if t then Some (cist_bridge (by_tree net) (region_of net b.name) b.name (bridge_row b.bridge)) else None)
      go true = refl
      go false = refl

  cist_port_same : (p : PortInView) → seen_cist_port v.settings p ≡ number_port (cist_sight net) p
  cist_port_same p = ap (λ set. seen_cist_port set p) of.view.settings ∙ go p.is_enabled
    where
      go : (t : Bool) → (if t then Some (seen_tree_port p (cist_port (by_tree net) (named_port p))) else None)
          ≡ option_map (seen_tree_port p) (if t then Some (cist_port (by_tree net) (named_port p)) else None)
      go true = refl
      go false = refl

  pub cist_is_seen : cist_seen v region_ids ≡ number_tree (cist_sight net) v
  cist_is_seen = λ i. record {
    bridges = kept_same (seen_cist_bridge v.settings region_ids) (number_bridge (cist_sight net)) v.bridges
        (all_weaker (SeenBridge net numbers) _ cist_bridge_same v.bridges (bridges_seen net numbers v of.view)) i;
    ports = kept_same (seen_cist_port v.settings) (number_port (cist_sight net)) v.ports (all_weaker (SeenPort net numbers) _ (λ p _. cist_port_same p) v.ports (ports_seen net numbers v of.view)) i;
  }

  -- ---- the trees of a bridge
  trees_of_bridge : (b : BridgeInView) → Contains v.bridges b → trees_at v b.bridge.number ≡ mstis_of net b.name (bridge_row b.bridge)
  trees_of_bridge b there =
      ap (λ es. unwrap_or (lookup (nat_eq b.bridge.number) es) []) of.view.trees
      ∙ ap (λ o. unwrap_or o [])
      (pair_found (λ (x : BridgeInView). x.bridge.number) (λ (x : BridgeInView). mstis_of net x.name (bridge_row x.bridge)) b.bridge.number v.bridges
      ∙ ap (option_map (λ (x : BridgeInView). mstis_of net x.name (bridge_row x.bridge))) first.found)
      ∙ (λ i. mstis_of net (names i) (rows i))
    where
      first : IsFirst (λ (x : BridgeInView). nat_eq b.bridge.number x.bridge.number) v.bridges
      first = first_found (λ (x : BridgeInView). nat_eq b.bridge.number x.bridge.number) v.bridges b there (eq-eqb b.bridge.number b.bridge.number refl)

      own : SeenBridge net numbers b
      own = bridge_seen net numbers v of.view b there

      other : SeenBridge net numbers first.it
      other = bridge_seen net numbers v of.view first.it first.there

      names : first.it.name ≡ b.name
      names = of.numbered.bridges_differ first.it.name b.name b.bridge.number (other.has_number ∙ ap Some (sym (eqb-true b.bridge.number first.it.bridge.number first.passes))) own.has_number

      rows : bridge_row first.it.bridge ≡ bridge_row b.bridge
      rows = some_is (bridge_row first.it.bridge) (bridge_row b.bridge) (sym other.has_row ∙ ap (fin.get net.bridges) names ∙ own.has_row)

  pub has_tree_at : (tree : ℕ) (a : List ℕ) (n : ℕ) → fin.get numbers.bridges a ≡ Some n → is_among (trees_at v n) tree ≡ has_msti net tree a
  has_tree_at tree a n e = go (fin.get net.bridges a) refl
    where
      go : (o : Option BridgeRow) → fin.get net.bridges a ≡ o → is_among (trees_at v n) tree ≡ option_map_or (λ row. is_among (mstis_of net a row) tree) (fin.get net.bridges a) false
      go None f = absurd (true≢false (sym (ap is_some e) ∙ of.numbered.bridges a ∙ ap is_some f))
      go (Some row) f =
          let b = bridge_there net numbers v of.view a row f in
          let name : b.0.name ≡ a = ap (λ (q : List ℕ × BridgeRow). q.0) b.2 in
          let own = (bridge_seen net numbers v of.view b.0 b.1).has_number in
          let number : b.0.bridge.number ≡ n = some_is b.0.bridge.number n (sym own ∙ ap (fin.get numbers.bridges) name ∙ e) in
          ap (λ k. is_among (trees_at v k) tree) (sym number) ∙ ap (λ ts. is_among ts tree) (trees_of_bridge b.0 b.1)
          ∙ ap (λ (q : List ℕ × BridgeRow). is_among (mstis_of net q.0 q.1) tree) b.2
          ∙ sym (ap (λ (o : Option BridgeRow). option_map_or (λ row. is_among (mstis_of net a row) tree) o false) f)

  -- ---- a designated port of a tree is in the view, and is found by its number
  pub record IsThere (q : PortName) (k : ℕ) : Type 0 where
    pub port : PortInView
    pub found : find (λ (x : PortInView). k == x.number) v.ports ≡ Some port
    pub has_bridge : fin.get numbers.bridges q.bridge ≡ Some port.bridge

  pub is_there : {B P V : Type 0} (m : Rules B P V) (s : Sight B P) (sight : IsSight net m s) (o : TreeOutcome V) (is : IsTreeOutcome m (tree_of net s) o)
      (lan : List ℕ) (q : PortName) (k : ℕ) → o.designated lan ≡ Some q → fin.get numbers.ports q ≡ Some k → IsThere q k
  is_there m s sight o is lan q k e f =
      let d = subst (λ x. IsDesignated m (tree_of net s) o.vector lan x) e (is.designated lan) in
      let x = port_from net of.network m s sight d.0 d.3.says.has_port in
      let z = port_there net numbers v of.view x.port x.there in
      let name : z.0.name ≡ q = ap (λ y. y.name) z.2 ∙ ap (λ y. y.number) x.is ∙ d.2 in
      let own = (port_seen net numbers v of.view z.0 z.1).has_numbers in
      let number : k ≡ z.0.number = some_is k z.0.number (sym f ∙ ap (fin.get numbers.ports) (sym name) ∙ own.port) in
      let first = first_found (λ (y : PortInView). k == y.number) v.ports z.0 z.1 (eq-eqb k z.0.number number) in
      let other = (port_seen net numbers v of.view first.it first.there).has_numbers in
      let one : first.it.name ≡ q = of.numbered.ports_differ first.it.name q k (other.port ∙ ap Some (sym (eqb-true k first.it.number first.passes))) f in
      record { port = first.it; found = first.found; has_bridge = ap (λ (y : PortName). fin.get numbers.bridges y.bridge) (sym one) ∙ other.bridge }

  -- ---- internal ports
  module _ (o : TreeOutcome CistVector) (is : IsTreeOutcome cist_rules (cist_of net) o) (vector : ℕ → Option CistVector) (designated : ℕ → Option ℕ) (agrees : Agrees numbers o vector designated) where
    pub internal_same : (p : PortInView) → SeenPort net numbers p → seen_internal v region_ids designated p ≡ (p.is_enabled && is_internal net o.designated (named_port p))
    internal_same p seen = ap (λ t. p.is_enabled && t) (go (designated p.lan_number) (o.designated p.lan) refl refl (agrees.designated_ports p.lan p.lan_number seen.has_numbers.lan))
      where
        go : (x : Option ℕ) (y : Option PortName) → designated p.lan_number ≡ x → o.designated p.lan ≡ y → IsNameOf numbers (designated p.lan_number) (o.designated p.lan)
            → option_map_or (λ q. same_in region_ids q.bridge p.bridge) (option_and_then (λ n. find (λ q. n == q.number) v.ports) (designated p.lan_number)) false ≡ is_internal net o.designated (named_port p)
        go None y e f h =
            let none : o.designated p.lan ≡ None = subst (λ (w : Option ℕ). IsNameOf numbers w (o.designated p.lan)) e h in
            ap (λ w. option_map_or (λ (q : PortInView). same_in region_ids q.bridge p.bridge) (option_and_then (λ n. find (λ (q : PortInView). n == q.number) v.ports) w) false) e
            ∙ sym (ap (λ w. option_map_or (λ (q : PortName). same_region net q.bridge p.name.bridge) w false) none)
        go (Some k) y e f h =
            let named = subst (λ (w : Option ℕ). IsNameOf numbers w (o.designated p.lan)) e h in
            let z = is_there cist_rules (cist_sight net) (cist_is_sight net of.network) o is p.lan named.0 k named.1 named.2 in
            ap (λ w. option_map_or (λ (q : PortInView). same_in region_ids q.bridge p.bridge) (option_and_then (λ n. find (λ (q : PortInView). n == q.number) v.ports) w) false) e
            ∙ ap (λ w. option_map_or (λ (q : PortInView). same_in region_ids q.bridge p.bridge) w false) z.found
            ∙ of.regions.regions named.0.bridge p.name.bridge z.port.bridge p.bridge z.has_bridge seen.has_numbers.bridge
            ∙ sym (ap (λ w. option_map_or (λ (q : PortName). same_region net q.bridge p.name.bridge) w false) named.1)

    pub internal_is_seen : internal_seen v region_ids designated ≡ internal_ports_of net o.designated v
    internal_is_seen = filter_alike (seen_internal v region_ids designated) (λ p. p.is_enabled && is_internal net o.designated (named_port p)) v.ports (all_weaker (SeenPort net numbers) _ internal_same v.ports (ports_seen net numbers v of.view))

  -- ---- the MSTIs
  module _ (tree : ℕ) (designated : List ℕ → Option PortName) where
    msti_bridge_same : (b : BridgeInView) → SeenBridge net numbers b → seen_msti_bridge v tree b ≡ number_bridge (msti_sight net tree designated) b
    msti_bridge_same b seen =
        (λ i. if◌then◌else◌ {A = Option (ℕ × MstiBridge)} ((bridge_row b.bridge).is_on && has_tree_at tree b.name b.bridge.number seen.has_number i) (Some (b.bridge.number, msti_bridge (of.view.settings i) tree b.name (bridge_row b.bridge))) None)
        ∙ go ((bridge_row b.bridge).is_on && has_msti net tree b.name)
      where
        go : (t : Bool) → if◌then◌else◌ {A = Option (ℕ × MstiBridge)} t (Some (b.bridge.number, msti_bridge (by_tree net) tree b.name (bridge_row b.bridge))) None
            ≡ option_map (λ c. (b.bridge.number, c)) (if t then Some (msti_bridge (by_tree net) tree b.name (bridge_row b.bridge)) else None)
        go true = refl
        go false = refl

    msti_port_same : (p : PortInView) → SeenPort net numbers p
        → (if p.is_enabled && is_internal net designated (named_port p) then seen_msti_port v tree p else None) ≡ number_port (msti_sight net tree designated) p
    msti_port_same p seen =
        (λ i. if p.is_enabled && is_internal net designated (named_port p)
        then (if has_tree_at tree p.name.bridge p.bridge seen.has_numbers.bridge i then Some (seen_tree_port p (msti_port (of.view.settings i) tree (named_port p))) else None) else None)
        ∙ go (p.is_enabled && is_internal net designated (named_port p)) (has_msti net tree p.name.bridge)
      where
        go : (s t : Bool) → (if s then (if t then Some (seen_tree_port p (msti_port (by_tree net) tree (named_port p))) else None) else None)
            ≡ option_map (seen_tree_port p) (if s && t then Some (msti_port (by_tree net) tree (named_port p)) else None)
        go true true = refl
        go true false = refl
        go false t = refl

    pub msti_is_seen : (internal : List PortInView) → internal ≡ internal_ports_of net designated v → msti_seen v internal tree ≡ number_tree (msti_sight net tree designated) v
    msti_is_seen internal is = λ i. record { bridges = bridges i; ports = ports i }
      where
        bridges : filter_map (seen_msti_bridge v tree) v.bridges ≡ filter_map (number_bridge (msti_sight net tree designated)) v.bridges
        bridges = kept_same (seen_msti_bridge v tree) (number_bridge (msti_sight net tree designated)) v.bridges (all_weaker (SeenBridge net numbers) _ msti_bridge_same v.bridges (bridges_seen net numbers v of.view))

        ports : filter_map (seen_msti_port v tree) internal ≡ filter_map (number_port (msti_sight net tree designated)) v.ports
        ports =
            ap (filter_map (seen_msti_port v tree)) is
            ∙ filtered_kept (seen_msti_port v tree) (λ p. p.is_enabled && is_internal net designated (named_port p)) v.ports
            ∙ kept_same (λ p. if p.is_enabled && is_internal net designated (named_port p) then seen_msti_port v tree p else None) (number_port (msti_sight net tree designated)) v.ports
            (all_weaker (SeenPort net numbers) _ msti_port_same v.ports (ports_seen net numbers v of.view))
