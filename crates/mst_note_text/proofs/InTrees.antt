-- What is seen of the CIST and of an MSTI is in them.
use Rattle.std.proofs.Common.{◌≡◌, ℕ, zero, suc, ◌==◌, ◌&&◌, Bool, true, false, true≢false, List, Option, Some, None, refl, sym, ap, subst, ◌∙◌, eq-eqb, arith}
use Rattle.std.specs.Prelude.{if◌then◌else◌}
use Rattle.std.specs.List.{Contains, find}
use Rattle.std.specs.Option.{option_map, option_map_or}
use Rattle.std.specs.FinMap as fin
use Rattle.std.proofs.lemmas.Bool.{eqb-true, and_parts, and_from}
use Rattle.mst_ids.specs.Identifiers.{port_id}
use Rattle.mst_vector.specs.Rules.{Rules, IsMetric}
use Rattle.mst_vector.specs.Cist.{cist_rules}
use Rattle.mst_vector.specs.CistLaws.{cist_lawful}
use Rattle.mst_vector.specs.Msti.{msti_rules}
use Rattle.mst_vector.specs.MstiLaws.{msti_lawful}
use Rattle.mst_vector.specs.declared.cist.CistVector.{CistVector}
use Rattle.mst_vector.specs.declared.msti.MstiVector.{MstiVector}
use Rattle.mst_roles.specs.forest.topology.Topology.{HasBridge}
use Rattle.mst_roles.specs.forest.outcome.Assignment.{vector_of, designated_of}
use Rattle.mst_tables.specs.Tables.{Net, Numbers, BridgeRow}
use Rattle.mst_tables.specs.ByTree.{ByTree, by_tree, port_priority_in}
use Rattle.mst_view.specs.Trees.{is_among}
use Rattle.mst_view.specs.Viewed.{Viewed, named_port}
use Rattle.mst_view.specs.declared.in_view.BridgeInView.{BridgeInView}
use Rattle.mst_view.specs.declared.in_view.PortInView.{PortInView}
use Rattle.mst_roles.specs.forest.Sight.{Sight, tree_of}
use Rattle.mst_roles.specs.forest.Cist.{cist_port, cist_sight}
use Rattle.mst_roles.specs.forest.Msti.{msti_bridge, msti_port, msti_sight, has_msti, is_internal}
use Rattle.mst_roles.specs.forest.Seen.{seen_internal, trees_at}
use Rattle.mst_roles.specs.forest.Outcome.{TreeOutcome, IsTreeOutcome, Outcome, trees_of}
use Rattle.mst_roles.specs.forest.Agrees.{Agrees, AreOf}
use Rattle.mst_roles.specs.forest.Forest.{IsForest, msti_vector, msti_designated, designated_in, Forest}
use Rattle.mst_roles.proofs.forest_lemmas.Seen.{bridge_seen, port_seen, bridge_there}
use Rattle.mst_roles.proofs.forest_lemmas.Sights.{IsSight, bridge_from}
use Rattle.mst_roles.proofs.forest_lemmas.Looking.{internal_same, has_tree_at}
use Rattle.mst_roles.proofs.forest_lemmas.CistTopology.{given, cist_is_sight}
use Rattle.mst_roles.proofs.forest_lemmas.MstiTopology.{msti_is_sight, msti_port_is}
use Rattle.mst_roles.specs.forest.nested.Trees.{IsSettled}
use Rattle.mst_note_text.specs.Depths.{HasParent}
use Rattle.mst_note_text.specs.declared.member.Member.{Member}
use Rattle.mst_note_text.specs.SeenTree.{cist_member, msti_member, seen_member, is_root_port}
use Rattle.mst_note_text.proofs.TreeParents.{map_from}
use Rattle.mst_note_text.proofs.Heard.{gives, given_by}
use Rattle.mst_note_text.proofs.Listing.{InTree}
use Rattle.mst_note_text.proofs.RootRole.{came_by, root_in_cist, root_in_msti}

pub not_zero : (i : ℕ) → (suc i == 0) ≡ false
not_zero i = go (suc i == 0) refl
  where
    go : (b : Bool) → (suc i == 0) ≡ b → (suc i == 0) ≡ false
    go false e = e
    go true e = let zero_is : suc i ≡ 0 = eqb-true (suc i) 0 e in absurd (omega arith)

-- a value that an option has and that is another one
tested : (o : Option ℕ) (id : ℕ) → option_map_or (λ r. r == id) o false ≡ true → o ≡ Some id
tested None id e = absurd (true≢false (sym e))
tested (Some r) id e = ap Some (eqb-true r id e)

-- ---- any tree
module _ {B P V : Type 0} (net : Net) (numbers : Numbers) (v : Viewed) (f : Forest) (of : AreOf net numbers v f.regions) (m : Rules B P V) (law : IsMetric m) (s : Sight B P) (sight : IsSight net m s)
    (o : TreeOutcome V) (is : IsTreeOutcome m (tree_of net s) o) (vector : ℕ → Option V) (designated : ℕ → Option ℕ) (agrees : Agrees numbers o vector designated) (receiver : V → ℕ) (tree : ℕ)
    (make : BridgeInView → V → Member) (seen_is : (b : BridgeInView) → seen_member f tree b ≡ option_map (make b) (vector b.bridge.number))
    (designated_is : (lan : ℕ) → designated_in f tree lan ≡ designated lan) where
  -- a bridge of the tree
  abbrev Has : List ℕ → Type 0
  Has a = (b : B) × HasBridge (tree_of net s) a b

  abbrev Parent : List ℕ → List ℕ → Type 0
  Parent a b = HasParent m (tree_of net s) o.vector receiver a b

  pub has_of : (b : BridgeInView) → Contains v.bridges b → (x : Member) → seen_member f tree b ≡ Some x → Has b.name
  has_of b there x e =
      let k = map_from (make b) (vector b.bridge.number) x (sym (seen_is b) ∙ e) in
      is.settled.is_bridge b.name k.0 (sym (agrees.vectors b.name b.bridge.number (bridge_seen net numbers v of.view b there).has_number) ∙ k.1)

  pub made : (b : BridgeInView) (x : Member) → seen_member f tree b ≡ Some x → (y : V) × (make b y ≡ x)
  made b x e = let k = map_from (make b) (vector b.bridge.number) x (sym (seen_is b) ∙ e) in (k.0, k.2)

  pub member_of : (a : List ℕ) → Has a → (b : BridgeInView) × Contains v.bridges b × (b.name ≡ a) × ((x : Member) × (seen_member f tree b ≡ Some x))
  member_of a h =
      let r = bridge_from net of.network m s sight a h.0 h.1 in
      let b = bridge_there net numbers v of.view a r.row r.has_row in
      let name : b.0.name ≡ a = ap (λ (q : List ℕ × BridgeRow). q.0) b.2 in
      let x = is.settled.has_vector a h.0 h.1 in
      (b.0, b.1, name, (make b.0 x.0, seen_is b.0 ∙ ap (option_map (make b.0)) (agrees.vectors b.0.name b.0.bridge.number (bridge_seen net numbers v of.view b.0 b.1).has_number ∙ ap o.vector name ∙ x.1)))

  pub ends_of : (a b : List ℕ) → Parent a b → Has a × Has b
  ends_of a b h = (
    is.settled.is_bridge a h.is_root.vector (ap o.vector (sym h.on_bridge) ∙ h.is_root.is_vector),
    subst Has h.is_bridge (h.designates.says.bridge, h.designates.says.has_bridge),
  )

  -- a root port by number
  pub record RootPort (q : PortInView) : Type 0 where
    pub settings : P
    pub is_settings : s.port (named_port q) ≡ Some settings
    pub root : V
    pub is_vector : vector q.bridge ≡ Some root
    pub came_by : receiver root ≡ m.port_id settings

  module _ (to : (q : PortInView) → Contains v.ports q → is_root_port v f tree q ≡ true → RootPort q) (from : (q : PortInView) → Contains v.ports q → RootPort q → is_root_port v f tree q ≡ true) where
    pub gives_of : (q r : PortInView) (k : ℕ) → Contains v.ports q → is_root_port v f tree q ≡ true → designated_in f tree q.lan_number ≡ Some k → find (λ (x : PortInView). k == x.number) v.ports ≡ Some r
        → (b : List ℕ) × Parent q.name.bridge b × (fin.get numbers.bridges b ≡ Some r.bridge)
    gives_of q r k there root des found =
        let p = to q there root in
        let g = gives net numbers v f.regions of m law s sight o is vector designated agrees receiver q r there (record {
          settings = p.settings;
          is_settings = p.is_settings;
          root = p.root;
          is_vector = p.is_vector;
          came_by = p.came_by;
          number = k;
          designates = sym (designated_is q.lan_number) ∙ des;
          found = found;
        }) in
        (g.parent, g.is_parent, g.has_number)

    pub given_of : (a b : List ℕ) → Parent a b → (q : PortInView) × Contains v.ports q × (q.name.bridge ≡ a) × ((r : PortInView) × ((k : ℕ) × (is_root_port v f tree q ≡ true) × (designated_in f tree q.lan_number ≡ Some k)
        × (find (λ (x : PortInView). k == x.number) v.ports ≡ Some r) × (fin.get numbers.bridges b ≡ Some r.bridge)))
    given_of a b h =
        let g = given_by net numbers v f.regions of m law s sight o is vector designated agrees receiver a b h in
        let r = g.is_root in (
          g.port,
          g.there,
          g.on_bridge,
          (
            g.designated_port,
            (
              r.number,
              from g.port g.there (record { settings = r.settings; is_settings = r.is_settings; root = r.root; is_vector = r.is_vector; came_by = r.came_by }),
              designated_is g.port.lan_number ∙ r.designates,
              r.found,
              g.has_number,
            ),
          ),
        )

module _ (net : Net) (numbers : Numbers) (v : Viewed) (f : Forest) (of : AreOf net numbers v f.regions) (is : IsForest net numbers f) where
  abbrev o : Outcome
  o = is.outcome

  -- ---- the CIST
  cist_id : (q : PortInView) → port_id (port_priority_in v.settings.port_priorities q.name 0) q.name.number ≡ (cist_port (by_tree net) (named_port q)).id
  cist_id q = ap (λ (set : ByTree). port_id (port_priority_in set.port_priorities q.name 0) q.name.number) of.view.settings

  abbrev CistRoot : PortInView → Type 0
  CistRoot = RootPort net numbers v f of cist_rules cist_lawful (cist_sight net) (cist_is_sight net of.network) o.cist is.is_outcome.cist (vector_of f.cist) (designated_of f.cist) is.cist (λ x. x.receiver) 0 cist_member (λ b. refl) (λ lan. refl)

  cist_to : (q : PortInView) → Contains v.ports q → is_root_port v f 0 q ≡ true → CistRoot q
  cist_to q there e =
      let p = and_parts q.is_enabled (came_by (option_map (λ (x : CistVector). x.receiver) (vector_of f.cist q.bridge)) (cist_port v.settings (named_port q)).id) (sym (root_in_cist v f q) ∙ e) in
      let r = map_from (λ (x : CistVector). x.receiver) (vector_of f.cist q.bridge) (port_id (port_priority_in v.settings.port_priorities q.name 0) q.name.number)
      (tested (option_map (λ (x : CistVector). x.receiver) (vector_of f.cist q.bridge)) (port_id (port_priority_in v.settings.port_priorities q.name 0) q.name.number) p.1) in
      record {
        settings = cist_port (by_tree net) (named_port q);
        is_settings = ap (λ (b : Bool). if b then Some (cist_port (by_tree net) (named_port q)) else None) p.0;
        root = r.0;
        is_vector = r.1;
        came_by = r.2 ∙ cist_id q;
      }

  cist_from : (q : PortInView) → Contains v.ports q → CistRoot q → is_root_port v f 0 q ≡ true
  cist_from q there r =
      let p = given q.is_enabled (cist_port (by_tree net) (named_port q)) r.settings r.is_settings in
      root_in_cist v f q
      ∙ and_from q.is_enabled (came_by (option_map (λ (x : CistVector). x.receiver) (vector_of f.cist q.bridge)) (cist_port v.settings (named_port q)).id) p.0
      (ap (λ (w : Option CistVector). option_map_or (λ k. k == port_id (port_priority_in v.settings.port_priorities q.name 0) q.name.number) (option_map (λ x. x.receiver) w) false) r.is_vector
      ∙ eq-eqb r.root.receiver (port_id (port_priority_in v.settings.port_priorities q.name 0) q.name.number) (r.came_by ∙ ap (λ c. cist_rules.port_id c) (sym p.1) ∙ sym (cist_id q)))

  pub in_cist : InTree net numbers v f o of 0
  in_cist = record {
    has = has_of net numbers v f of cist_rules cist_lawful (cist_sight net) (cist_is_sight net of.network) o.cist is.is_outcome.cist (vector_of f.cist) (designated_of f.cist) is.cist (λ x. x.receiver) 0 cist_member (λ b. refl) (λ lan. refl);
    names = λ b x e.
        let y = made net numbers v f of cist_rules cist_lawful (cist_sight net) (cist_is_sight net of.network) o.cist is.is_outcome.cist (vector_of f.cist) (designated_of f.cist) is.cist (λ x. x.receiver) 0 cist_member (λ b. refl) (λ lan. refl) b x e in
        (ap (λ (z : Member). z.name) (sym y.1), ap (λ (z : Member). z.number) (sym y.1));
    member = member_of net numbers v f of cist_rules cist_lawful (cist_sight net) (cist_is_sight net of.network) o.cist is.is_outcome.cist (vector_of f.cist) (designated_of f.cist) is.cist (λ x. x.receiver) 0 cist_member (λ b. refl) (λ lan. refl);
    in_cist = λ a h. h;
    ends = ends_of net numbers v f of cist_rules cist_lawful (cist_sight net) (cist_is_sight net of.network) o.cist is.is_outcome.cist (vector_of f.cist) (designated_of f.cist) is.cist (λ x. x.receiver) 0 cist_member (λ b. refl) (λ lan. refl);
    gives = gives_of net numbers v f of cist_rules cist_lawful (cist_sight net) (cist_is_sight net of.network) o.cist is.is_outcome.cist (vector_of f.cist) (designated_of f.cist) is.cist (λ x. x.receiver) 0 cist_member (λ b. refl) (λ lan. refl) cist_to cist_from;
    given_by = given_of net numbers v f of cist_rules cist_lawful (cist_sight net) (cist_is_sight net of.network) o.cist is.is_outcome.cist (vector_of f.cist) (designated_of f.cist) is.cist (λ x. x.receiver) 0 cist_member (λ b. refl) (λ lan. refl) cist_to cist_from;
  }

  -- ---- an MSTI
  module _ (i : ℕ) where
    abbrev tree : ℕ
    tree = suc i

    pub member_is : (b : BridgeInView) → seen_member f tree b ≡ option_map (msti_member b) (msti_vector f tree b.bridge.number)
    member_is b = ap (λ (t : Bool). if t then option_map (cist_member b) (vector_of f.cist b.bridge.number) else option_map (msti_member b) (msti_vector f tree b.bridge.number)) (not_zero i)

    port_is : (lan : ℕ) → designated_in f tree lan ≡ msti_designated f tree lan
    port_is lan = ap (λ (t : Bool). if t then designated_of f.cist lan else msti_designated f tree lan) (not_zero i)

    abbrev internal : PortInView → Bool
    internal q = seen_internal v f.regions (designated_of f.cist) q

    abbrev receiver : PortInView → Option ℕ
    receiver q = option_map (λ (x : MstiVector). x.receiver) (msti_vector f tree q.bridge)

    abbrev id : PortInView → ℕ
    id q = port_id (port_priority_in v.settings.port_priorities q.name tree) q.name.number

    msti_id : (q : PortInView) → id q ≡ (msti_port (by_tree net) tree (named_port q)).id
    msti_id q = ap (λ (set : ByTree). port_id (port_priority_in set.port_priorities q.name tree) q.name.number) of.view.settings

    internal_is : (q : PortInView) → Contains v.ports q → seen_internal v f.regions (designated_of f.cist) q ≡ (q.is_enabled && is_internal net o.cist.designated (named_port q))
    internal_is q there = internal_same net numbers v f.regions of o.cist is.is_outcome.cist (vector_of f.cist) (designated_of f.cist) is.cist q (port_seen net numbers v of.view q there)

    has_there : (q : PortInView) → Contains v.ports q → is_among (trees_at v q.bridge) tree ≡ has_msti net tree q.name.bridge
    has_there q there = has_tree_at net numbers v f.regions of tree q.name.bridge q.bridge (port_seen net numbers v of.view q there).has_numbers.bridge

    abbrev MstiRoot : PortInView → Type 0
    MstiRoot = RootPort net numbers v f of msti_rules msti_lawful (msti_sight net tree o.cist.designated) (msti_is_sight net of.network tree o.cist.designated) (o.msti tree) (is.is_outcome.mstis tree) (msti_vector f tree) (msti_designated f tree) (is.mstis tree) (λ x. x.receiver) tree msti_member member_is port_is

    -- a bridge with a vector has the tree
    pub had : (a : List ℕ) (x : MstiVector) → (o.msti tree).vector a ≡ Some x → has_msti net tree a ≡ true
    had a x e =
        let h = (is.is_outcome.mstis tree).settled.is_bridge a x e in
        let b = bridge_from net of.network msti_rules (msti_sight net tree o.cist.designated) (msti_is_sight net of.network tree o.cist.designated) a h.0 h.1 in
        (and_parts b.row.is_on (has_msti net tree a) (given (b.row.is_on && has_msti net tree a) (msti_bridge (by_tree net) tree a b.row) h.0 b.seen).0).1

    msti_to : (q : PortInView) → Contains v.ports q → is_root_port v f tree q ≡ true → MstiRoot q
    msti_to q there e =
        let h = and_parts (is_among (trees_at v q.bridge) tree) (q.is_enabled && (internal q && came_by (receiver q) (id q))) (sym (root_in_msti v f q tree (not_zero i)) ∙ e) in
        let p = and_parts (internal q) (came_by (receiver q) (id q)) (and_parts q.is_enabled (internal q && came_by (receiver q) (id q)) h.1).1 in
        let r = map_from (λ (x : MstiVector). x.receiver) (msti_vector f tree q.bridge) (id q) (tested (receiver q) (id q) p.1) in
        record {
          settings = msti_port (by_tree net) tree (named_port q);
          is_settings = ap (λ (b : Bool). if b then Some (msti_port (by_tree net) tree (named_port q)) else None)
              (and_from (q.is_enabled && is_internal net o.cist.designated (named_port q)) (has_msti net tree q.name.bridge) (sym (internal_is q there) ∙ p.0) (sym (has_there q there) ∙ h.0));
          root = r.0;
          is_vector = r.1;
          came_by = r.2 ∙ msti_id q;
        }

    msti_from : (q : PortInView) → Contains v.ports q → MstiRoot q → is_root_port v f tree q ≡ true
    msti_from q there r =
        let p = msti_port_is net of.network tree o.cist.designated (named_port q) r.settings r.is_settings in
        root_in_msti v f q tree (not_zero i)
        ∙ and_from (is_among (trees_at v q.bridge) tree) (q.is_enabled && (internal q && came_by (receiver q) (id q))) (has_there q there ∙ p.has_tree)
        (and_from q.is_enabled (internal q && came_by (receiver q) (id q)) p.is_enabled
        (and_from (internal q) (came_by (receiver q) (id q)) (internal_is q there ∙ and_from q.is_enabled (is_internal net o.cist.designated (named_port q)) p.is_enabled p.internal)
        (ap (λ (w : Option MstiVector). came_by (option_map (λ x. x.receiver) w) (id q)) r.is_vector
        ∙ eq-eqb r.root.receiver (id q) (r.came_by ∙ ap (λ c. msti_rules.port_id c) (sym p.is) ∙ sym (msti_id q)))))

    pub in_msti : IsSettled (trees_of net o) → InTree net numbers v f o of tree
    in_msti settled = record {
      has = has_of net numbers v f of msti_rules msti_lawful (msti_sight net tree o.cist.designated) (msti_is_sight net of.network tree o.cist.designated) (o.msti tree) (is.is_outcome.mstis tree) (msti_vector f tree) (msti_designated f tree) (is.mstis tree) (λ x. x.receiver) tree msti_member member_is port_is;
      names = λ b x e.
          let y = made net numbers v f of msti_rules msti_lawful (msti_sight net tree o.cist.designated) (msti_is_sight net of.network tree o.cist.designated) (o.msti tree) (is.is_outcome.mstis tree) (msti_vector f tree) (msti_designated f tree) (is.mstis tree) (λ x. x.receiver) tree msti_member member_is port_is b x e in
          (ap (λ (z : Member). z.name) (sym y.1), ap (λ (z : Member). z.number) (sym y.1));
      member = member_of net numbers v f of msti_rules msti_lawful (msti_sight net tree o.cist.designated) (msti_is_sight net of.network tree o.cist.designated) (o.msti tree) (is.is_outcome.mstis tree) (msti_vector f tree) (msti_designated f tree) (is.mstis tree) (λ x. x.receiver) tree msti_member member_is port_is;
      in_cist = (settled.nested i).bridges;
      ends = ends_of net numbers v f of msti_rules msti_lawful (msti_sight net tree o.cist.designated) (msti_is_sight net of.network tree o.cist.designated) (o.msti tree) (is.is_outcome.mstis tree) (msti_vector f tree) (msti_designated f tree) (is.mstis tree) (λ x. x.receiver) tree msti_member member_is port_is;
      gives = gives_of net numbers v f of msti_rules msti_lawful (msti_sight net tree o.cist.designated) (msti_is_sight net of.network tree o.cist.designated) (o.msti tree) (is.is_outcome.mstis tree) (msti_vector f tree) (msti_designated f tree) (is.mstis tree) (λ x. x.receiver) tree msti_member member_is port_is msti_to msti_from;
      given_by = given_of net numbers v f of msti_rules msti_lawful (msti_sight net tree o.cist.designated) (msti_is_sight net of.network tree o.cist.designated) (o.msti tree) (is.is_outcome.mstis tree) (msti_vector f tree) (msti_designated f tree) (is.mstis tree) (λ x. x.receiver) tree msti_member member_is port_is msti_to msti_from;
    }

  pub in_tree : IsSettled (trees_of net o) → (tree : ℕ) → InTree net numbers v f o of tree
  in_tree settled zero = in_cist
  in_tree settled (suc i) = in_msti i settled
