-- The root ports of a tree by number, and the parents that they give by name.
use Rattle.std.proofs.Common.{◌≡◌, ℕ, ◌==◌, List, Option, Some, None, refl, sym, ap, subst, ◌∙◌}
use Rattle.std.specs.List.{Contains, find}
use Rattle.std.specs.FinMap as fin
use Rattle.mst_ids.specs.declared.name.PortName.{PortName}
use Rattle.mst_vector.specs.Rules.{Rules, IsMetric}
use Rattle.mst_roles.specs.forest.topology.Topology.{TreePort}
use Rattle.mst_roles.specs.forest.topology.Settled.{IsDesignated, Designates}
use Rattle.mst_roles.proofs.forest_lemmas.topology_lemmas.Below.{one_designated}
use Rattle.mst_tables.specs.Tables.{Net, Numbers}
use Rattle.mst_view.specs.View.{LogicalPort}
use Rattle.mst_view.specs.Viewed.{Viewed, named_port}
use Rattle.mst_view.specs.declared.in_view.PortInView.{PortInView}
use Rattle.mst_roles.specs.forest.Sight.{Sight, tree_of, tree_port}
use Rattle.mst_roles.specs.forest.Outcome.{TreeOutcome, IsTreeOutcome}
use Rattle.mst_roles.specs.forest.Agrees.{Agrees, IsNameOf, AreOf}
use Rattle.mst_roles.proofs.forest_lemmas.Lists.{some_is, no_some}
use Rattle.mst_roles.proofs.forest_lemmas.Sights.{IsSight, PortOf, port_from, port_in, is_topology}
use Rattle.mst_roles.proofs.forest_lemmas.Seen.{SeenPort, port_seen, port_there, port_of_net}
use Rattle.mst_roles.proofs.forest_lemmas.Looking.{IsThere, is_there}
use Rattle.mst_note_text.specs.Depths.{HasParent}

module _ {B P V : Type 0} (net : Net) (numbers : Numbers) (v : Viewed) (region_ids : List (ℕ × ℕ)) (of : AreOf net numbers v region_ids) (m : Rules B P V) (law : IsMetric m) (s : Sight B P) (sight : IsSight net m s)
    (o : TreeOutcome V) (is : IsTreeOutcome m (tree_of net s) o) (vector : ℕ → Option V) (designated : ℕ → Option ℕ) (agrees : Agrees numbers o vector designated) (receiver : V → ℕ) where
  -- a port is a root port by number, and the designated port of its LAN is found
  pub record IsRoot (q r : PortInView) : Type 0 where
    pub settings : P
    pub is_settings : s.port (named_port q) ≡ Some settings
    pub root : V
    pub is_vector : vector q.bridge ≡ Some root
    pub came_by : receiver root ≡ m.port_id settings
    pub number : ℕ
    pub designates : designated q.lan_number ≡ Some number
    pub found : find (λ (x : PortInView). number == x.number) v.ports ≡ Some r

  -- then its bridge has a parent, and this one has the number of the designated port's bridge
  pub record GivesParent (q r : PortInView) : Type 0 where
    pub parent : List ℕ
    pub is_parent : HasParent m (tree_of net s) o.vector receiver q.name.bridge parent
    pub has_number : fin.get numbers.bridges parent ≡ Some r.bridge

  -- the designated port of a LAN is on the bridge of its name
  on_named : (lan : List ℕ) (nm : PortName) (p : TreePort (List ℕ) (List ℕ) PortName P) (x : V) → p.number ≡ nm → Designates m (tree_of net s) o.vector lan p x → p.bridge ≡ nm.bridge
  on_named lan nm p x number d =
      let z = port_from net of.network m s sight p d.says.has_port in
      sym (ap (λ (y : TreePort (List ℕ) (List ℕ) PortName P). y.bridge) z.is) ∙ ap (λ (y : TreePort (List ℕ) (List ℕ) PortName P). y.number.bridge) z.is ∙ ap (λ (n : PortName). n.bridge) number

  found_bridge : (nm : PortName) (k : ℕ) (r : PortInView) → IsThere net numbers v region_ids of nm k → find (λ (x : PortInView). k == x.number) v.ports ≡ Some r → fin.get numbers.bridges nm.bridge ≡ Some r.bridge
  found_bridge nm k r z found = z.has_bridge ∙ ap (λ (x : PortInView). Some x.bridge) (some_is z.port r (sym z.found ∙ found))

  pub gives : (q r : PortInView) → Contains v.ports q → IsRoot q r → GivesParent q r
  gives q r there h =
      let seen = port_seen net numbers v of.view q there in
      let named = subst (λ (w : Option ℕ). IsNameOf numbers w (o.designated q.lan)) h.designates (agrees.designated_ports q.lan q.lan_number seen.has_numbers.lan) in
      let des = subst (λ w. IsDesignated m (tree_of net s) o.vector q.lan w) named.1 (is.designated q.lan) in
      let z = is_there net numbers v region_ids of m s sight o is q.lan named.0 h.number named.1 named.2 in
      record {
        parent = named.0.bridge;
        is_parent = record {
          port = tree_port (named_port q) h.settings;
          is_root = record {
            part = (port_in net of.network m s sight (named_port q) h.settings (port_of_net net numbers v of.view q there) h.is_settings, refl);
            vector = h.root;
            is_vector = sym (agrees.vectors q.name.bridge q.bridge seen.has_numbers.bridge) ∙ h.is_vector;
            came_by = h.came_by;
          };
          on_bridge = refl;
          from = des.0;
          message = des.1;
          designates = des.3;
          is_bridge = on_named q.lan named.0 des.0 des.1 des.2 des.3;
        };
        has_number = found_bridge named.0 h.number r z h.found;
      }

  -- each parent is given so
  pub record GivenBy (a b : List ℕ) : Type 0 where
    pub port : PortInView
    pub there : Contains v.ports port
    pub on_bridge : port.name.bridge ≡ a
    pub designated_port : PortInView
    pub is_root : IsRoot port designated_port
    pub has_number : fin.get numbers.bridges b ≡ Some designated_port.bridge

  module _ (a b : List ℕ) (h : HasParent m (tree_of net s) o.vector receiver a b) where
    abbrev pf : PortOf net s h.port
    pf = port_from net of.network m s sight h.port h.is_root.part.0

    abbrev q : PortInView
    q = (port_there net numbers v of.view pf.port pf.there).0

    q_there : Contains v.ports q
    q_there = (port_there net numbers v of.view pf.port pf.there).1

    q_is : named_port q ≡ pf.port
    q_is = (port_there net numbers v of.view pf.port pf.there).2

    seen_q : SeenPort net numbers q
    seen_q = port_seen net numbers v of.view q q_there

    name_is : q.name.bridge ≡ h.port.bridge
    name_is = ap (λ (x : LogicalPort). x.name.bridge) q_is ∙ ap (λ (x : TreePort (List ℕ) (List ℕ) PortName P). x.bridge) pf.is

    lan_is : h.port.lan ≡ q.lan
    lan_is = sym (ap (λ (x : LogicalPort). x.lan) q_is ∙ ap (λ (x : TreePort (List ℕ) (List ℕ) PortName P). x.lan) pf.is)

    -- the LAN's designated port, by the port's LAN
    designates_here : Designates m (tree_of net s) o.vector q.lan h.from h.message
    designates_here = subst (λ lan. Designates m (tree_of net s) o.vector lan h.from h.message) lan_is h.designates

    with_name : (nm : PortName) → o.designated q.lan ≡ Some nm → (k : ℕ) → designated q.lan_number ≡ Some k → fin.get numbers.ports nm ≡ Some k → GivenBy a b
    with_name nm e k f has =
        let z = is_there net numbers v region_ids of m s sight o is q.lan nm k e has in
        let des = subst (λ w. IsDesignated m (tree_of net s) o.vector q.lan w) e (is.designated q.lan) in
        let one : h.from ≡ des.0 = one_designated m law (tree_of net s) (is_topology net of.network m s sight) o.vector q.lan h.from des.0 h.message des.1 designates_here des.3 in
        let bridge : b ≡ nm.bridge = sym h.is_bridge ∙ ap (λ (x : TreePort (List ℕ) (List ℕ) PortName P). x.bridge) one ∙ on_named q.lan nm des.0 des.1 des.2 des.3 in
        record {
          port = q;
          there = q_there;
          on_bridge = name_is ∙ h.on_bridge;
          designated_port = z.port;
          is_root = record {
            settings = pf.settings;
            is_settings = ap s.port q_is ∙ pf.seen;
            root = h.is_root.vector;
            is_vector = agrees.vectors q.name.bridge q.bridge seen_q.has_numbers.bridge ∙ ap o.vector name_is ∙ h.is_root.is_vector;
            came_by = h.is_root.came_by ∙ ap (λ (x : TreePort (List ℕ) (List ℕ) PortName P). m.port_id x.settings) (sym pf.is);
            number = k;
            designates = f;
            found = z.found;
          };
          has_number = ap (fin.get numbers.bridges) bridge ∙ z.has_bridge;
        }

    with_number : (nm : PortName) → o.designated q.lan ≡ Some nm → (w : Option ℕ) → designated q.lan_number ≡ w → IsNameOf numbers w (o.designated q.lan) → GivenBy a b
    with_number nm e None f none = absurd (no_some nm (sym none ∙ e))
    with_number nm e (Some k) f named = with_name named.0 named.1 k f named.2

    by_designated : (w : Option PortName) → o.designated q.lan ≡ w → IsDesignated m (tree_of net s) o.vector q.lan w → GivenBy a b
    by_designated None e silent = absurd (silent h.from h.message designates_here.on_lan designates_here.says)
    by_designated (Some nm) e d = with_number nm e (designated q.lan_number) refl (agrees.designated_ports q.lan q.lan_number seen_q.has_numbers.lan)

    pub given_by : GivenBy a b
    given_by = by_designated (o.designated q.lan) refl (is.designated q.lan)
