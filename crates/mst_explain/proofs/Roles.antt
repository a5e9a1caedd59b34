-- The role of an enabled port is the one that its explanation tells.
use Rattle.std.proofs.Common.{◌≡◌, ℕ, ◌==◌, ◌&&◌, Bool, true, false, List, Option, Some, None, inl, inr, refl, sym, ap, subst, ◌∙◌, true≢false, eq-eqb}
use Rattle.std.specs.Prelude.{◌≢◌, ◌↔◌, if◌then◌else◌}
use Rattle.std.specs.List.{Contains}
use Rattle.std.specs.Option.{option_map, option_map_or}
use Rattle.std.specs.Ordering.{is_gt}
use Rattle.std.specs.Cmp.Lexicographic.{bytes_decides}
use Rattle.std.proofs.lemmas.Bool.{eqb-true}
use Rattle.mst_ids.specs.declared.name.PortName.{PortName}
use Rattle.mst_vector.specs.Rules.{Rules, IsMetric}
use Rattle.mst_vector.specs.Cist.{cist_rules}
use Rattle.mst_vector.specs.CistLaws.{cist_lawful}
use Rattle.mst_vector.specs.Msti.{msti_rules}
use Rattle.mst_vector.specs.MstiLaws.{msti_lawful}
use Rattle.mst_roles.specs.forest.topology.Topology.{TreePort, Topology, IsTopology, HasBridge, HasPort}
use Rattle.mst_roles.specs.forest.topology.Settled.{IsDesignatedVector, Designates, IsDesignated, IsVectorOf}
use Rattle.mst_roles.proofs.forest_lemmas.topology_lemmas.Below.{one_speaker, one_designated}
use Rattle.mst_roles.proofs.forest_lemmas.topology_lemmas.Orders.{both}
use Rattle.mst_tables.specs.Tables.{Net, IsNetwork, port_eq}
use Rattle.mst_tables.specs.ByTree.{by_tree}
use Rattle.mst_view.specs.Aggregation.{same_name}
use Rattle.mst_view.specs.View.{LogicalPort, view_ports}
use Rattle.mst_roles.specs.forest.Sight.{Sight, tree_port, tree_of}
use Rattle.mst_roles.specs.forest.Cist.{cist_port, cist_sight, cist_of}
use Rattle.mst_roles.specs.forest.Msti.{msti_port, msti_sight, msti_of, has_msti, is_internal}
use Rattle.mst_roles.specs.forest.Outcome.{TreeOutcome, IsTreeOutcome, Outcome, IsOutcome}
use Rattle.mst_roles.proofs.forest_lemmas.Lists.{some_is, no_some, all_contained}
use Rattle.mst_roles.proofs.forest_lemmas.Views.{IsPort, ports_are}
use Rattle.mst_roles.proofs.forest_lemmas.Sights.{IsSight, bridge_in, port_in, port_from, is_topology, has_port_ids}
use Rattle.mst_roles.proofs.forest_lemmas.CistTopology.{cist_is_sight}
use Rattle.mst_roles.proofs.forest_lemmas.MstiTopology.{msti_is_sight}
use Rattle.mst_roles.specs.Roles.{beside, role_by, outside, cist_role, msti_role}
use Rattle.mst_roles.specs.declared.kind.Role.{Role}
use Rattle.mst_roles.specs.declared.kind.Role.TheVariants.{Root, Designated, Alternate, Backup, Master, Disabled}
use Rattle.mst_roles.proofs.Named.{port_is, port_same}
use Rattle.mst_explain.specs.Contest.{IsFirst, IsDesignatedVectorOn, Gives}
use Rattle.mst_explain.specs.AsTold.{IsDesignatedOn, GivesRoot, IsAsTold}
use Rattle.mst_explain.proofs.OneText.{TellsReceiver, receiver_of, cist_tells, msti_tells}

-- roles are told apart
abbrev number_of : Role → ℕ
number_of Root = 0
number_of Designated = 1
number_of Alternate = 2
number_of Backup = 3
number_of Master = 4
number_of Disabled = 5

apart : (a b : Role) → (number_of a == number_of b) ≡ false → a ≡ b → ⊥
apart a b e same = true≢false (sym (eq-eqb (number_of a) (number_of b) (ap number_of same)) ∙ e)

module _ {B P V : Type 0} (net : Net) (ok : IsNetwork net) (m : Rules B P V) (law : IsMetric m) (receiver : V → ℕ) (tells : TellsReceiver m receiver) (s : Sight B P) (sight : IsSight net m s)
    (o : TreeOutcome V) (is : IsTreeOutcome m (tree_of net s) o) (p : LogicalPort) (here : Contains (view_ports net) p) (settings : P) (has_settings : s.port p ≡ Some settings) where
  abbrev t : Topology (List ℕ) (List ℕ) PortName B P
  t = tree_of net s

  abbrev Key : Type 0
  Key = TreePort (List ℕ) (List ℕ) PortName P

  topology : IsTopology m t
  topology = is_topology net ok m s sight

  abbrev key : Key
  key = tree_port p settings

  there : HasPort t key
  there = port_in net ok m s sight p settings here has_settings

  abbrev id : ℕ
  id = m.port_id settings

  -- the bridge is in the tree
  bridge : (b : B) × HasBridge t p.name.bridge b
  bridge =
      let b = sight.own_bridge p settings (all_contained (IsPort net) (view_ports net) p (ports_are net) here) has_settings in
      (b.0, bridge_in net ok m s sight p.name.bridge b.0 b.1)

  root : (x : V) × (o.vector p.name.bridge ≡ Some x)
  root = is.settled.has_vector p.name.bridge bridge.0 bridge.1

  best : IsVectorOf m t o.vector p.name.bridge bridge.0 root.0
  best = is.settled.bridges p.name.bridge bridge.0 root.0 bridge.1 root.1

  -- ---- the designated port
  designated_to : (q : PortName) → o.designated p.lan ≡ Some q → IsDesignatedOn m t o p q
  designated_to q e =
      let d = subst (λ (x : Option PortName). IsDesignated m t o.vector p.lan x) e (is.designated p.lan) in
      (d.1, record { has = (d.0, d.2, d.3.on_lan, d.3.says); upto = upto d.1 d.3.upto })
    where
      upto : (x : V) → ((r : Key) (y : V) → r.lan ≡ p.lan → IsDesignatedVector m t o.vector r y → is_gt (m.order x y) ≡ false) → (k : Option PortName) (y : V) → IsDesignatedVectorOn m t o.vector p.lan k y → is_gt (m.order x y) ≡ false
      upto x low None y h = absurd h
      upto x low (Some k) y h = low h.0 y h.2 h.3

  designated_back : (q : PortName) → IsDesignatedOn m t o p q → o.designated p.lan ≡ Some q
  designated_back q h = go (o.designated p.lan) refl (is.designated p.lan)
    where
      go : (d : Option PortName) → o.designated p.lan ≡ d → IsDesignated m t o.vector p.lan d → o.designated p.lan ≡ Some q
      go None e k = let f = h.1.has in absurd (k f.0 h.0 f.2 f.3)
      go (Some d) e k =
          let f = h.1.has in
          let messages : h.0 ≡ k.1 = law.equal h.0 k.1 (both law.total h.0 k.1 (h.1.upto (Some d) k.1 (k.0, k.2, k.3.on_lan, k.3.says)) (k.3.upto f.0 h.0 f.2 f.3)) in
          let ports : f.0 ≡ k.0 = one_speaker m law t topology o.vector o.vector f.0 k.0 k.1 (subst (IsDesignatedVector m t o.vector f.0) messages f.3) k.3.says in
          e ∙ ap Some (sym k.2 ∙ ap (λ (y : Key). y.number) (sym ports) ∙ f.1)

  -- ---- whose vector is the bridge's
  abbrev came_by : Bool
  came_by = option_map_or (λ r. r == id) (option_map receiver (o.vector p.name.bridge)) false

  came : came_by ≡ (receiver root.0 == id)
  came = ap (λ (x : Option V). option_map_or (λ r. r == id) (option_map receiver x) false) root.1

  gives_to : came_by ≡ true → GivesRoot m t o p
  gives_to e = elim best.can_take [
    | inl own ↦ absurd (has_port_ids net ok m s sight key there (sym by ∙ ap receiver own ∙ tells.own bridge.0))
    | inr step ↦
        let port : step.port ≡ key =
        topology.port_ids step.port key step.has_port step.is_part there refl step.on_bridge (sym (receiver_of m law receiver tells t topology (has_port_ids net ok m s sight) o.vector p.name.bridge bridge.0 root.0 step) ∙ by) in
        (bridge.0, root.0, bridge.1, record { has = (step, ap (λ (y : Key). y.number) port); upto = upto })
  ]
    where
      by : receiver root.0 ≡ id
      by = eqb-true (receiver root.0) id (sym came ∙ e)

      upto : (k : Option PortName) (y : V) → Gives m t o.vector p.name.bridge bridge.0 k y → is_gt (m.order root.0 y) ≡ false
      upto None y h = best.upto y (inl h)
      upto (Some k) y h = best.upto y (inr h.0)

  gives_back : GivesRoot m t o p → came_by ≡ true
  gives_back g =
      let b : g.0 ≡ bridge.0 = topology.one_bridge p.name.bridge g.0 bridge.0 g.2 bridge.1 in
      by g.1 (subst (λ c. IsFirst m (Gives m t o.vector p.name.bridge c) (Some p.name) g.1) b g.3)
    where
      by : (x : V) → IsFirst m (Gives m t o.vector p.name.bridge bridge.0) (Some p.name) x → came_by ≡ true
      by x first =
          let step = first.has.0 in
          let port : step.port ≡ key = topology.one_port step.port key step.has_port there first.has.1 in
          let low : is_gt (m.order x root.0) ≡ false = elim best.can_take [ inl own ↦ first.upto None root.0 own | inr other ↦ first.upto (Some other.port.number) root.0 (other, refl) ] in
          let same : x ≡ root.0 = law.equal x root.0 (both law.total x root.0 low (best.upto x (inr step))) in
          came ∙ eq-eqb (receiver root.0) id
          (ap receiver (sym same) ∙ receiver_of m law receiver tells t topology (has_port_ids net ok m s sight) o.vector p.name.bridge bridge.0 x step ∙ ap (λ (y : Key). m.port_id y.settings) port)

  -- a port that gives it isn't on a LAN whose designated port is on its own bridge
  elsewhere : came_by ≡ true → (q : PortName) → q.bridge ≡ p.name.bridge → o.designated p.lan ≡ Some q → ⊥
  elsewhere e q on d =
      let g = gives_to e in
      let step = g.3.has.0 in
      let port : step.port ≡ key = topology.one_port step.port key step.has_port there g.3.has.1 in
      let h = subst (λ (x : Option PortName). IsDesignated m t o.vector p.lan x) d (is.designated p.lan) in
      let there_too : Designates m t o.vector p.lan step.from step.message = subst (λ (y : Key). Designates m t o.vector y.lan step.from step.message) port step.designates in
      let from : step.from ≡ h.0 = one_designated m law t topology o.vector p.lan step.from h.0 step.message h.1 there_too h.3 in
      let x = port_from net ok m s sight h.0 h.3.says.has_port in
      let name : h.0.bridge ≡ q.bridge = ap (λ (y : Key). y.bridge) (sym x.is) ∙ ap (λ (n : PortName). n.bridge) (ap (λ (y : Key). y.number) x.is ∙ h.2) in
      step.from_other (ap (λ (y : Key). y.bridge) from ∙ name ∙ on)

  -- ---- the role
  abbrev own_beside : Option PortName → Role
  own_beside d = option_map_or (beside p.name) d Alternate

  abbrev role_where : Bool → Option PortName → Role
  role_where c d = if c then Root else own_beside d

  abbrev role : Role
  role = role_by id (option_map receiver (o.vector p.name.bridge)) (o.designated p.lan) p.name

  -- what a role says of who gives the bridge's vector and of the designated port
  record IsRole (r : Role) (c : Bool) (d : Option PortName) : Type 0 where
    root : r ≡ Root ↔ (c ≡ true)
    designated : r ≡ Designated ↔ ((c ≡ false) × (d ≡ Some p.name))
    backup : r ≡ Backup ↔ ((c ≡ false) × ((q : PortName) × (q ≢ p.name) × (q.bridge ≡ p.name.bridge) × (d ≡ Some q)))
    otherwise : r ≢ Designated → r ≢ Backup → r ≢ Root → r ≡ Alternate

  abbrev named : Bool → Bool → Role
  named a b = if a then Designated else (if b then Backup else Alternate)

  by_name : (q : PortName) (a : Bool) → port_eq q p.name ≡ a → (b : Bool) → same_name q.bridge p.name.bridge ≡ b → IsRole (named a b) false (Some q)
  by_name q true e b f = record {
    root = (λ i. absurd (apart Designated Root refl i), λ i. absurd (true≢false (sym i)));
    designated = (λ _. (refl, ap Some (port_is q p.name e)), λ _. refl);
    backup = (λ i. absurd (apart Designated Backup refl i), λ h. absurd (h.1.1 (sym (some_is q h.1.0 h.1.3) ∙ port_is q p.name e)));
    otherwise = λ n _ _. absurd (n refl);
  }
  by_name q false e true f = record {
    root = (λ i. absurd (apart Backup Root refl i), λ i. absurd (true≢false (sym i)));
    designated = (λ i. absurd (apart Backup Designated refl i), λ h. absurd (true≢false (sym (port_same q p.name (some_is q p.name h.1)) ∙ e)));
    backup = (λ _. (refl, (q, λ i. true≢false (sym (port_same q p.name i) ∙ e), (bytes_decides q.bridge p.name.bridge).0 f, refl)), λ _. refl);
    otherwise = λ _ n _. absurd (n refl);
  }
  by_name q false e false f = record {
    root = (λ i. absurd (apart Alternate Root refl i), λ i. absurd (true≢false (sym i)));
    designated = (λ i. absurd (apart Alternate Designated refl i), λ h. absurd (true≢false (sym (port_same q p.name (some_is q p.name h.1)) ∙ e)));
    backup = (
      λ i. absurd (apart Alternate Backup refl i),
      λ h. absurd (true≢false (sym ((bytes_decides q.bridge p.name.bridge).1 (ap (λ (n : PortName). n.bridge) (some_is q h.1.0 h.1.3) ∙ h.1.2)) ∙ f)),
    );
    otherwise = λ _ _ _. refl;
  }

  role_is : (c : Bool) (d : Option PortName) → IsRole (role_where c d) c d
  role_is true d = record {
    root = (λ _. refl, λ _. refl);
    designated = (λ e. absurd (apart Root Designated refl e), λ h. absurd (true≢false h.0));
    backup = (λ e. absurd (apart Root Backup refl e), λ h. absurd (true≢false h.0));
    otherwise = λ _ _ n. absurd (n refl);
  }
  role_is false None = record {
    root = (λ e. absurd (apart Alternate Root refl e), λ e. absurd (true≢false (sym e)));
    designated = (λ e. absurd (apart Alternate Designated refl e), λ h. absurd (no_some p.name h.1));
    backup = (λ e. absurd (apart Alternate Backup refl e), λ h. absurd (no_some h.1.0 h.1.3));
    otherwise = λ _ _ _. refl;
  }
  role_is false (Some q) = by_name q (port_eq q p.name) refl (same_name q.bridge p.name.bridge) refl

  not_came : ((came_by ≡ true) → ⊥) → came_by ≡ false
  not_came n = go came_by refl
    where
      go : (c : Bool) → came_by ≡ c → came_by ≡ false
      go true e = absurd (n e)
      go false e = e

  -- the role is as a reader finds it
  pub role_told : IsAsTold m t o p role
  role_told =
      let r = role_is came_by (o.designated p.lan) in
      record {
        designated = (
          λ e. designated_to p.name (r.designated.0 e).1,
          λ h. let d = designated_back p.name h in r.designated.1 (not_came (λ c. elsewhere c p.name refl d), d),
        );
        backup = (
          λ e. let h = (r.backup.0 e).1 in (h.0, h.1, h.2, designated_to h.0 h.3),
          λ h. let d = designated_back h.0 h.3 in r.backup.1 (not_came (λ c. elsewhere c h.0 h.2 d), (h.0, h.1, h.2, d)),
        );
        root = (λ e. gives_to (r.root.0 e), λ g. r.root.1 (gives_back g));
        otherwise = r.otherwise;
      }

-- ---- in all trees
module _ (net : Net) (ok : IsNetwork net) (o : Outcome) (is : IsOutcome net o) (p : LogicalPort) (here : Contains (view_ports net) p) (enabled : p.is_enabled ≡ true) where
  abbrev d : List ℕ → Option PortName
  d = o.cist.designated

  pub cist_told : IsAsTold cist_rules (cist_of net) o.cist p (cist_role net o p)
  cist_told =
      subst (IsAsTold cist_rules (cist_of net) o.cist p) (sym (ap (λ (b : Bool). if b then enabled_role else Disabled) enabled))
      (role_told net ok cist_rules cist_lawful (λ x. x.receiver) cist_tells (cist_sight net) (cist_is_sight net ok) o.cist is.cist p here (cist_port (by_tree net) p)
      (ap (λ (b : Bool). if b then Some (cist_port (by_tree net) p) else None) enabled))
    where
      enabled_role : Role
      enabled_role = role_by (cist_port (by_tree net) p).id (option_map (λ v. v.receiver) (o.cist.vector p.name.bridge)) (d p.lan) p.name

  pub msti_told : (tree : ℕ) → has_msti net tree p.name.bridge ≡ true → is_internal net d p ≡ true → IsAsTold msti_rules (msti_of net tree d) (o.msti tree) p (msti_role net o tree p)
  msti_told tree has internal =
      subst (IsAsTold msti_rules (msti_of net tree d) (o.msti tree) p) (sym is_internal_role)
      (role_told net ok msti_rules msti_lawful (λ x. x.receiver) msti_tells (msti_sight net tree d) (msti_is_sight net ok tree d) (o.msti tree) (is.mstis tree) p here (msti_port (by_tree net) tree p)
      (ap (λ (b : Bool). if b && is_internal net d p && has_msti net tree p.name.bridge then Some (msti_port (by_tree net) tree p) else None) enabled
      ∙ ap (λ (b : Bool). if b && has_msti net tree p.name.bridge then Some (msti_port (by_tree net) tree p) else None) internal
      ∙ ap (λ (b : Bool). if b then Some (msti_port (by_tree net) tree p) else None) has))
    where
      internal_role : Role
      internal_role = role_by (msti_port (by_tree net) tree p).id (option_map (λ v. v.receiver) ((o.msti tree).vector p.name.bridge)) ((o.msti tree).designated p.lan) p.name

      is_internal_role : msti_role net o tree p ≡ internal_role
      is_internal_role =
          ap (λ (b : Bool). if b then (if is_internal net d p then internal_role else outside (cist_role net o p)) else Disabled) enabled
          ∙ ap (λ (b : Bool). if b then internal_role else outside (cist_role net o p)) internal
