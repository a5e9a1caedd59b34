-- The reason of an enabled port of a tree under names, of claims that hold what is had on its LAN and at its bridge.
use Rattle.std.proofs.Common.{◌≡◌, false, List, Option, Some, None, inl, inr, ◌⊎◌, refl, sym, ap, subst, ◌∙◌}
use Rattle.std.specs.Prelude.{◌≢◌, ℕ}
use Rattle.std.specs.List.{Contains}
use Rattle.std.specs.Ordering.{is_gt}
use Rattle.mst_ids.specs.declared.name.PortName.{PortName}
use Rattle.mst_vector.specs.Rules.{Rules, IsMetric}
use Rattle.mst_roles.specs.forest.topology.Topology.{TreePort, Topology, IsTopology, HasBridge, HasPort}
use Rattle.mst_roles.specs.forest.topology.Settled.{IsDesignatedVector, IsDesignated}
use Rattle.mst_roles.proofs.forest_lemmas.topology_lemmas.Below.{one_speaker}
use Rattle.mst_roles.proofs.forest_lemmas.topology_lemmas.Orders.{both}
use Rattle.mst_tables.specs.Tables.{Net, IsNetwork}
use Rattle.mst_view.specs.View.{LogicalPort, view_ports}
use Rattle.mst_roles.specs.forest.Sight.{Sight, tree_port, tree_of}
use Rattle.mst_roles.specs.forest.Outcome.{TreeOutcome, IsTreeOutcome}
use Rattle.mst_roles.proofs.forest_lemmas.Lists.{no_some, all_contained}
use Rattle.mst_roles.proofs.forest_lemmas.Views.{IsPort, ports_are}
use Rattle.mst_roles.proofs.forest_lemmas.Sights.{IsSight, bridge_in, port_in, port_from, is_topology}
use Rattle.mst_rows.specs.Rows.{Row}
use Rattle.mst_explain.specs.declared.claims.Claim.{Claim}
use Rattle.mst_explain.specs.Claims.{told_rows}
use Rattle.mst_explain.specs.Contest.{IsFirst, IsAlone, IsDesignatedVectorOn, Gives}
use Rattle.mst_explain.specs.Explained.{TellsRival, TellsDesignated, TellsRoot}
use Rattle.mst_explain.specs.Fields.{Field}
use Rattle.mst_explain.specs.Lines.{designated_contest, root_contest, over_rows, alone_rows}
use Rattle.mst_explain.proofs.Firsts.{Hold, IsTold, told_is}

module _ (net : Net) (ok : IsNetwork net) {B P V : Type 0} (m : Rules B P V) (law : IsMetric m) (s : Sight B P) (sight : IsSight net m s) (o : TreeOutcome V) (is : IsTreeOutcome m (tree_of net s) o)
    (fields : V → List Field) (tree : ℕ) (p : LogicalPort) (here : Contains (view_ports net) p) (settings : P) (has_settings : s.port p ≡ Some settings) where
  abbrev t : Topology (List ℕ) (List ℕ) PortName B P
  t = tree_of net s

  abbrev Key : Type 0
  Key = TreePort (List ℕ) (List ℕ) PortName P

  -- the tree is a topology, and the port is in it
  topology : IsTopology m t
  topology = is_topology net ok m s sight

  abbrev key : Key
  key = tree_port p settings

  there : HasPort t key
  there = port_in net ok m s sight p settings here has_settings

  -- ---- on its LAN
  abbrev OnLan : Option PortName → V → Type 0
  OnLan = IsDesignatedVectorOn m t o.vector p.lan

  -- the port's bridge is in the tree, and the port says something
  pub record HasOwn : Type 0 where
    pub bridge : B
    pub is_bridge : HasBridge t p.name.bridge bridge
    pub vector : V
    pub is_vector : o.vector p.name.bridge ≡ Some vector

  pub own : HasOwn
  own =
      let b = sight.own_bridge p settings (all_contained (IsPort net) (view_ports net) p (ports_are net) here) has_settings in
      let h = bridge_in net ok m s sight p.name.bridge b.0 b.1 in
      let x = is.settled.has_vector p.name.bridge b.0 h in
      record { bridge = b.0; is_bridge = h; vector = x.0; is_vector = x.1 }

  -- what it says on the LAN
  says : OnLan (Some p.name) (m.designated_vector own.vector own.bridge settings)
  says = (
    key,
    refl,
    refl,
    record { has_port = there; is_part = refl; bridge = own.bridge; has_bridge = own.is_bridge; root = own.vector; is_root = own.is_vector; is_designated = refl },
  )

  abbrev lan_rows : List (Claim V) → List Row
  lan_rows claims = told_rows m.order fields (designated_contest tree p.name) (Some p.name) claims

  -- the first on the LAN is its designated port
  pub record Chosen (rows : List Row) : Type 0 where
    pub port : PortName
    pub is_designated : o.designated p.lan ≡ Some port
    pub tells : TellsDesignated m fields t o tree p port rows

  pub chosen : (claims : List (Claim V)) → Hold claims OnLan → Chosen (lan_rows claims)
  chosen claims hold = by_key on_lan.first on_lan.vector on_lan.is_first on_lan.told (o.designated p.lan) refl (is.designated p.lan)
    where
      on_lan : IsTold m law.total fields (designated_contest tree p.name) (Some p.name) claims OnLan hold
      on_lan = told_is m law.total fields (designated_contest tree p.name) (Some p.name) claims OnLan hold (m.designated_vector own.vector own.bridge settings) says

      by_key : (k : Option PortName) (x : V) → IsFirst m OnLan k x
          → TellsRival m fields OnLan (Some p.name) k x (over_rows (designated_contest tree p.name) k) (lan_rows claims) ⊎ (IsAlone m OnLan k × (lan_rows claims ≡ alone_rows (designated_contest tree p.name) k))
          → (d : Option PortName) → o.designated p.lan ≡ d → IsDesignated m t o.vector p.lan d → Chosen (lan_rows claims)
      by_key None x first told d e h = absurd first.has
      by_key (Some k) x first told None e h = let f = first.has in absurd (h f.0 x f.2 f.3)
      by_key (Some k) x first told (Some d) e h =
          let f = first.has in
          let low : is_gt (m.order x h.1) ≡ false = first.upto (Some d) h.1 (h.0, h.2, h.3.on_lan, h.3.says) in
          let high : is_gt (m.order h.1 x) ≡ false = h.3.upto f.0 x f.2 f.3 in
          let messages : x ≡ h.1 = law.equal x h.1 (both law.total x h.1 low high) in
          let ports : f.0 ≡ h.0 = one_speaker m law t topology o.vector o.vector f.0 h.0 h.1 (subst (IsDesignatedVector m t o.vector f.0) messages f.3) h.3.says in
          let names : d ≡ k = sym h.2 ∙ ap (λ (y : Key). y.number) (sym ports) ∙ f.1 in
          record { port = k; is_designated = e ∙ ap Some names; tells = record { vector = x; is_first = first; told = told } }

  -- ---- whose vector is the bridge's
  abbrev AtBridge : B → Option PortName → V → Type 0
  AtBridge b = Gives m t o.vector p.name.bridge b

  -- the port gives its bridge what the designated port says, where that is on another bridge
  gives : (b : B) (d : PortName) → o.designated p.lan ≡ Some d → d.bridge ≢ p.name.bridge → p.settings.is_restricted ≡ false → (x : V) × AtBridge b (Some p.name) x
  gives b d e other free =
      let h = subst (λ (y : Option PortName). IsDesignated m t o.vector p.lan y) e (is.designated p.lan) in
      let sender = h.3.says.bridge in
      let bridge : h.0.bridge ≡ d.bridge = from_named h.0 d h.3.says.has_port h.2 in (
        m.root_path_vector h.1 sender b settings,
        (
          record {
            port = key;
            has_port = there;
            is_part = refl;
            is_free = free;
            on_bridge = refl;
            from = h.0;
            message = h.1;
            designates = h.3;
            from_other = λ i. other (sym bridge ∙ i);
            sender = sender;
            has_sender = h.3.says.has_bridge;
            is_made = refl;
          },
          refl,
        ),
      )
    where
      from_named : (q : Key) (d : PortName) → HasPort t q → q.number ≡ d → q.bridge ≡ d.bridge
      from_named q d h e =
          let x = port_from net ok m s sight q h in
          ap (λ (y : Key). y.bridge) (sym x.is) ∙ ap (λ (n : PortName). n.bridge) (ap (λ (y : Key). y.number) x.is ∙ e)

  -- the first at the bridge is told
  pub tells_root : (b : B) → HasBridge t p.name.bridge b → (claims : List (Claim V)) → Hold claims (AtBridge b) → (d : PortName) → o.designated p.lan ≡ Some d → d.bridge ≢ p.name.bridge → p.settings.is_restricted ≡ false
      → TellsRoot m fields t o tree p (told_rows m.order fields (root_contest tree p.name) (Some p.name) claims)
  tells_root b is_bridge claims hold d e other free =
      let mine = gives b d e other free in
      let told = told_is m law.total fields (root_contest tree p.name) (Some p.name) claims (AtBridge b) hold mine.0 mine.1 in
      record {
        bridge = b;
        is_bridge = is_bridge;
        giver = told.first;
        vector = told.vector;
        is_first = told.is_first;
        told = elim told.told [
          | inl h ↦ h
          | inr h ↦ let alone = h.0 in absurd (no_some p.name (alone None (m.bridge_vector b) refl ∙ sym (alone (Some p.name) mine.0 mine.1)))
        ];
      }
