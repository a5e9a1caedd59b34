-- Which ports start anew: none between a network and itself, each that is plugged over, and none that is left alone.
use Rattle.std.proofs.Common.{◌≡◌, ◌≢◌, ℕ, ◌==◌, ◌&&◌, ◌||◌, not, nat_eq, Bool, true, false, List, [], ◌∷◌, Option, Some, None, Less, ◌⊎◌, inl, inr, refl, sym, ap, subst, ◌∙◌, true≢false}
use Rattle.std.specs.Prelude.{if◌then◌else◌}
use Rattle.std.specs.Cmp.Lexicographic.{pointwise, bytes_decides}
use Rattle.std.specs.FinMap as fin
use Rattle.std.specs.List.{Contains, filter, find, list_any}
use Rattle.std.specs.Option.{option_map_or}
use Rattle.mst_ids.specs.Names.{port_cmp}
use Rattle.mst_ids.specs.declared.name.PortName.{PortName}
use Rattle.mst_net.specs.tables.After.{table_of}
use Rattle.mst_net.specs.tables.Tables.{Net, BridgeRow, port_eq}
use Rattle.mst_view.specs.Aggregation.{same_name}
use Rattle.mst_view.specs.View.{LogicalPort, view_ports, bridge_names}
use Rattle.mst_plan.proofs.forest_lemmas.Lists.{all_there, all_contained, all_passing, apart_cases, contains_filtered, contains_mapped, contains_unmapped}
use Rattle.mst_plan.proofs.forest_lemmas.Looking.{first_found}
use Rattle.mst_plan.proofs.forest_lemmas.Views.{port_names_differ, ports_rise}
use Rattle.mst_roles.proofs.Named.{port_is, port_same}
use Rattle.mst_sweeping.specs.Restarts.{IsLeftAlone, IsPluggedOver, is_as_it_was, starts_anew, bridges_anew, is_replugged, own_lan, port_anew, restarts, restarting}
use Rattle.mst_sweeping.proofs.NoneAnew.{as_it_was, no_ports, own_plug_stays}
use Rattle.mst_sweeping.proofs.OnNamed.{any-filter}

-- ---- between a network and itself
pub none_by_itself : (net : Net) → restarting net net ≡ []
none_by_itself net = no_ports net net stays (λ port. own_plug_stays net net port refl)
  where
    stays : (name : List ℕ) → starts_anew net net name ≡ false
    stays name = go (fin.get net.bridges name)
      where
        go : (o : Option BridgeRow) → option_map_or (λ x. option_map_or (λ y. not (is_as_it_was net net name x y)) o false) o false ≡ false
        go None = refl
        go (Some row) = as_it_was row.mac row.revision row.is_rstp row.conf_name (table_of net name)

-- ---- a port that is plugged over
module _ (net : Net) where
  -- a port is the one that is found by its name
  own_found : (p : LogicalPort) → Contains (view_ports net) p → (name : PortName) → p.name ≡ name → find (λ (q : LogicalPort). port_eq q.name name) (view_ports net) ≡ Some p
  own_found p there name named =
      let first = first_found (λ (q : LogicalPort). port_eq q.name name) (view_ports net) p there (port_same p.name name named) in
      first.found ∙ ap Some (one first.it (port_is first.it.name name first.passes) (apart_cases (λ (p q : LogicalPort). port_cmp p.name q.name ≡ Less) (view_ports net) first.it p (ports_rise net) first.there there))
    where
      one : (q : LogicalPort) → q.name ≡ name → (q ≡ p) ⊎ ((port_cmp q.name p.name ≡ Less) ⊎ (port_cmp p.name q.name ≡ Less)) → q ≡ p
      one q same (inl e) = e
      one q same (inr (inl l)) = absurd (port_names_differ q.name p.name l (same ∙ sym named))
      one q same (inr (inr l)) = absurd (port_names_differ p.name q.name l (named ∙ sym same))

module _ (a b : Net) (port : PortName) where
  or-true : (x : Bool) → (x || true) ≡ true
  or-true true = refl
  or-true false = refl

  over : (from to : List ℕ) → own_lan a port ≡ Some from → own_lan b port ≡ Some to → from ≢ to → is_replugged a b port ≡ true
  over from to was is differ =
      (λ i. option_map_or (λ old. option_map_or (λ new. not (same_name old new)) (is i) false) (was i) false) ∙ go (same_name from to) refl
    where
      go : (same : Bool) → same_name from to ≡ same → not same ≡ true
      go false e = refl
      go true e = absurd (differ ((bytes_decides from to).0 e))

  pub plugged_over : IsPluggedOver a b port → Contains (restarting a b) port
  plugged_over x =
      let p : LogicalPort = x.old in
      let q : LogicalPort = x.new in
      let found = own_found b q x.is.0 p.name (x.is.1 ∙ sym x.was.1) in
      let replugged : is_replugged a b p.name ≡ true = ap (is_replugged a b) x.was.1 ∙ over x.from x.to x.plugged.0 x.plugged.1 x.differ in
      let anew = list_any (λ bridge. same_name bridge p.name.bridge) (bridges_anew a b) in
      let passes : restarts a b p ≡ true =
      ap (λ o. option_map_or (port_anew a b p) o false) found ∙ (λ i. x.was.2 i && x.is.2 i && (anew || replugged i)) ∙ or-true anew in
      subst (Contains (restarting a b)) x.was.1 (contains_mapped (λ (p : LogicalPort). p.name) (filter (restarts a b) (view_ports a)) p (contains_filtered (restarts a b) (view_ports a) p x.was.0 passes))

  -- ---- one that is left alone
  none_there : {A : Type 0} (test : A → Bool) → ((x : A) → test x ≡ false) → (xs : List A) → list_any test xs ≡ false
  none_there test none [] = refl
  none_there test none (x ∷ xs) = λ i. none x i || none_there test none xs i

  module _ (x : IsLeftAlone a b port) where
    own_bridge : starts_anew a b port.bridge ≡ false
    own_bridge =
        let old : BridgeRow = x.old in
        let new : BridgeRow = x.new in
        (λ i. option_map_or (λ old. option_map_or (λ new. not (is_as_it_was a b port.bridge old new)) (x.rows.1 i) false) (x.rows.0 i) false)
        ∙ sym (λ i. not (old.mac == x.mac i
        && (if old.is_rstp then x.kind i else not (x.kind i) && same_name old.conf_name (x.configuration.0 i) && old.revision == x.configuration.1 i)
        && (old.is_rstp || pointwise nat_eq (table_of a port.bridge) (x.configuration.2 i))))
        ∙ as_it_was old.mac old.revision old.is_rstp old.conf_name (table_of a port.bridge)

    no_bridge : list_any (λ bridge. same_name bridge port.bridge) (bridges_anew a b) ≡ false
    no_bridge = any-filter (starts_anew a b) (λ bridge. same_name bridge port.bridge) (bridge_names a) ∙ none_there (λ bridge. starts_anew a b bridge && same_name bridge port.bridge) each (bridge_names a)
      where
        each : (bridge : List ℕ) → (starts_anew a b bridge && same_name bridge port.bridge) ≡ false
        each bridge = go (same_name bridge port.bridge) refl (starts_anew a b bridge) refl
          where
            go : (same : Bool) → same_name bridge port.bridge ≡ same → (starts : Bool) → starts_anew a b bridge ≡ starts → (starts && same) ≡ false
            go same e false f = refl
            go false e true f = refl
            go true e true f = absurd (true≢false (sym f ∙ ap (starts_anew a b) ((bytes_decides bridge port.bridge).0 e) ∙ own_bridge))

    no_restart : (p : LogicalPort) → p.name ≡ port → restarts a b p ≡ false
    no_restart p named = go (find (λ (q : LogicalPort). port_eq q.name p.name) (view_ports b))
      where
        none_of : (old new : Bool) → (old && new && false) ≡ false
        none_of true true = refl
        none_of true false = refl
        none_of false new = refl

        go : (o : Option LogicalPort) → option_map_or (port_anew a b p) o false ≡ false
        go None = refl
        go (Some q) =
            ap (λ (name : PortName). p.is_enabled && q.is_enabled && (list_any (λ bridge. same_name bridge name.bridge) (bridges_anew a b) || is_replugged a b name)) named
            ∙ (λ i. p.is_enabled && q.is_enabled && (no_bridge i || own_plug_stays a b port x.port_row i)) ∙ none_of p.is_enabled q.is_enabled

    pub left_alone : Contains (restarting a b) port → ⊥
    left_alone there =
        let p = contains_unmapped (λ (p : LogicalPort). p.name) (filter (restarts a b) (view_ports a)) port there in
        let passes : restarts a b p.0 ≡ true = all_contained (λ p. restarts a b p ≡ true) (filter (restarts a b) (view_ports a)) p.0
        (all_passing (Contains (view_ports a)) (λ p. restarts a b p ≡ true) (restarts a b) (λ p _ e. e) (view_ports a) (all_there (view_ports a))) p.1 in
        true≢false (sym passes ∙ no_restart p.0 p.2)
