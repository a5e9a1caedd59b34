-- The links of a VID are those of its active ports: so VIDs of the same active ports have one body.
use Rattle.std.proofs.Common.{◌≡◌, ℕ, Bool, true, false, cond, List, [], ◌∷◌, ◌++◌, map, Option, Some, None, refl, sym, ap, subst, ◌∙◌}
use Rattle.std.specs.List.{AllByRecursion, filter, flat_map}
use Rattle.std.specs.Option.{option_map, option_map_or, option_and_then}
use Rattle.std.specs.FinMap as fin
use Rattle.mst_ids.specs.declared.name.PortName.{PortName}
use Rattle.mst_graph.specs.Islands.{Link, AreIslands}
use Rattle.mst_tables.specs.Tables.{Net, PortRow, port_eq}
use Rattle.mst_view.specs.Aggregation.{Plug, plug_of, plugs}
use Rattle.mst_view.specs.View.{LogicalPort, as_port, logical_lan, logical_port, view_ports}
use Rattle.mst_view.proofs.Entries.{entries_found}
use Rattle.mst_view.proofs.Lists.{some_is, no_some, all_filtered, all_kept}
use Rattle.mst_view.proofs.Orders.{ports_total}
use Rattle.mst_rows.specs.declared.value.ActivePort.{ActivePort}
use Rattle.mst_vlan.specs.forest.Outcome.{Outcome}
use Rattle.mst_vlan.specs.roles.Roles.{forwards_for}
use Rattle.mst_vlan.specs.roles.Active.{active_ports}
use Rattle.mst_text.specs.vlan.Reach.{bridges_on, lans_up, is_member, link_of, vid_links, AreIslandsOf}
use Rattle.mst_text.specs.VlanText.{active_port, ports_of_vid}
use Rattle.mst_plan_text.specs.PlanText.{Islands, AreIslandsOfEach, HaveOneBody}

all_mapped : {A B : Type 0} (P : A → Type 0) (Q : B → Type 0) (f : A → B) → ((x : A) → P x → Q (f x)) → (xs : List A) → AllByRecursion P xs → AllByRecursion Q (map f xs)
all_mapped P Q f step [] h = tt
all_mapped P Q f step (x ∷ xs) h = (step x h.0, all_mapped P Q f step xs h.1)

module _ (net : Net) where
  -- ---- the logical LAN of a port is known by its name
  abbrev plugged_into : PortName → Option (List ℕ)
  plugged_into p = option_and_then (λ (row : PortRow). row.lan) (fin.get net.ports p)

  record IsPlugged (q : Plug) : Type 0 where
    is : plugged_into q.port ≡ Some q.lan

  plug_here : (e : PortName × PortRow) (q : Plug) → fin.get net.ports e.0 ≡ Some e.1 → plug_of e ≡ Some q → IsPlugged q
  plug_here e q found is = go e.1.lan refl is
    where
      here : List ℕ → Plug
      here lan = record { port = e.0; lan = lan; settings = e.1.settings }

      go : (o : Option (List ℕ)) → e.1.lan ≡ o → option_map here o ≡ Some q → IsPlugged q
      go None f h = absurd (no_some q h)
      go (Some lan) f h = subst IsPlugged (some_is (here lan) q h) (record { is = ap (option_and_then (λ (row : PortRow). row.lan)) found ∙ f })

  record HasLan (p : LogicalPort) : Type 0 where
    is : option_map (logical_lan net) (plugged_into p.name) ≡ Some p.lan

  all_have : AllByRecursion HasLan (view_ports net)
  all_have =
      all_mapped IsPlugged HasLan (as_port net) (λ q h. record { is = ap (option_map (logical_lan net)) h.is }) (filter (λ p. port_eq (logical_port net p).port p.port) (plugs net))
      (all_filtered IsPlugged (λ p. port_eq (logical_port net p).port p.port) (plugs net)
      (all_kept (λ (e : PortName × PortRow). fin.get net.ports e.0 ≡ Some e.1) IsPlugged plug_of plug_here (fin.entries net.ports) (entries_found ports_total net.ports)))

  -- ---- links
  -- that of an active port, if it is a member
  abbrev link_to : PortName → Option (List ℕ) → List (Link (List ℕ) (List ℕ))
  link_to p lan = option_map_or (λ lan. record { bridge = p.bridge; lan = lan } ∷ []) lan []

  abbrev link_by : ActivePort → List (Link (List ℕ) (List ℕ))
  link_by a = cond a.is_member (link_to a.port (option_map (logical_lan net) (plugged_into a.port))) []

  module _ (vid : ℕ) where
    links_by : (ps : List LogicalPort) → AllByRecursion HasLan ps → map link_of (filter (is_member net vid) ps) ≡ flat_map link_by (map (active_port net vid) ps)
    links_by [] h = refl
    links_by (p ∷ ps) h = go (is_member net vid p) (links_by ps h.1)
      where
        go : (t : Bool) → map link_of (filter (is_member net vid) ps) ≡ flat_map link_by (map (active_port net vid) ps)
            → map link_of (cond t (p ∷ filter (is_member net vid) ps) (filter (is_member net vid) ps))
            ≡ cond t (link_to p.name (option_map (logical_lan net) (plugged_into p.name))) [] ++ flat_map link_by (map (active_port net vid) ps)
        go true e = λ i. link_to p.name (sym h.0.is i) ++ e i
        go false e = e

  links_are : (o : Outcome) (vid : ℕ) → vid_links net o vid ≡ flat_map link_by (ports_of_vid net o vid)
  links_are o vid = links_by vid (active_ports net o vid) (all_filtered HasLan (forwards_for net o vid) (view_ports net) all_have)

  module _ (o : Outcome) (one : (vid : ℕ) (islands others : Islands) → AreIslandsOf net o vid islands → AreIslandsOf net o vid others → islands ≡ others)
      (islands : ℕ → Islands) (are : AreIslandsOfEach net o islands) where
    pub one_body : (x y : ℕ) → ports_of_vid net o x ≡ ports_of_vid net o y → HaveOneBody net o islands x y
    one_body x y e =
        let links : vid_links net o x ≡ vid_links net o y = links_are o x ∙ ap (flat_map link_by) e ∙ sym (links_are o y) in
        (e, one y (islands x) (islands y) (subst (λ ks. AreIslands (bridges_on net) (lans_up net) ks (islands x)) links (are x)) (are y))
