-- What is listed by number is what is listed by name.
use Rattle.std.proofs.Common.{◌≡◌, ℕ, ◌==◌, Bool, true, false, List, map, filter, Some, None, refl, sym, ap, subst, ◌∙◌, true≢false, unwrap_or}
use Rattle.std.specs.Prelude.{if◌then◌else◌}
use Rattle.std.specs.List.{Contains}
use Rattle.std.specs.Option.{option_map_or}
use Rattle.std.specs.FinMap as fin
use Rattle.mst_ids.specs.Vids.{has}
use Rattle.mst_graph.specs.Islands.{Link, HaveEnds}
use Rattle.mst_graph.specs.Renaming.{KeepApart, link_by}
use Rattle.mst_graph.proofs.Members.{in_map, from_map, from_filter}
use Rattle.mst_graph.proofs.Splits.{kept_each, map_of_map}
use Rattle.mst_tables.specs.Tables.{Net, Numbers, BridgeRow}
use Rattle.mst_tables.specs.ByTree.{vlans_in}
use Rattle.mst_tables.specs.Seen.{bridge_row}
use Rattle.mst_view.specs.Trees.{is_among}
use Rattle.mst_view.specs.View.{LogicalLan}
use Rattle.mst_view.specs.Viewed.{Viewed, named_bridge, named_port, named_lan}
use Rattle.mst_view.specs.declared.in_view.BridgeInView.{BridgeInView}
use Rattle.mst_view.specs.declared.in_view.PortInView.{PortInView}
use Rattle.mst_view.specs.declared.in_view.LanInView.{LanInView}
use Rattle.mst_roles.specs.forest.Agrees.{AreOf}
use Rattle.mst_roles.specs.forest.Forest.{IsForest, Forest}
use Rattle.mst_roles.specs.forest.Seen.{trees_at}
use Rattle.mst_roles.proofs.forest_lemmas.Lists.{all_contained, filter_mapped}
use Rattle.mst_roles.proofs.forest_lemmas.Seen.{bridge_seen, port_seen, port_of_net}
use Rattle.mst_roles.specs.Roles.{forwards}
use Rattle.mst_roles.specs.SeenRoles.{seen_cist_role, seen_msti_role, seen_tree, seen_forwards}
use Rattle.mst_roles.specs.declared.kind.Role.TheVariants.{Disabled}
use Rattle.mst_roles.proofs.ActiveListed.{active_listed, active_seen}
use Rattle.mst_roles.specs.Active.{active_ports}
use Rattle.mst_vlan.specs.Reach.{bridges_on, lans_up, is_member, link_of, vid_links}
use Rattle.mst_vlan.specs.Seen.{seen_bridges, seen_lans, seen_member, seen_link, seen_links}
use Rattle.mst_roles.specs.SeenActive.{seen_active}
use Rattle.mst_vlan.proofs.EnabledEnds.{enabled_ends}
use Rattle.mst_vlan.proofs.Renumbered.{all_members}

-- no port of the role Disabled forwards
never : (z has : Bool) → option_map_or forwards (if z then Some Disabled else (if has then Some Disabled else None)) false ≡ true → ⊥
never true has e = true≢false (sym e)
never false true e = true≢false (sym e)
never false false e = true≢false (sym e)

-- an active port is enabled
seen_enabled : (v : Viewed) (f : Forest) (vid : ℕ) (p : PortInView) → seen_forwards v f vid p ≡ true → p.is_enabled ≡ true
seen_enabled v f vid p e = go p.is_enabled refl
  where
    cist_disabled : p.is_enabled ≡ false → seen_cist_role v f p ≡ Disabled
    cist_disabled h = rw h refl

    msti_disabled : (tree : ℕ) → p.is_enabled ≡ false → seen_msti_role v f tree p ≡ Disabled
    msti_disabled tree h = rw h refl

    go : (b : Bool) → p.is_enabled ≡ b → p.is_enabled ≡ true
    go true h = h
    go false h =
        let tree : ℕ = seen_tree v p.bridge vid in
        let same : seen_forwards v f vid p ≡ option_map_or forwards (if tree == 0 then Some Disabled else (if is_among (trees_at v p.bridge) tree then Some Disabled else None)) false
        = λ i. option_map_or forwards (if tree == 0 then Some (cist_disabled h i) else (if is_among (trees_at v p.bridge) tree then Some (msti_disabled tree h i) else None)) false in
        absurd (never (tree == 0) (is_among (trees_at v p.bridge) tree) (sym same ∙ e))

-- the number of a name
abbrev pub bridge_no : Numbers → List ℕ → ℕ
bridge_no numbers a = unwrap_or (fin.get numbers.bridges a) 0

abbrev pub lan_no : Numbers → List ℕ → ℕ
lan_no numbers a = unwrap_or (fin.get numbers.lans a) 0

module _ (net : Net) (numbers : Numbers) (v : Viewed) (f : Forest) (of : AreOf net numbers v f.regions) where
  -- ---- bridges and LANs
  abbrev on : List BridgeInView
  on = filter (λ b. (bridge_row b.bridge).is_on) v.bridges

  abbrev up : List LanInView
  up = filter (λ l. l.is_up) v.lans

  bridges_named : bridges_on net ≡ map (λ (b : BridgeInView). b.name) on
  bridges_named =
      ap (λ (es : List (List ℕ × BridgeRow)). map (λ e. e.0) (filter (λ e. e.1.is_on) es)) (sym of.view.bridges)
      ∙ ap (map (λ (e : List ℕ × BridgeRow). e.0)) (filter_mapped (λ (e : List ℕ × BridgeRow). e.1.is_on) named_bridge v.bridges)
      ∙ map_of_map (λ (e : List ℕ × BridgeRow). e.0) named_bridge on

  lans_named : lans_up net ≡ map (λ (l : LanInView). l.name) up
  lans_named =
      ap (λ (ls : List LogicalLan). map (λ l. l.name) (filter (λ l. l.is_up) ls)) (sym of.view.lans)
      ∙ ap (map (λ (l : LogicalLan). l.name)) (filter_mapped (λ (l : LogicalLan). l.is_up) named_lan v.lans)
      ∙ map_of_map (λ (l : LogicalLan). l.name) named_lan up

  bridge_numbered : (b : BridgeInView) → Contains on b → fin.get numbers.bridges b.name ≡ Some b.bridge.number
  bridge_numbered b h = (bridge_seen net numbers v of.view b (from_filter (λ (b : BridgeInView). (bridge_row b.bridge).is_on) v.bridges b h).0).has_number

  lan_numbered : (l : LanInView) → Contains up l → fin.get numbers.lans l.name ≡ Some l.number
  lan_numbered l h = all_contained (λ (l : LanInView). fin.get numbers.lans l.name ≡ Some l.number) v.lans l of.view.lan_numbers (from_filter (λ (l : LanInView). l.is_up) v.lans l h).0

  pub bridges_are : map (bridge_no numbers) (bridges_on net) ≡ seen_bridges v
  bridges_are =
      ap (map (bridge_no numbers)) bridges_named ∙ map_of_map (bridge_no numbers) (λ (b : BridgeInView). b.name) on
      ∙ kept_each (λ b. bridge_no numbers b.name) (λ b. b.bridge.number) on (λ b h. ap (λ o. unwrap_or o 0) (bridge_numbered b h))

  pub lans_are : map (lan_no numbers) (lans_up net) ≡ seen_lans v
  lans_are =
      ap (map (lan_no numbers)) lans_named ∙ map_of_map (lan_no numbers) (λ (l : LanInView). l.name) up
      ∙ kept_each (λ l. lan_no numbers l.name) (λ l. l.number) up (λ l h. ap (λ o. unwrap_or o 0) (lan_numbered l h))

  -- each has a number, and no two have one
  pub bridge_has : (a : List ℕ) → Contains (bridges_on net) a → fin.get numbers.bridges a ≡ Some (bridge_no numbers a)
  bridge_has a h =
      let b = from_map (λ (b : BridgeInView). b.name) on a (subst (λ names. Contains names a) bridges_named h) in
      let e = bridge_numbered b.0 b.1 in
      subst (λ a. fin.get numbers.bridges a ≡ Some (bridge_no numbers a)) b.2 (e ∙ ap Some (sym (ap (λ o. unwrap_or o 0) e)))

  pub lan_has : (a : List ℕ) → Contains (lans_up net) a → fin.get numbers.lans a ≡ Some (lan_no numbers a)
  lan_has a h =
      let l = from_map (λ (l : LanInView). l.name) up a (subst (λ names. Contains names a) lans_named h) in
      let e = lan_numbered l.0 l.1 in
      subst (λ a. fin.get numbers.lans a ≡ Some (lan_no numbers a)) l.2 (e ∙ ap Some (sym (ap (λ o. unwrap_or o 0) e)))

  pub bridges_apart : KeepApart (bridge_no numbers) (bridges_on net)
  bridges_apart a b h j e = of.numbered.bridges_differ a b (bridge_no numbers b) (bridge_has a h ∙ ap Some e) (bridge_has b j)

  pub lans_apart : KeepApart (lan_no numbers) (lans_up net)
  lans_apart a b h j e = of.numbered.lans_differ a b (lan_no numbers b) (lan_has a h ∙ ap Some e) (lan_has b j)

  -- ---- the links of a VID have their ends among these
  pub seen_have : (vid : ℕ) → HaveEnds (seen_bridges v) (seen_lans v) (seen_links v f vid)
  seen_have vid =
      all_members (λ (k : Link ℕ ℕ). Contains (seen_bridges v) k.bridge × Contains (seen_lans v) k.lan) (seen_links v f vid)
      (λ k h.
      let p = from_map seen_link (filter (seen_member v vid) (seen_active v f vid)) k h in
      let active = from_filter (seen_forwards v f vid) v.ports p.0 (from_filter (seen_member v vid) (seen_active v f vid) p.0 p.1).0 in
      let own = (port_seen net numbers v of.view p.0 active.0).has_numbers in
      let ends = enabled_ends net of.network (named_port p.0) (port_of_net net numbers v of.view p.0 active.0) (seen_enabled v f vid p.0 active.1) in (
        subst (λ ns. Contains ns k.bridge) bridges_are
            (subst (Contains (map (bridge_no numbers) (bridges_on net))) (ap (λ o. unwrap_or o 0) own.bridge ∙ ap (λ (k : Link ℕ ℕ). k.bridge) p.2) (in_map (bridge_no numbers) (bridges_on net) (p.0).name.bridge ends.0)),
        subst (λ ns. Contains ns k.lan) lans_are
            (subst (Contains (map (lan_no numbers) (lans_up net))) (ap (λ o. unwrap_or o 0) own.lan ∙ ap (λ (k : Link ℕ ℕ). k.lan) p.2) (in_map (lan_no numbers) (lans_up net) (p.0).lan ends.1)),
      ))

  -- ---- the links of active ports
  module _ (is : IsForest net numbers f) (vid : ℕ) where
    members_listed : filter (is_member net vid) (active_ports net is.outcome vid) ≡ map named_port (filter (seen_member v vid) (seen_active v f vid))
    members_listed =
        ap (filter (is_member net vid)) (active_listed net numbers v f of is vid) ∙ filter_mapped (is_member net vid) named_port (seen_active v f vid)
        ∙ (λ i. map named_port (filter (λ p. has (vlans_in (sym of.view.settings i).vlans p.name) vid) (seen_active v f vid)))

    pub links_are : map (link_by (bridge_no numbers) (lan_no numbers)) (vid_links net is.outcome vid) ≡ seen_links v f vid
    links_are =
        let members = filter (seen_member v vid) (seen_active v f vid) in
        ap (λ ps. map (link_by (bridge_no numbers) (lan_no numbers)) (map link_of ps)) members_listed
        ∙ ap (map (link_by (bridge_no numbers) (lan_no numbers))) (map_of_map link_of named_port members)
        ∙ map_of_map (link_by (bridge_no numbers) (lan_no numbers)) (λ p. link_of (named_port p)) members
        ∙ kept_each (λ p. link_by (bridge_no numbers) (lan_no numbers) (link_of (named_port p))) seen_link members
        (λ p h.
        let own = (active_seen net numbers v f of is vid p (from_filter (seen_member v vid) (seen_active v f vid) p h).0).has_numbers in
        let bridge : bridge_no numbers p.name.bridge ≡ p.bridge = ap (λ o. unwrap_or o 0) own.bridge in
        let lan : lan_no numbers p.lan ≡ p.lan_number = ap (λ o. unwrap_or o 0) own.lan in
        λ i. record { bridge = bridge i; lan = lan i })
