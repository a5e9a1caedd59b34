-- Whether a logical port forwards for a VID, under its number and under its name.
use Rattle.std.proofs.Common.{◌≡◌, ℕ, ◌==◌, false, List, Option, Some, None, is_some, refl, sym, ap, ◌∙◌, true≢false, eq-eqb}
use Rattle.std.specs.Prelude.{if◌then◌else◌}
use Rattle.std.specs.List.{find}
use Rattle.std.specs.Option.{option_map, option_map_or}
use Rattle.std.specs.FinMap as fin
use Rattle.std.proofs.lemmas.Bool.{eqb-true}
use Rattle.mst_ids.specs.declared.name.PortName.{PortName}
use Rattle.mst_tables.specs.Tables.{Net, Numbers, BridgeRow, port_eq}
use Rattle.mst_tables.specs.ByTree.{table_in}
use Rattle.mst_tables.specs.Seen.{bridge_row}
use Rattle.mst_tables.specs.Table.{tree_in}
use Rattle.mst_tables.specs.After.{table_of}
use Rattle.mst_view.specs.View.{view_ports}
use Rattle.mst_view.specs.Viewed.{Viewed, named_port}
use Rattle.mst_view.specs.declared.in_view.BridgeInView.{BridgeInView}
use Rattle.mst_view.specs.declared.in_view.PortInView.{PortInView}
use Rattle.mst_forest.specs.Agrees.{AreOf}
use Rattle.mst_forest.specs.Forest.{IsForest, Forest}
use Rattle.mst_forest.proofs.Lists.{some_is}
use Rattle.mst_forest.proofs.Looking.{first_found}
use Rattle.mst_forest.proofs.Seen.{SeenPort, bridge_there, bridge_seen, port_seen}
use Rattle.mst_roles.specs.Roles.{forwards, tree_of_vid, forwards_for}
use Rattle.mst_roles.specs.SeenRoles.{seen_role, seen_tree, seen_forwards}
use Rattle.mst_roles.proofs.Named.{each_same, port_listed, found_in}

module _ (net : Net) (numbers : Numbers) (v : Viewed) (f : Forest) (of : AreOf net numbers v f.regions) where
  -- a bridge's tree of a VID
  tree_same : (vid : ℕ) (a : List ℕ) (n : ℕ) → fin.get numbers.bridges a ≡ Some n → seen_tree v n vid ≡ tree_of_vid net a vid
  tree_same vid a n e = go (fin.get net.bridges a) refl
    where
      go : (o : Option BridgeRow) → fin.get net.bridges a ≡ o → seen_tree v n vid ≡ tree_of_vid net a vid
      go None h = absurd (true≢false (sym (ap is_some e) ∙ of.numbered.bridges a ∙ ap is_some h))
      go (Some row) h =
          let b = bridge_there net numbers v of.view a row h in
          let own = bridge_seen net numbers v of.view b.0 b.1 in
          let name : b.0.name ≡ a = ap (λ (q : List ℕ × BridgeRow). q.0) b.2 in
          let number : n ≡ b.0.bridge.number = some_is n b.0.bridge.number (sym e ∙ ap (fin.get numbers.bridges) (sym name) ∙ own.has_number) in
          let first = first_found (λ (x : BridgeInView). n == x.bridge.number) v.bridges b.0 b.1 (eq-eqb n b.0.bridge.number number) in
          let other = bridge_seen net numbers v of.view first.it first.there in
          let one : first.it.name ≡ a = of.numbered.bridges_differ first.it.name a n (other.has_number ∙ ap Some (sym (eqb-true n first.it.bridge.number first.passes))) e in
          let rows : bridge_row first.it.bridge ≡ row = some_is (bridge_row first.it.bridge) row (sym other.has_row ∙ ap (fin.get net.bridges) one ∙ h) in
          ap (λ (o : Option BridgeInView). option_map_or (λ x. if (bridge_row x.bridge).is_rstp then 0 else tree_in (table_in v.settings.tables x.name) vid) o 0) first.found
          ∙ (λ i. if (rows i).is_rstp then 0 else tree_in (table_in (of.view.settings i).tables (one i)) vid)
          ∙ sym (ap (λ (o : Option BridgeRow). option_map_or (λ x. if x.is_rstp then 0 else tree_in (table_of net a) vid) o 0) h)

  module _ (is : IsForest net numbers f) (vid : ℕ) where
    pub each_forwards : (p : PortInView) → SeenPort net numbers p → seen_forwards v f vid p ≡ forwards_for net is.outcome vid (named_port p)
    each_forwards p seen =
        ap (λ tree. option_map_or forwards (seen_role v f tree p) false) (tree_same vid p.name.bridge p.bridge seen.has_numbers.bridge)
        ∙ ap (λ r. option_map_or forwards r false) (each_same net numbers v f of is (tree_of_vid net p.name.bridge vid) p seen)

    pub named_forwards : (name : PortName) (k : ℕ) → fin.get numbers.ports name ≡ Some k
        → option_map_or (seen_forwards v f vid) (find (λ p. k == p.number) v.ports) false ≡ option_map_or (forwards_for net is.outcome vid) (find (λ p. port_eq p.name name) (view_ports net)) false
    named_forwards name k e = go (find (λ p. k == p.number) v.ports) refl ∙ sym (ap (λ o. option_map_or (forwards_for net is.outcome vid) o false) (port_listed net numbers v f.regions of name k e))
      where
        go : (x : Option PortInView) → find (λ p. k == p.number) v.ports ≡ x
            → option_map_or (seen_forwards v f vid) (find (λ p. k == p.number) v.ports) false ≡ option_map_or (forwards_for net is.outcome vid) (option_map named_port (find (λ p. k == p.number) v.ports)) false
        go None h = ap (λ o. option_map_or (seen_forwards v f vid) o false) h ∙ sym (ap (λ o. option_map_or (forwards_for net is.outcome vid) (option_map named_port o) false) h)
        go (Some p) h =
            let there = found_in (λ (p : PortInView). k == p.number) v.ports p h in
            ap (λ o. option_map_or (seen_forwards v f vid) o false) h ∙ each_forwards p (port_seen net numbers v of.view p there)
            ∙ sym (ap (λ o. option_map_or (forwards_for net is.outcome vid) (option_map named_port o) false) h)
