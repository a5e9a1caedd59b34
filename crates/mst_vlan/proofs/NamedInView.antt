-- A bridge that is on is in the view under its number, and so is a logical LAN that is up.
use Rattle.std.proofs.Common.{◌≡◌, ℕ, List, Some, sym, ap, subst, ◌∙◌}
use Rattle.std.specs.List.{Contains, filter}
use Rattle.std.specs.FinMap as fin
use Rattle.mst_graph.proofs.Members.{from_map, from_filter}
use Rattle.mst_tables.specs.Tables.{Net, Numbers, BridgeRow}
use Rattle.mst_view.specs.View.{LogicalLan, view_lans}
use Rattle.mst_view.specs.Viewed.{Viewed, named_bridge, named_lan}
use Rattle.mst_view.specs.declared.in_view.BridgeInView.{BridgeInView}
use Rattle.mst_view.specs.declared.in_view.LanInView.{LanInView}
use Rattle.mst_roles.specs.forest.Agrees.{AreOf}
use Rattle.mst_roles.specs.forest.Forest.{Forest}
use Rattle.mst_roles.proofs.forest_lemmas.Lists.{contains_unmapped}
use Rattle.mst_vlan.specs.Reach.{bridges_on, lans_up}
use Rattle.mst_vlan.specs.Seen.{seen_bridge, seen_lan}
use Rattle.mst_vlan.proofs.ByNumber.{named_at}

module _ (net : Net) (numbers : Numbers) (v : Viewed) (f : Forest) (of : AreOf net numbers v f.regions) where
  -- a bridge that is on is in the view, and so is a logical LAN that is up
  bridge_in_view : (a : List ℕ) → Contains (bridges_on net) a → (b : BridgeInView) × Contains v.bridges b × (b.name ≡ a)
  bridge_in_view a h =
      let e = from_map (λ (e : List ℕ × BridgeRow). e.0) (filter (λ e. e.1.is_on) (fin.entries net.bridges)) a h in
      let own = (from_filter (λ (e : List ℕ × BridgeRow). e.1.is_on) (fin.entries net.bridges) e.0 e.1).0 in
      let b = contains_unmapped named_bridge v.bridges e.0 (subst (λ es. Contains es e.0) (sym of.view.bridges) own) in
      (b.0, b.1, ap (λ (e : List ℕ × BridgeRow). e.0) b.2 ∙ e.2)

  lan_in_view : (a : List ℕ) → Contains (lans_up net) a → (l : LanInView) × Contains v.lans l × (l.name ≡ a)
  lan_in_view a h =
      let e = from_map (λ (l : LogicalLan). l.name) (filter (λ l. l.is_up) (view_lans net)) a h in
      let own = (from_filter (λ (l : LogicalLan). l.is_up) (view_lans net) e.0 e.1).0 in
      let l = contains_unmapped named_lan v.lans e.0 (subst (λ ls. Contains ls e.0) (sym of.view.lans) own) in
      (l.0, l.1, ap (λ (l : LogicalLan). l.name) l.2 ∙ e.2)

  pub bridge_named : (a : List ℕ) → Contains (bridges_on net) a → (n : ℕ) → fin.get numbers.bridges a ≡ Some n → seen_bridge v n ≡ Some a
  bridge_named a h n e =
      let b = bridge_in_view a h in
      named_at (λ (b : BridgeInView). b.bridge.number) (λ b. b.name) (fin.get numbers.bridges) v.bridges of.view.bridge_numbers of.numbered.bridges_differ b.0 b.1 n (ap (fin.get numbers.bridges) b.2 ∙ e) ∙ ap Some b.2

  pub lan_named : (a : List ℕ) → Contains (lans_up net) a → (n : ℕ) → fin.get numbers.lans a ≡ Some n → seen_lan v n ≡ Some a
  lan_named a h n e =
      let l = lan_in_view a h in
      named_at (λ (l : LanInView). l.number) (λ l. l.name) (fin.get numbers.lans) v.lans of.view.lan_numbers of.numbered.lans_differ l.0 l.1 n (ap (fin.get numbers.lans) l.2 ∙ e) ∙ ap Some l.2
