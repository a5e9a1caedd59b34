-- The rows of the classes of links, by the lists of a view and by the network.
use Rattle.std.proofs.Common.{◌≡◌, ℕ, List, [], ◌∷◌, ◌++◌, map, refl, sym, ap, ◌∙◌}
use Rattle.std.specs.List.{flat_map}
use Rattle.std.specs.Option.{option_map_or}
use Rattle.std.proofs.lemmas.List.Folds.{flat_map-map}
use Rattle.std.specs.FinMap as fin
use Rattle.mst_tables.specs.Tables.{Net, Numbers}
use Rattle.mst_view.specs.Aggregation.{plugs, same_name}
use Rattle.mst_view.specs.Lag.{lag_id_text}
use Rattle.mst_view.specs.View.{LogicalLan, members, up_members, member_plugs}
use Rattle.mst_view.specs.Viewed.{Viewed, IsView, named_lan, member_lan, member_port}
use Rattle.mst_view.specs.declared.lag.LagId.{LagId}
use Rattle.mst_view.specs.declared.in_view.LanInView.{LanInView}
use Rattle.mst_view.specs.declared.in_view.MemberLan.{MemberLan}
use Rattle.mst_view.specs.declared.in_view.MemberPort.{MemberPort}
use Rattle.mst_view.proofs.Lists.{filter_mapped, mapped_twice}
use Rattle.mst_rows.specs.Rows.{Row}
use Rattle.mst_text.specs.LagText.{lag_row, row_of_lag, lags_rows}
use Rattle.mst_text.specs.LagView.{lans_in, up_of, ports_in, lan_of, port_of, class_row, class_rows, classes_rows}

flat_map_same : {A : Type 0} (f g : A → List Row) → ((x : A) → f x ≡ g x) → (xs : List A) → flat_map f xs ≡ flat_map g xs
flat_map_same f g same [] = refl
flat_map_same f g same (x ∷ xs) = λ i. same x i ++ flat_map_same f g same xs i

-- the row of a logical LAN, if its members are aggregatable
abbrev lan_rows : Net → LogicalLan → List Row
lan_rows net lan = option_map_or (λ id. row_of_lag net lan id ∷ []) lan.lag []

module _ (net : Net) (numbers : Numbers) (v : Viewed) (is : IsView net numbers v) (name : List ℕ) where
  members_are : lans_in name v.member_lans ≡ map (member_lan net) (members net name)
  members_are =
      ap (lans_in name) is.member_lans
      ∙ filter_mapped (λ (m : MemberLan). same_name m.lan name) (member_lan net) (fin.entries net.lans)

  pub lans_are : map lan_of (lans_in name v.member_lans) ≡ map (λ e. e.0) (members net name)
  lans_are = ap (map lan_of) members_are ∙ mapped_twice lan_of (member_lan net) (members net name)

  pub ups_are : map lan_of (up_of (lans_in name v.member_lans)) ≡ map (λ e. e.0) (up_members net name)
  ups_are =
      ap (λ l. map lan_of (up_of l)) members_are
      ∙ ap (map lan_of) (filter_mapped (λ (m : MemberLan). m.is_up) (member_lan net) (members net name))
      ∙ mapped_twice lan_of (member_lan net) (up_members net name)

  pub ports_are : map port_of (ports_in name v.member_ports) ≡ map (λ p. p.port) (member_plugs net name)
  ports_are =
      ap (λ l. map port_of (ports_in name l)) is.member_ports
      ∙ ap (map port_of) (filter_mapped (λ (m : MemberPort). same_name m.lan name) (member_port net) (plugs net))
      ∙ mapped_twice port_of (member_port net) (member_plugs net name)

module _ (net : Net) (numbers : Numbers) (v : Viewed) (is : IsView net numbers v) where
  row_is : (lan : LanInView) (id : LagId) → class_row v lan id ≡ row_of_lag net (named_lan lan) id
  row_is lan id = λ i. lag_row lan.name (lag_id_text id) lan.speed (ups_are net numbers v is lan.name i) (lans_are net numbers v is lan.name i) (ports_are net numbers v is lan.name i)

  rows_are : (lan : LanInView) → class_rows v lan ≡ lan_rows net (named_lan lan)
  rows_are lan = λ i. option_map_or (λ id. row_is lan id i ∷ []) lan.lag []

  pub classes_are : classes_rows v ≡ lags_rows net
  classes_are =
      flat_map_same (class_rows v) (λ lan. lan_rows net (named_lan lan)) rows_are v.lans
      ∙ sym (flat_map-map (lan_rows net) named_lan v.lans)
      ∙ ap (flat_map (lan_rows net)) is.lans
