-- What is seen of logical LANs, under names.
use Rattle.std.proofs.Common.{◌≡◌, ℕ, Bool, List, [], ◌++◌, map, Option, None, Some, refl, sym, ap, ◌∙◌}
use Rattle.std.specs.Prelude.{if◌then◌else◌}
use Rattle.std.specs.List.{filter, flat_map}
use Rattle.std.proofs.lemmas.List.Folds.{flat_map-map}
use Rattle.mst_tables.specs.ByTree.{vlans_in}
use Rattle.mst_tables.specs.Tables.{Net, Numbers}
use Rattle.mst_view.specs.Aggregation.{same_name}
use Rattle.mst_view.specs.View.{LogicalPort, view_ports}
use Rattle.mst_view.specs.Viewed.{Viewed, IsView, named_lan, named_port}
use Rattle.mst_view.specs.declared.in_view.LanInView.{LanInView}
use Rattle.mst_view.specs.declared.in_view.PortInView.{PortInView}
use Rattle.mst_view.proofs.Lists.{filter_mapped, mapped_twice}
use Rattle.mst_slips.specs.declared.kept.Kept.{Kept}
use Rattle.mst_slips.specs.Kept.{kept_at, AreKept, kept_speeds, kept_between, kept_rows, kept_link}
use Rattle.mst_slips.specs.Lans.{bridges_on, is_beside, just_two, least, rows_where_slower, speeds_beside, rows_between, rows_of_lan, lan_rows}
use Rattle.mst_slips.specs.Vlans.{rows_of_ends, rows_of_link, vlans_rows}

module _ (net : Net) (numbers : Numbers) (v : Viewed) (view : IsView net numbers v) (k : Kept) (are : AreKept v.ports k) where
  -- the ports of a test, under names
  ports_named : (test : LogicalPort → Bool) → map named_port (filter (λ p. test (named_port p)) v.ports) ≡ filter test (map named_port v.ports)
  ports_named test = sym (filter_mapped test named_port v.ports)

  -- what is told of the ports of a logical LAN
  told_named : {A : Type 0} (of_port : LogicalPort → A) (lan : List ℕ) → map (λ p. of_port (named_port p)) (kept_at k.by_lan lan) ≡ map of_port (filter (λ p. same_name p.lan lan) (view_ports net))
  told_named of_port lan =
      ap (map (λ (p : PortInView). of_port (named_port p))) (are.lans lan)
      ∙ sym (mapped_twice of_port named_port (filter (λ (p : PortInView). same_name p.lan lan) v.ports))
      ∙ ap (map of_port) (ports_named (λ p. same_name p.lan lan) ∙ ap (filter (λ (p : LogicalPort). same_name p.lan lan)) view.ports)

  bridges_named : (lan : List ℕ) → map (λ (p : PortInView). p.name.bridge) (kept_at k.by_lan lan) ≡ bridges_on net lan
  bridges_named = told_named (λ p. p.name.bridge)

  speeds_named : (lan bridge : List ℕ) → kept_speeds lan (kept_at k.by_bridge bridge) ≡ speeds_beside net lan bridge
  speeds_named lan bridge =
      ap (kept_speeds lan) (are.bridges bridge)
      ∙ sym (mapped_twice (λ (p : LogicalPort). p.speed) named_port (filter (λ (p : PortInView). is_beside lan (named_port p)) (filter (λ (p : PortInView). same_name p.name.bridge bridge) v.ports)))
      ∙ ap (map (λ (p : LogicalPort). p.speed)) (sym (filter_mapped (is_beside lan) named_port (filter (λ (p : PortInView). same_name p.name.bridge bridge) v.ports))
      ∙ ap (filter (is_beside lan)) (ports_named (λ p. same_name p.name.bridge bridge) ∙ ap (filter (λ (p : LogicalPort). same_name p.name.bridge bridge)) view.ports))

  between_named : (lan : LanInView) (two : Option (List ℕ × List ℕ)) → kept_between k lan two ≡ rows_between net (named_lan lan) two
  between_named lan None = refl
  between_named lan (Some two) = λ i. rows_where_slower lan.name lan.speed (least (speeds_named lan.name two.0 i ++ speeds_named lan.name two.1 i))

  rows_named : (lan : LanInView) → kept_rows k lan ≡ rows_of_lan net (named_lan lan)
  rows_named lan =
      ap (λ bridges. if lan.is_up then kept_between k lan (just_two bridges) else []) (bridges_named lan.name)
      ∙ ap (λ rows. if lan.is_up then rows else []) (between_named lan (just_two (bridges_on net lan.name)))

  pub lans_named : flat_map (kept_rows k) v.lans ≡ lan_rows net
  lans_named = (λ i. flat_map (λ lan. rows_named lan i) v.lans) ∙ sym (flat_map-map (rows_of_lan net) named_lan v.lans) ∙ ap (flat_map (rows_of_lan net)) view.lans

  -- ---- the links whose ends allow different VLANs
  link_named : (lan : LanInView) → kept_link v.settings k lan ≡ rows_of_link net (named_lan lan)
  link_named lan = λ i. if lan.is_up then rows_of_ends (vlans_in (view.settings i).vlans) (told_named (λ p. p.name) lan.name i) else []

  pub links_named : flat_map (kept_link v.settings k) v.lans ≡ vlans_rows net
  links_named = (λ i. flat_map (λ lan. link_named lan i) v.lans) ∙ sym (flat_map-map (rows_of_link net) named_lan v.lans) ∙ ap (flat_map (rows_of_link net)) view.lans
