-- A bridge of both views is found by its number as it is by its name.
use Rattle.std.proofs.Common.{◌≡◌, Bool, Some, sym, ap, ◌∙◌, ◌⊎◌, inl, inr}
use Rattle.std.specs.Cmp.Lexicographic.{bytes_decides}
use Rattle.std.specs.List.{Contains}
use Rattle.std.specs.Option.{option_map}
use Rattle.mst_net.specs.tables.Tables.{Net, Numbers}
use Rattle.mst_view.specs.Aggregation.{same_name}
use Rattle.mst_view.specs.Viewed.{Viewed, IsView}
use Rattle.mst_view.specs.declared.in_view.BridgeInView.{BridgeInView}
use Rattle.mst_vlan.proofs.forest_lemmas.Lists.{apart_cases}
use Rattle.mst_vlan.proofs.forest_lemmas.Seen.{BridgesRise, bridges_apart}
use Rattle.mst_vlan.proofs.forest_lemmas.Views.{names_differ}
use Rattle.mst_facts.specs.declared.both.Both.{Both}
use Rattle.mst_facts.specs.Both.{seen_in_both}
use Rattle.mst_facts.proofs.Lists.{find-found}
use Rattle.mst_sweep.proofs.Positions.{has_first}

module _ (net : Net) (numbers : Numbers) (w : Viewed) (view : IsView net numbers w) where
  -- no two bridges of a view have one name
  one_named : (y z : BridgeInView) → Contains w.bridges y → Contains w.bridges z → y.name ≡ z.name → y ≡ z
  one_named y z first second same = go (apart_cases (BridgesRise net numbers) w.bridges y z (bridges_apart net numbers w view) first second)
    where
      go : (y ≡ z) ⊎ (BridgesRise net numbers y z ⊎ BridgesRise net numbers z y) → y ≡ z
      go (inl e) = e
      go (inr (inl l)) = absurd (names_differ y.name z.name l.less same)
      go (inr (inr l)) = absurd (names_differ z.name y.name l.less (sym same))

  pub paired : (x y : BridgeInView) → Contains w.bridges y → y.name ≡ x.name → (let both : Both = record { old = x; new = y } in Some both) ≡ seen_in_both w x
  paired x y there same =
      let test : BridgeInView → Bool = λ z. same_name z.name x.name in
      let first = has_first test w.bridges y there ((bytes_decides y.name x.name).1 same) in
      let found = find-found test w.bridges first.0 first.1 in
      let named : first.0.name ≡ x.name = (bytes_decides first.0.name x.name).0 found.1 in
      let with : BridgeInView → Both = λ z. record { old = x; new = z } in
      sym (ap (option_map with) (first.1 ∙ ap Some (one_named first.0 y found.0 there (named ∙ sym same))))
