-- The bridge of a name, as it is found in a view.
use Rattle.std.proofs.Common.{◌≡◌, ℕ, List, Option, Some, None, refl, sym, ap, ◌∙◌}
use Rattle.std.specs.List.{Contains, find}
use Rattle.std.specs.Cmp.Lexicographic.{bytes_decides}
use Rattle.std.specs.FinMap as fin
use Rattle.mst_view.specs.Aggregation.{same_name}
use Rattle.mst_view.specs.declared.in_view.BridgeInView.{BridgeInView}
use Rattle.mst_net.specs.tables.Seen.{bridge_row}
use Rattle.mst_net.specs.tables.Tables.{BridgeRow}
use Rattle.mst_roles.specs.forest.Settled.{SettledNet, IsSettledNet}
use Rattle.mst_roles.proofs.forest_lemmas.Seen.{bridge_seen, bridge_there}
use Rattle.mst_verify.proofs.tree_judges_lemmas.RegionOf.{found_there, none_found}

module _ (s : SettledNet) (is : IsSettledNet s) (name : List ℕ) where
  pub not_there : find (λ (b : BridgeInView). same_name b.name name) s.view.bridges ≡ None → fin.get s.net.bridges name ≡ None
  not_there none = go (fin.get s.net.bridges name) refl
    where
      go : (row : Option BridgeRow) → fin.get s.net.bridges name ≡ row → row ≡ None
      go None e = refl
      go (Some row) e =
          let b = bridge_there s.net s.numbers s.view is.of.view name row e in
          absurd (none_found (λ (b : BridgeInView). same_name b.name name) s.view.bridges none b.0 b.1 ((bytes_decides b.0.name name).1 (ap (λ (e : List ℕ × BridgeRow). e.0) b.2)))

  pub record IsFound (b : BridgeInView) : Type 0 where
    pub there : Contains s.view.bridges b
    pub named : b.name ≡ name
    pub has_row : fin.get s.net.bridges name ≡ Some (bridge_row b.bridge)

  pub is_there : (b : BridgeInView) → find (λ (b : BridgeInView). same_name b.name name) s.view.bridges ≡ Some b → IsFound b
  is_there b e =
      let f = found_there (λ (b : BridgeInView). same_name b.name name) s.view.bridges b e in
      let named : b.name ≡ name = (bytes_decides b.name name).0 f.1 in
      record { there = f.0; named = named; has_row = ap (fin.get s.net.bridges) (sym named) ∙ (bridge_seen s.net s.numbers s.view is.of.view b f.0).has_row }
