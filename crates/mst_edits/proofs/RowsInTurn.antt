-- Rows of edits that are put one after another.
use Rattle.std.proofs.Common.{◌≡◌, ℕ, true, List, [], ◌∷◌, ◌++◌, Option, Some, None, refl, sym, ap, ◌∙◌, append_assoc, append-nil}
use Rattle.std.specs.List.{flat_map}
use Rattle.std.specs.Option.{option_map_or}
use Rattle.std.specs.FinMap as fin
use Rattle.std.proofs.lemmas.Grind.{flat_map-append}
use Rattle.mst_ids.specs.declared.name.PortName.{PortName}
use Rattle.mst_lang.specs.declared.line.Edit.{Edit}
use Rattle.mst_net.specs.tables.Tables.{Net, BridgeRow, LanRow}
use Rattle.mst_rows.specs.Rows.{Row}
use Rattle.mst_edits.specs.Edits.{joined, bridge_part, lan_edits, plug_edits, power_edits, power_settings, state_edits, state_settings, coming}
use Rattle.mst_edits.specs.EditRows.{edit_rows, edits_rows, first_row}
use Rattle.mst_edits.proofs.LinesMade.{flat_none}

rows_append : (es fs : List Edit) → edits_rows (es ++ fs) ≡ edits_rows es ++ edits_rows fs
rows_append es fs = flat_map-append edit_rows es fs

rows_flat : {A : Type 0} (f : A → List Edit) (xs : List A) → edits_rows (flat_map f xs) ≡ flat_map (λ x. edits_rows (f x)) xs
rows_flat f [] = refl
rows_flat f (x ∷ xs) = rows_append (f x) (flat_map f xs) ∙ ap (λ (l : List Row). edits_rows (f x) ++ l) (rows_flat f xs)

-- where each state is in its place none comes last
module _ (a b : Net) where
  no_power : (q : List ℕ) → power_edits true a b q ≡ []
  no_power q = by (fin.get b.bridges q)
    where
      by : (o : Option BridgeRow) → option_map_or (power_settings true a q) o [] ≡ []
      by None = refl
      by (Some row) = refl

  no_state : (l : List ℕ) → state_edits true a b l ≡ []
  no_state l = by (fin.get b.lans l)
    where
      by : (o : Option LanRow) → option_map_or (state_settings true a l) o [] ≡ []
      by None = refl
      by (Some row) = refl

  abbrev bridges : List Row
  bridges = flat_map (λ q. edits_rows (bridge_part true a b q)) (fin.keys b.bridges)

  abbrev lans : List Edit
  lans = flat_map (lan_edits true a b) (fin.keys b.lans)

  abbrev plugs : List PortName → List Edit
  plugs ports = flat_map (plug_edits a b) ports

  -- bridges, LANs and plugs are all that comes
  all_rows : edits_rows (joined (coming true a b)) ≡ bridges ++ (edits_rows lans ++ edits_rows (plugs (fin.keys b.ports)))
  all_rows =
      let bs = flat_map (bridge_part true a b) (fin.keys b.bridges) in
      let ps = plugs (fin.keys b.ports) in
      (λ i. edits_rows (bs ++ (lans ++ (ps ++ (flat_none (power_edits true a b) no_power (fin.keys b.bridges) i ++ (flat_none (state_edits true a b) no_state (fin.keys b.lans) i ++ []))))))
      ∙ ap (λ (l : List Edit). edits_rows (bs ++ (lans ++ l))) (append-nil ps)
      ∙ rows_append bs (lans ++ ps) ∙ ap (λ (l : List Row). edits_rows bs ++ l) (rows_append lans ps)
      ∙ ap (λ (l : List Row). l ++ (edits_rows lans ++ edits_rows ps)) (rows_flat (bridge_part true a b) (fin.keys b.bridges))

  pub whole : (rows : List Row) (ports : List PortName) → ports ≡ fin.keys b.ports → (((rows ++ first_row ∷ []) ++ bridges) ++ edits_rows lans) ++ edits_rows (plugs ports) ≡ rows ++ first_row ∷ edits_rows (joined (coming true a b))
  whole rows ports same =
      let rest = edits_rows (plugs (fin.keys b.ports)) in
      ap (λ ps. (((rows ++ first_row ∷ []) ++ bridges) ++ edits_rows lans) ++ edits_rows (plugs ps)) same
      ∙ append_assoc ((rows ++ first_row ∷ []) ++ bridges) (edits_rows lans) rest ∙ append_assoc (rows ++ first_row ∷ []) bridges (edits_rows lans ++ rest)
      ∙ append_assoc rows (first_row ∷ []) (bridges ++ (edits_rows lans ++ rest))
      ∙ ap (λ (l : List Row). rows ++ first_row ∷ l) (sym all_rows)
