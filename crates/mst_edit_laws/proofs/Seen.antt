-- What is seen of a record and of what is set for it, and what edits one after another make of that.
use Rattle.std.proofs.Common.{◌≡◌, ℕ, ◌≤◌, Bool, List, [], ◌∷◌, length, Option, Some, None, refl, ap, ◌∙◌}
use Rattle.std.specs.List.{AllByRecursion}
use Rattle.std.specs.Option.{unwrap_or}
use Rattle.std.specs.FinMap as fin
use Rattle.std.proofs.lemmas.List.{length-replicate}
use Rattle.mst_ids.specs.declared.name.PortName.{PortName}
use Rattle.mst_lang.specs.declared.line.Edit.{Edit}
use Rattle.mst_net.specs.Foreseen.{bridge_row_after, priority_after, table_after, port_row_after, port_priority_after, port_cost_after, vlans_after, lan_row_after}
use Rattle.mst_net.specs.tables.After.{effect, table_of, vlans_of}
use Rattle.mst_net.specs.tables.Contents.{priority_of, port_priority_of, port_cost_of}
use Rattle.mst_net.specs.tables.Table.{no_table}
use Rattle.mst_net.specs.tables.Tables.{Net, IsNetwork, BridgeRow, PortRow, LanRow}
use Rattle.mst_net.proofs.ForeseenLemmas.{foreseen_bridge, foreseen_priority, foreseen_table, foreseen_port, foreseen_port_priority, foreseen_port_cost, foreseen_vlans, foreseen_lan}
use Rattle.mst_net.proofs.tables_lemmas.TableFits.{no_table_fits}
use Rattle.mst_edits.specs.Making.{made}
use Rattle.mst_edit_laws.proofs.Steps.{steps}

-- ---- bridges
pub record AtBridge : Type 0 where
  pub row : Option BridgeRow
  pub priority : ℕ
  pub table : List ℕ

abbrev pub at_bridge : List ℕ → ℕ → Net → AtBridge
at_bridge q t net = record { row = fin.get net.bridges q; priority = priority_of net q t; table = table_of net q }

abbrev pub bridge_step : List ℕ → ℕ → Edit → AtBridge → AtBridge
bridge_step q t e s = record { row = bridge_row_after e q s.row; priority = priority_after e q t s.priority; table = table_after e q s.table }

pub bridge_made : (q : List ℕ) (t : ℕ) (es : List Edit) (net : Net) → at_bridge q t (made es net) ≡ steps (bridge_step q t) es (at_bridge q t net)
bridge_made q t [] net = refl
bridge_made q t (e ∷ es) net =
    bridge_made q t es (effect e net) ∙ ap (steps (bridge_step q t) es) (λ i. record { row = foreseen_bridge e net q i; priority = foreseen_priority e net q t i; table = foreseen_table e net q i })

pub no_table_long : length no_table ≡ 4094
unfolding no_table
no_table_long = length-replicate {A = ℕ} 4094 0

-- the table of a bridge has a tree of each VID
pub table_is : (net : Net) → IsNetwork net → (q : List ℕ) → (length (table_of net q) ≡ 4094) × AllByRecursion (λ tree. tree ≤ 4094) (table_of net q)
table_is net is q = by (fin.get net.tables q) refl
  where
    by : (o : Option (List ℕ)) → fin.get net.tables q ≡ o → (length (unwrap_or o no_table) ≡ 4094) × AllByRecursion (λ tree. tree ≤ 4094) (unwrap_or o no_table)
    by None e = (no_table_long, no_table_fits)
    by (Some table) e = ((is.tables q table e).1.0, (is.tables q table e).1.1)

-- ---- ports
pub record AtPort : Type 0 where
  pub row : Option PortRow
  pub priority : ℕ
  pub cost : Option ℕ
  pub vlans : List Bool

abbrev pub at_port : PortName → ℕ → Net → AtPort
at_port q t net = record { row = fin.get net.ports q; priority = port_priority_of net q t; cost = port_cost_of net q t; vlans = vlans_of net q }

abbrev pub port_step : PortName → ℕ → Edit → AtPort → AtPort
port_step q t e s = record { row = port_row_after e q s.row; priority = port_priority_after e q t s.priority; cost = port_cost_after e q t s.cost; vlans = vlans_after e q s.vlans }

pub port_made : (q : PortName) (t : ℕ) (es : List Edit) (net : Net) → at_port q t (made es net) ≡ steps (port_step q t) es (at_port q t net)
port_made q t [] net = refl
port_made q t (e ∷ es) net =
    port_made q t es (effect e net) ∙ ap (steps (port_step q t) es) (λ i. record { row = foreseen_port e net q i; priority = foreseen_port_priority e net q t i; cost = foreseen_port_cost e net q t i; vlans = foreseen_vlans e net q i })

-- ---- LANs
abbrev pub lan_step : List ℕ → Edit → Option LanRow → Option LanRow
lan_step q e s = lan_row_after e q s

pub lan_made : (q : List ℕ) (es : List Edit) (net : Net) → fin.get (made es net).lans q ≡ steps (lan_step q) es (fin.get net.lans q)
lan_made q [] net = refl
lan_made q (e ∷ es) net = lan_made q es (effect e net) ∙ ap (steps (lan_step q) es) (foreseen_lan e net q)
