-- The rows of an explanation of a settled network, under the numbers of records.
use Rattle.std.specs.Prelude.{ℕ, ◌==◌, ◌&&◌, Bool, false, List, [], ◌++◌, Option, if◌then◌else◌}
use Rattle.std.specs.List.{find, list_any}
use Rattle.std.specs.Option.{option_map_or, option_and_then}
use Rattle.mst_vector.specs.Cist.{cist_rules}
use Rattle.mst_vector.specs.Msti.{msti_rules}
use Rattle.mst_roles.specs.forest.outcome.Assignment.{designated_of}
use Rattle.mst_tables.specs.Seen.{bridge_row}
use Rattle.mst_view.specs.Aggregation.{same_name}
use Rattle.mst_view.specs.Viewed.{Viewed, named_port}
use Rattle.mst_view.specs.declared.in_view.PortInView.{PortInView}
use Rattle.mst_roles.specs.forest.Seen.{seen_internal}
use Rattle.mst_roles.specs.forest.Forest.{designated_in}
use Rattle.mst_roles.specs.forest.Settled.{SettledNet, outcome_of}
use Rattle.mst_roles.specs.Roles.{role_in}
use Rattle.mst_rows.specs.Rows.{Row}
use Rattle.mst_explain.specs.Fields.{cist_fields, msti_fields}
use Rattle.mst_explain.specs.Lines.{explain_rows, boundary_rows, disabled_rows}
use Rattle.mst_explain.specs.Seen.{contest_rows}
use Rattle.mst_explain.specs.TreesSeen.{bridge_found, cist_seen, msti_seen}

abbrev pub port_found : Viewed → ℕ → Option PortInView
port_found v n = find (λ p. n == p.number) v.ports

-- of a port that isn't enabled
abbrev pub bridge_is_on : Viewed → ℕ → Bool
bridge_is_on v n = option_map_or (λ b. (bridge_row b.bridge).is_on) (bridge_found v n) false

abbrev pub lan_is_up : Viewed → List ℕ → Bool
lan_is_up v lan = list_any (λ m. same_name m.lan lan && m.is_up) v.member_lans

abbrev pub off_rows : Viewed → ℕ → PortInView → List Row
off_rows v tree p = disabled_rows tree p.name (bridge_is_on v p.bridge) (lan_is_up v p.lan) p.lan

-- of a port that has received external information
abbrev pub outside_rows : SettledNet → ℕ → PortInView → List Row
outside_rows s tree p =
    option_map_or (λ role. option_map_or (λ q. boundary_rows tree p.name role q.name) (option_and_then (port_found s.view) (designated_in s.forest 0 p.lan_number)) []) (role_in s.net (outcome_of s) 0 (named_port p)) []

-- of any port
module _ (s : SettledNet) (tree : ℕ) (p : PortInView) where
  abbrev pub msti_rows : List Row
  msti_rows = if seen_internal s.view s.forest.regions (designated_of s.forest.cist) p then contest_rows msti_rules s.view (msti_seen s tree) msti_fields tree p else outside_rows s tree p

  abbrev pub enabled_rows : List Row
  enabled_rows = if tree == 0 then contest_rows cist_rules s.view (cist_seen s tree) cist_fields tree p else msti_rows

  abbrev pub reason_rows : List Row
  reason_rows = if p.is_enabled then enabled_rows else off_rows s.view tree p

  abbrev pub explanation_rows : List Row
  explanation_rows = option_map_or (λ role. explain_rows tree p.name p.lan role ++ reason_rows) (role_in s.net (outcome_of s) tree (named_port p)) []
