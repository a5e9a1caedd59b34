-- The risks of a policy as they are seen in a view.
use Rattle.std.specs.Prelude.{ℕ, Bool, List, [], ◌∷◌, Option, None, Some, Vec, filter, filter_map, map, if◌then◌else◌}
use Rattle.std.specs.Borrow.{Bor}
use Rattle.std.specs.HashMap.{HashMap, get}
use Rattle.std.specs.List.{list_all}
use Rattle.std.specs.Option.{option_and_then, option_map_or}
use Rattle.std.specs.declared.alloc.Global.{Global}
use Rattle.mst_graph.specs.Lists.{has_any}
use Rattle.mst_policy.specs.Lines.{risk_in}
use Rattle.mst_policy.specs.declared.policy.PolicyLine.{PolicyLine}
use Rattle.mst_policy.specs.declared.risk.RiskItems.TheVariants.{Lans, Bridges}
use Rattle.mst_policy.specs.declared.risk.RiskItems.{RiskItems}
use Rattle.mst_policy.specs.declared.risk.RiskLine.{RiskLine}
use Rattle.mst_sweep.specs.Failures.{Event}
use Rattle.mst_sweep.specs.declared.event.Cause.TheVariants as cause
use Rattle.mst_sweep.specs.declared.failure.Failure.{Failure}
use Rattle.mst_view.specs.Aggregation.{same_name}
use Rattle.mst_view.specs.Viewed.{Viewed}
use Rattle.mst_reasons.specs.Risks.{fails_by, has_one}
use Rattle.mst_reasons.specs.Seen.{names_in}

-- the view has something of each item of a line of a risk
abbrev pub seen_have : Viewed → RiskItems → Bool
seen_have v (Lans names) = list_all (has_one (map (λ l. l.name) v.member_lans)) names
seen_have v (Bridges names) = list_all (has_one (names_in v.bridges)) names

abbrev pub seen_whole : Viewed → RiskLine → Bool
seen_whole v line = seen_have v line.items

-- the lines of risks that aren't refused
abbrev pub seen_lines : Viewed → List PolicyLine → List RiskLine
seen_lines v lines = filter (seen_whole v) (filter_map (λ line. risk_in line.read) lines)

-- what a line says of a risk, if it isn't refused
abbrev pub seen_risk_in : Viewed → PolicyLine → Option RiskLine
seen_risk_in v line = option_and_then (λ risk. if seen_whole v risk then Some risk else None) (risk_in line.read)

-- ---- risks
-- the lines that are kept for a name, none where nothing is kept
abbrev pub lines_at : {S : Type 0} → HashMap (List ℕ) (Vec (Bor RiskLine) Global) S → List ℕ → List RiskLine
lines_at kept name = option_map_or (λ lines. map (λ line. line.now) lines.items) (get same_name kept name) []

-- the risk of a name by its lines, with those of these failures that some line of it says, if there are some
abbrev pub seen_risk : List Failure → List RiskLine → List ℕ → List Event
seen_risk failures lines name = filter (λ event. has_any event.failures) (record { cause = cause.Risk name; failures = filter (fails_by lines) failures } ∷ [])
