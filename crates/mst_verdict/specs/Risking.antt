-- What each risk of a policy does to a network.
use Rattle.std.specs.Prelude.{◌≡◌, ◌++◌, List, [], length}
use Rattle.std.specs.List.{flat_map}
use Rattle.std.specs.Option.{option_map_or}
use Rattle.mst_net.specs.tables.Tables.{Net}
use Rattle.mst_policy.specs.Lines.{risk_in}
use Rattle.mst_policy.specs.declared.policy.PolicyLine.{PolicyLine}
use Rattle.mst_rows.specs.Rows.{Row}
use Rattle.mst_sweeping.specs.Sweeping.{SweepsRisks}
use Rattle.mst_telling.specs.Told.{missing_rows, unread_rows}
use Rattle.mst_verify.specs.tree_judges.judged.reasons.Risks.{items_lack, risks}
use Rattle.mst_verdict.specs.declared.risking.RiskCounts.{RiskCounts}

-- the row of a line that can't be read, whatever it was to say, or of one of a risk that is refused in the network. A promise is passed over
abbrev pub refused_line : Net → PolicyLine → List Row
refused_line net line = unread_rows line ++ option_map_or (λ risk. missing_rows line.number (items_lack net risk.items)) (risk_in line.read) []

abbrev pub refused_risks : Net → List PolicyLine → List Row
refused_risks net lines = flat_map (refused_line net) lines

-- these are the rows of the refused lines, and then of what each risk does, with a last row; and this is counted: how many lines are
-- refused, and how many risks cut some VID
pub record TellsRisks (net : Net) (lines : List PolicyLine) (counts : RiskCounts) (rows : List Row) : Type 0 where
  pub swept : List Row
  pub sweeps : SweepsRisks net (risks net lines) counts.cuts swept
  pub refused : counts.refused ≡ length (refused_risks net lines)
  pub are : rows ≡ refused_risks net lines ++ swept
