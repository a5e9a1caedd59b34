-- Questions as rows.
use Rattle.std.specs.Prelude.{◌==◌, ℕ, List, [], ◌∷◌, Option, None, Some, if◌then◌else◌}
use Rattle.mst_ids.specs.declared.name.PortName.{PortName}
use Rattle.mst_kinds.specs.declared.query.Query.TheVariants.{Explain, ExplainIn, Sweep, SweepPart, SweepPairs, SweepPairsPart, Summary, AdviseRoot, AdviseForward}
use Rattle.mst_advise.specs.declared.goal.Goal.{Goal}
use Rattle.mst_advise.specs.declared.goal.Goal.TheVariants.{Root, Forward}
use Rattle.mst_advise.specs.sweeping.sweep.SweepParts.{PartOf}
use Rattle.mst_rows.specs.Cells.{Cell, number, word}
use Rattle.mst_rows.specs.Rows.{Row}
use Rattle.mst_questions.specs.declared.asked.Asked.{Asked}
use Rattle.mst_tool.specs.Shown.{question_row}

-- `explain B P`, or `explain B P TREE`
abbrev pub explain_row_of : PortName → Option ℕ → Row
explain_row_of port None = question_row Explain (word port.bridge ∷ number port.number ∷ [])
explain_row_of port (Some tree) = question_row ExplainIn (word port.bridge ∷ number port.number ∷ number tree ∷ [])

abbrev pub explain_row : Asked → Row
explain_row asked = explain_row_of asked.port asked.tree

-- the words of a part: its number, and how many there are
abbrev pub part_words : PartOf → List Cell
part_words part = number part.number ∷ number part.count ∷ []

-- `sweep`, or `sweep K/N` where there is more than one part
abbrev pub sweep_row : PartOf → Row
sweep_row part = if part.count == 1 then question_row Sweep [] else question_row SweepPart (part_words part)

-- `sweep pairs`, or `sweep pairs K/N`
abbrev pub pairs_row : PartOf → Row
pairs_row part = if part.count == 1 then question_row SweepPairs [] else question_row SweepPairsPart (part_words part)

-- `advise root TREE B`, or `advise forward TREE B P`
abbrev pub advice_row : Goal → Row
advice_row (Root tree bridge) = question_row AdviseRoot (number tree ∷ word bridge ∷ [])
advice_row (Forward tree port) = question_row AdviseForward (number tree ∷ word port.bridge ∷ number port.number ∷ [])

abbrev pub summary_row : Row
summary_row = question_row Summary []
