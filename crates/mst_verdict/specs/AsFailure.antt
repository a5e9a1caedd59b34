-- A risk of one failure beside that failure alone.
use Rattle.std.specs.Prelude.{ℕ, List, [], ◌∷◌, Some, Ok}
use Rattle.mst_net.specs.tables.Tables.{Net}
use Rattle.mst_forest.specs.Outcome.{Outcome}
use Rattle.mst_policy.specs.declared.expectation.Promise.{Promise}
use Rattle.mst_policy.specs.declared.expectation.Scope.{Scope}
use Rattle.mst_policy.specs.declared.expectation.Scope.TheVariants as scope
use Rattle.mst_policy.specs.declared.item.NameItem.TheVariants.{Is}
use Rattle.mst_policy.specs.declared.policy.PolicyLine.{PolicyLine}
use Rattle.mst_policy.specs.declared.risk.Said.TheVariants as says
use Rattle.mst_rows.specs.Cells.{Cell}
use Rattle.mst_rows.specs.Rows.{Row, row_of}
use Rattle.mst_sweeping.specs.sweep.declared.event.Cause.{Cause}
use Rattle.mst_sweeping.specs.sweep.declared.event.Cause.TheVariants as cause
use Rattle.mst_sweeping.specs.sweep.declared.failure.Failure.{Failure}
use Rattle.mst_sweeping.specs.sweep.declared.failure.Failure.TheVariants.{Lan, Bridge}
use Rattle.mst_sweeping.specs.sweep.Failures.{Event}
use Rattle.mst_telling.specs.Rows.{place}
use Rattle.mst_telling.specs.Verified.{IsVerdict}
use Rattle.mst_verify.specs.tree_judges.judged.reasons.Risks.{events}

-- a risk of this name, which has this failure alone
abbrev pub risk_of_one : List ℕ → Failure → Event
risk_of_one name failure = record { cause = cause.Risk name; failures = failure ∷ [] }

-- `after lan L`, `after bridge B` or `after risk NAME`, of this alone
abbrev pub scope_after : Cause → Scope
scope_after (cause.One (Lan lan)) = scope.AfterLan (Is lan ∷ [])
scope_after (cause.One (Bridge bridge)) = scope.AfterBridge (Is bridge ∷ [])
scope_after (cause.Risk name) = scope.AfterRisk (Is name ∷ [])

-- a promise, made after this alone, and its line
abbrev pub promise_after : Cause → Promise → Promise
promise_after cause promise = record promise { scope = scope_after cause }

abbrev pub line_after : ℕ → List ℕ → Promise → Cause → PolicyLine
line_after number words promise cause = record { number = number; words = words; read = Ok (says.Promise (promise_after cause promise)) }

-- these rows tell why it isn't kept, in a network and by the risks of a policy
abbrev pub IsToldAfter : Net → Outcome → List PolicyLine → ℕ → List ℕ → Promise → Cause → List Row → Type 0
IsToldAfter net o lines number words promise cause rows = IsVerdict net o (events net lines) (line_after number words promise cause) rows

-- a row that tells a reason, with this in the place of what failed
abbrev pub cells_after : Cause → List Cell → List Cell
cells_after cause (first ∷ failed ∷ cells) = first ∷ place (Some cause) ∷ cells
cells_after cause cells = cells

abbrev pub row_after : Cause → Row → Row
row_after cause row = row_of row.kind (cells_after cause row.cells)
