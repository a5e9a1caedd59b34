-- The rows of what is told of a policy.
use Rattle.std.specs.Prelude.{ℕ, Bool, true, false, List, [], ◌∷◌, Option, None, Some}
use Rattle.mst_kinds.specs.declared.kind.Kind.{Kind}
use Rattle.mst_kinds.specs.declared.kind.Kind.TheVariants as kind
use Rattle.mst_kinds.specs.declared.refusal_line.RefusalLine.TheVariants as refusal_line
use Rattle.mst_kinds.specs.declared.step_line.StepLine.TheVariants as step_line
use Rattle.mst_kinds.specs.declared.verify_line.VerifyLine.{VerifyLine}
use Rattle.mst_kinds.specs.declared.verify_line.VerifyLine.TheVariants as line
use Rattle.mst_ids.specs.Vids.{runs_from}
use Rattle.mst_rows.specs.Cells.{Cell, PromiseSaid, absent, word, number, no_failure}
use Rattle.mst_rows.specs.Cells as cell
use Rattle.mst_rows.specs.Rows.{Row, row_of}
use Rattle.mst_roles.specs.Names.{role_text}
use Rattle.mst_roles.specs.declared.kind.Role.{Role}
use Rattle.mst_reasons.specs.sweep.Cuts.{cause_cell}
use Rattle.mst_reasons.specs.sweep.declared.event.Cause.{Cause}
use Rattle.mst_reasons.specs.Missing as lacking
use Rattle.mst_reasons.specs.declared.missing.Missing.{Missing}
use Rattle.mst_reasons.specs.declared.missing.Missing.TheVariants as missed
use Rattle.mst_reasons.specs.declared.reason.Reason.{Reason}
use Rattle.mst_reasons.specs.declared.reason.Reason.TheVariants as why

-- ---- lines that are refused
-- `policy N CODE TEXT`
abbrev pub refused_row : ℕ → List ℕ → List ℕ → Row
refused_row n code text = row_of (kind.Refusal refusal_line.Policy) (number n ∷ word code ∷ word text ∷ [])

-- that of a line of which the network hasn't what it names, or of which nothing is judged there
abbrev pub missing_row : ℕ → Missing → Row
missing_row n what = refused_row n (lacking.code_of what) (lacking.text_of what)

-- that of a policy as a whole of which nothing is judged: it has the number 0
abbrev pub nothing_row : Row
nothing_row = missing_row 0 missed.Failure

-- ---- why a line isn't kept
-- `now`, `lan L`, `bridge B` or `risk NAME`
abbrev pub place : Option Cause → Cell
place None = no_failure
place (Some cause) = cause_cell cause

-- `fails N PLACE ..`
abbrev pub fails_row : VerifyLine → ℕ → Option Cause → List Cell → Row
fails_row line n cause cells = row_of (kind.Verify line) (number n ∷ place cause ∷ cells)

-- a name, or `-`
abbrev pub name_or_none : Option (List ℕ) → Cell
name_or_none None = absent
name_or_none (Some name) = word name

-- a role, or `-`
abbrev pub role_or_none : Option Role → Cell
role_or_none None = absent
role_or_none (Some role) = word (role_text role)

-- which row of a policy tells a reason, and what it tells of it behind the place
abbrev pub reason_line : Reason → VerifyLine
reason_line (why.OtherRoot tree root count) = line.OtherRoot
reason_line (why.NoRoot tree) = line.NoRoot
reason_line (why.OtherNext tree root next) = line.OtherNext
reason_line (why.Region parts) = line.Region
reason_line (why.Role tree ports role) = line.Role
reason_line (why.Reach vids parts) = line.Reach
reason_line (why.Apart vids parts) = line.Apart
reason_line (why.Leaves vids parts) = line.Leaves
reason_line (why.Together vids parts) = line.Together
reason_line (why.Leaf tree bridge children) = line.Leaf
reason_line (why.Depth tree steps bridges) = line.Depth
reason_line (why.TooManyHops vids hops bridges) = line.TooManyHops
reason_line (why.NotVia vids bridges) = line.NotVia
reason_line (why.Carries lan vids) = line.Carries
reason_line (why.Avoids lan vids) = line.Avoids
reason_line (why.Hops tree bridge depth limit) = line.Hops
reason_line (why.Age tree bridge depth limit) = line.Age
reason_line (why.ExternalCost tree bridge cost) = line.ExternalCost
reason_line (why.InternalCost tree bridge cost) = line.InternalCost

abbrev pub reason_cells : Reason → List Cell
reason_cells (why.OtherRoot tree root count) = number tree ∷ word root ∷ number count ∷ []
reason_cells (why.NoRoot tree) = number tree ∷ absent ∷ []
reason_cells (why.OtherNext tree root next) = number tree ∷ word root ∷ name_or_none next ∷ []
reason_cells (why.Region parts) = cell.groups parts ∷ []
reason_cells (why.Role tree ports role) = number tree ∷ cell.ports ports ∷ role_or_none role ∷ []
reason_cells (why.Reach vids parts) = cell.vids (runs_from 0 vids) ∷ cell.groups parts ∷ []
reason_cells (why.Apart vids parts) = cell.vids (runs_from 0 vids) ∷ cell.groups parts ∷ []
reason_cells (why.Leaves vids parts) = cell.vids (runs_from 0 vids) ∷ cell.groups parts ∷ []
reason_cells (why.Together vids parts) = cell.vids (runs_from 0 vids) ∷ cell.groups parts ∷ []
reason_cells (why.Leaf tree bridge children) = number tree ∷ word bridge ∷ cell.names children ∷ []
reason_cells (why.Depth tree steps bridges) = number tree ∷ number steps ∷ cell.names bridges ∷ []
reason_cells (why.TooManyHops vids hops bridges) = cell.vids (runs_from 0 vids) ∷ number hops ∷ cell.names bridges ∷ []
reason_cells (why.NotVia vids bridges) = cell.vids (runs_from 0 vids) ∷ cell.names bridges ∷ []
reason_cells (why.Carries lan vids) = word lan ∷ cell.vids (runs_from 0 vids) ∷ []
reason_cells (why.Avoids lan vids) = word lan ∷ cell.vids (runs_from 0 vids) ∷ []
reason_cells (why.Hops tree bridge depth limit) = number tree ∷ word bridge ∷ number depth ∷ number limit ∷ []
reason_cells (why.Age tree bridge depth limit) = number tree ∷ word bridge ∷ number depth ∷ number limit ∷ []
reason_cells (why.ExternalCost tree bridge cost) = number tree ∷ word bridge ∷ number cost ∷ []
reason_cells (why.InternalCost tree bridge cost) = number tree ∷ word bridge ∷ number cost ∷ []

-- what a limit tells, if a reason is that
abbrev pub limit_cells : Reason → List Cell
limit_cells (why.Hops tree bridge depth limit) = number tree ∷ word bridge ∷ number depth ∷ number limit ∷ []
limit_cells (why.Age tree bridge depth limit) = number tree ∷ word bridge ∷ number depth ∷ number limit ∷ []
limit_cells (why.ExternalCost tree bridge cost) = number tree ∷ word bridge ∷ number cost ∷ []
limit_cells (why.InternalCost tree bridge cost) = number tree ∷ word bridge ∷ number cost ∷ []
limit_cells _ = []

-- a reason, by the number of the line and what failed
abbrev pub reason_row : ℕ → Option Cause → Reason → Row
reason_row n cause reason = fails_row (reason_line reason) n cause (reason_cells reason)

-- `same N failures M`
abbrev pub same_row : ℕ → ℕ → Row
same_row n count = row_of (kind.Verify line.Same) (number n ∷ number count ∷ [])

-- `verify expectations N hold M`, and in its record each promise
abbrev pub verified_row : ℕ → ℕ → List PromiseSaid → Row
verified_row judged holding promises = row_of (kind.Verify line.Counts) (number judged ∷ number holding ∷ cell.promises promises ∷ [])

-- ---- behind a step
-- what a line of a policy is behind a step
abbrev pub kind_behind : Kind → Kind
kind_behind (kind.Verify line) = kind.StepVerify line
kind_behind (kind.Refusal refusal_line.Policy) = kind.Refusal refusal_line.StepPolicy
kind_behind other = other

-- a row of a policy behind a step: it has the step's number in front
abbrev pub behind : ℕ → Row → Row
behind step row = row_of (kind_behind row.kind) (number step ∷ row.cells)

-- a row of a policy behind a step, if there is one
abbrev pub row_at : Option ℕ → Row → Row
row_at None row = row
row_at (Some step) row = behind step row

-- the kind of a row that tells why a line isn't kept, and the cells in front of those of the reason
abbrev pub kind_at : Option ℕ → VerifyLine → Kind
kind_at None line = kind.Verify line
kind_at (Some step) line = kind.StepVerify line

abbrev pub front_cells : Option ℕ → ℕ → Option Cause → List Cell
front_cells None n cause = number n ∷ place cause ∷ []
front_cells (Some step) n cause = number step ∷ number n ∷ place cause ∷ []

-- `start unkept S`, in front of step 1
abbrev pub start_row : ℕ → Row
start_row count = row_of (kind.Step step_line.Start) (number 0 ∷ number count ∷ [])

-- `mends N`
abbrev pub mends_row : ℕ → ℕ → Row
mends_row step n = row_of (kind.Step step_line.Mends) (number step ∷ number n ∷ [])

-- a kind of row tells that a line is refused
abbrev pub is_refusal_kind : Kind → Bool
is_refusal_kind (kind.Refusal refused) = true
is_refusal_kind other = false

abbrev pub is_refusal : Row → Bool
is_refusal row = is_refusal_kind row.kind
