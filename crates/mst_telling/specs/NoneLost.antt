-- That the rows of a line of a policy lose no reason, though what the network itself gives is told once.
use Rattle.std.specs.Prelude.{◌≡◌, ◌⊎◌, true, false, ℕ, List, None, Some}
use Rattle.std.specs.List.{Contains}
use Rattle.mst_policy.specs.declared.expectation.Promise.{Promise}
use Rattle.mst_policy.specs.declared.expectation.Scope.{Scope}
use Rattle.mst_rows.specs.Rows.{Row}
use Rattle.mst_reasons.specs.sweep.declared.event.Cause.{Cause}
use Rattle.mst_reasons.specs.Judged.{has_now}
use Rattle.mst_reasons.specs.declared.reason.Reason.{Reason}
use Rattle.mst_telling.specs.Once.{names_it}
use Rattle.mst_telling.specs.Rows.{reason_row}
use Rattle.mst_telling.specs.Texts.{is_told}
use Rattle.mst_telling.specs.Told.{Found}

-- Rows tell a reason after an event: by a row of that, or, where the scope doesn't name what failed, by the line of text of the same
-- reason in the network itself
abbrev pub TellAfter : ℕ → Scope → List Row → Cause → Reason → Type 0
TellAfter n scope rows cause reason =
    Contains rows (reason_row n (Some cause) reason) ⊎ ((names_it scope cause ≡ false) × (is_told rows (reason_row n None reason) ≡ true))

-- Rows tell each reason that was found of a line: after each failure so, and in the network itself by its own row, where the line is judged there
pub record TellEach (n : ℕ) (promise : Promise) (found : List Found) (rows : List Row) : Type 0 where
  pub after : (f : Found) (cause : Cause) (reason : Reason) → Contains found f → f.place ≡ Some cause → Contains f.reasons reason → TellAfter n promise.scope rows cause reason
  pub now : (f : Found) (reason : Reason) → has_now promise.scope ≡ true → Contains found f → f.place ≡ None → Contains f.reasons reason → Contains rows (reason_row n None reason)
