-- The rows of a line of which that is told once which is there without a failure, too.
use Rattle.std.specs.Prelude.{◌&&◌, ◌==◌, not, Bool, true, false, ℕ, List, [], ◌∷◌, ◌++◌, Option, None, Some, count_by, filter, if◌then◌else◌}
use Rattle.std.specs.List.{flat_map}
use Rattle.mst_policy.specs.Items.{lists}
use Rattle.mst_policy.specs.declared.expectation.Scope.{Scope}
use Rattle.mst_policy.specs.declared.expectation.Scope.TheVariants as scope
use Rattle.mst_rows.specs.Rows.{Row}
use Rattle.mst_graph.specs.Lists.{has_any}
use Rattle.mst_reasons.specs.sweep.declared.event.Cause.{Cause}
use Rattle.mst_reasons.specs.Judged.{has_now}
use Rattle.mst_reasons.specs.sweep.SweepText.{cause_name}
use Rattle.mst_reasons.specs.declared.reason.Reason.{Reason}
use Rattle.mst_telling.specs.Rows.{reason_row, same_row}
use Rattle.mst_telling.specs.Texts.{is_told}
use Rattle.mst_telling.specs.Told.{Found, is_now, reason_rows}

-- the scope has the very name of what failed
abbrev pub names_it : Scope → Cause → Bool
names_it (scope.AfterLan names) cause = lists names (cause_name cause)
names_it (scope.AfterBridge names) cause = lists names (cause_name cause)
names_it (scope.AfterRisk names) cause = lists names (cause_name cause)
names_it _ cause = false

-- the rows of a place, if it is the network itself, and so all that this gives
abbrev pub now_at : ℕ → Found → List Row
now_at n f = if is_now f.place then reason_rows n None f.reasons else []

abbrev pub rows_now : ℕ → List Found → List Row
rows_now n found = flat_map (now_at n) found

-- a reason in a place is left out: it is one of an event that the scope doesn't name, and the network itself gives it, too, word for word
abbrev pub is_left_out : ℕ → Scope → List Row → Option Cause → Reason → Bool
is_left_out n scope nows None reason = false
is_left_out n scope nows (Some cause) reason = not (names_it scope cause) && is_told nows (reason_row n None reason)

-- those that are left out in a place, with `now` in the place of what failed
abbrev pub left_out : ℕ → Scope → List Row → Found → List Row
left_out n scope nows f = reason_rows n None (filter (is_left_out n scope nows f.place) f.reasons)

-- the rows of the others in a place, and of a failure
abbrev pub kept_rows : ℕ → Scope → List Row → Option Cause → List Reason → List Row
kept_rows n scope nows place reasons = reason_rows n place (filter (λ reason. not (is_left_out n scope nows place reason)) reasons)

abbrev pub others : ℕ → Scope → List Row → Found → List Row
others n scope nows f = if is_now f.place then [] else kept_rows n scope nows f.place f.reasons

-- what the network itself gives is told where its scope has that, and else where a failure has left it out
abbrev pub told_now : Scope → List Row → List Row → List Row
told_now scope nows left = if has_now scope then nows else filter (is_told left) nows

-- after how many failures something is left out, where it is after some
abbrev pub same_rows : ℕ → ℕ → List Row
same_rows n count = if count == 0 then [] else same_row n count ∷ []

-- what the network itself gives, after how many failures that is so, too, and what else these give
abbrev pub once_rows : ℕ → Scope → List Row → List Found → List Row
once_rows n scope nows found =
    told_now scope nows (flat_map (left_out n scope nows) found) ++ same_rows n (count_by (λ f. has_any (left_out n scope nows f)) found)
    ++ flat_map (others n scope nows) found

-- what the network itself gives, and what else failures give
abbrev pub folded_rows : ℕ → Scope → List Row → List Found → List Row
folded_rows n scope nows found = told_now scope nows (flat_map (left_out n scope nows) found) ++ flat_map (others n scope nows) found
