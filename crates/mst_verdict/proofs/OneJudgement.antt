-- Each line of a policy has one list of rows in one of several networks.
use Rattle.std.proofs.Common.{◌≡◌, Bool, true, false, List, [], Option, Some, None, refl, sym, subst, ◌∙◌}
use Rattle.std.specs.Prelude.{MatchBool, MatchOption, ⊤}
use Rattle.std.specs.List.{AllZip}
use Rattle.mst_net.specs.tables.Tables.{Net, IsNetwork}
use Rattle.mst_policy.specs.declared.policy.PolicyLine.{PolicyLine}
use Rattle.mst_rows.specs.Rows.{Row}
use Rattle.mst_forest.specs.Outcome.{Outcome, IsOutcome}
use Rattle.mst_sweeping.specs.sweep.Failures.{Event}
use Rattle.mst_verify.specs.tree_judges.judged.reasons.Named.{OfNetwork, Prior}
use Rattle.mst_verify.specs.tree_judges.judged.reasons.Risks.{events as events_of}
use Rattle.mst_telling.specs.Lines.{AreLinesTold, IsLineTold, IsToldThere, IsToldWhereUnkept}
use Rattle.mst_telling.specs.Told.{is_judged_at}
use Rattle.mst_verdict.proofs.OneTold.{zip_same, zip_some}
use Rattle.mst_verdict.specs.Verifying.{IsPriorNetwork, IsToldWhereDue, Judges}
use Rattle.mst_verdict.proofs.Judgements.{zip_weaker}

pub of_network : (prior : Prior) → IsPriorNetwork prior → OfNetwork prior
of_network prior = by prior.before
  where
    by : (before : Option (Net × Outcome)) → MatchOption before ⊤ (λ b. IsNetwork b.0 × IsOutcome b.0 b.1) → MatchOption before ⊤ (λ b. IsNetwork b.0)
    by None h = tt
    by (Some b) h = h.0

-- what is told of the lines that are judged is told just where they aren't kept
module _ (is_last : Bool) (net : Net) (o : Outcome) (prior : Prior) (events : List Event) (unkept : (line : PolicyLine) (rows : List Row) → IsLineTold net o prior events line rows → IsToldWhereUnkept net o prior events line rows) where
  where_due : (line : PolicyLine) (rows : List Row) → IsToldThere is_last net o prior events line rows → IsToldWhereDue is_last net o prior events line rows
  where_due line rows = by (is_judged_at is_last line)
    where
      by : (b : Bool) → MatchBool b (IsLineTold net o prior events line rows) (rows ≡ []) → MatchBool b (IsToldWhereUnkept net o prior events line rows) (rows ≡ [])
      by true is = unkept line rows is
      by false is = is

  pub all_due : (lines : List PolicyLine) (told : List (List Row)) → AllZip (IsToldThere is_last net o prior events) lines told → AllZip (IsToldWhereDue is_last net o prior events) lines told
  all_due lines told are = zip_weaker (IsToldThere is_last net o prior events) (IsToldWhereDue is_last net o prior events) where_due lines told are

module _ (net : Net) (prior : Prior) (is_last : Bool) (lines : List PolicyLine) where
  abbrev events : List Event
  events = events_of net lines

  -- at most one
  module _ (o : Outcome) (one : (line : PolicyLine) (rows other : List Row) → IsLineTold net o prior events line rows → IsLineTold net o prior events line other → rows ≡ other) where
    there_same : (line : PolicyLine) (rows other : List Row) → IsToldThere is_last net o prior events line rows → IsToldThere is_last net o prior events line other → rows ≡ other
    there_same line rows other = by (is_judged_at is_last line)
      where
        by : (b : Bool) → MatchBool b (IsLineTold net o prior events line rows) (rows ≡ []) → MatchBool b (IsLineTold net o prior events line other) (other ≡ []) → rows ≡ other
        by true x y = one line rows other x y
        by false x y = x ∙ sym y

    lines_same : (told other : List (List Row)) → AreLinesTold net o prior is_last lines told → AreLinesTold net o prior is_last lines other → told ≡ other
    lines_same told other = zip_same (IsToldThere is_last net o prior events) lines told other (λ line _ rows others. there_same line rows others)

  pub judged_same : ((o p : Outcome) → IsOutcome net o → IsOutcome net p → o ≡ p)
      → ((o : Outcome) (line : PolicyLine) (rows other : List Row) → IsOutcome net o → IsLineTold net o prior events line rows → IsLineTold net o prior events line other → rows ≡ other)
      → (told other : List (List Row)) → Judges net prior is_last lines told → Judges net prior is_last lines other → told ≡ other
  judged_same single one told other x y =
      lines_same x.outcome (λ line rows others. one x.outcome line rows others x.is_outcome) told other x.are
      (subst (λ o. AreLinesTold net o prior is_last lines other) (single y.outcome x.outcome y.is_outcome x.is_outcome) y.are)

  -- and one at least
  pub judged_some : (o : Outcome) → IsOutcome net o → ((line : PolicyLine) (rows : List Row) → IsLineTold net o prior events line rows → IsToldWhereUnkept net o prior events line rows)
      → ((line : PolicyLine) → (rows : List Row) × IsLineTold net o prior events line rows) → (told : List (List Row)) × Judges net prior is_last lines told
  judged_some o are unkept some =
      let z = zip_some (IsToldThere is_last net o prior events) lines (λ line _. there line) in
      (z.0, record { outcome = o; is_outcome = are; are = z.1; unkept = all_due is_last net o prior events unkept lines z.0 z.1 })
    where
      there : (line : PolicyLine) → (rows : List Row) × IsToldThere is_last net o prior events line rows
      there line = by (is_judged_at is_last line)
        where
          by : (b : Bool) → (rows : List Row) × MatchBool b (IsLineTold net o prior events line rows) (rows ≡ [])
          by true = some line
          by false = ([], refl)
