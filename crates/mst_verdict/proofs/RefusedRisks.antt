-- What lines of risks lack in a network, and the rows of those that are refused where it is asked of a policy's risks.
use Rattle.std.proofs.Common.{◌≡◌, ◌∙◌, ℕ, Bool, true, false, true≢false, cond, List, [], ◌++◌, append-nil, length, Option, None, Some, is_none, Result, Ok, Err, ap, refl, sym}
use Rattle.std.specs.FinMap as fin
use Rattle.std.specs.List.{list_all}
use Rattle.std.specs.Option.{option_map_or}
use Rattle.mst_graph.specs.Lists.{has_any}
use Rattle.mst_lang.specs.declared.line.Fault.{Fault}
use Rattle.mst_net.specs.tables.Tables.{Net}
use Rattle.mst_policy.specs.Lines.{risk_in}
use Rattle.mst_policy.specs.declared.item.NameItem.{NameItem}
use Rattle.mst_policy.specs.declared.risk.RiskItems.{RiskItems}
use Rattle.mst_policy.specs.declared.risk.RiskItems.TheVariants.{Lans, Bridges}
use Rattle.mst_policy.specs.declared.risk.RiskLine.{RiskLine}
use Rattle.mst_policy.specs.declared.risk.Said.{Said}
use Rattle.mst_policy.specs.declared.risk.Said.TheVariants as says
use Rattle.mst_rows.specs.Rows.{Row}
use Rattle.mst_telling.specs.Told.{missing_rows, unread_by}
use Rattle.mst_telling.proofs.GoesOn.{one_if}
use Rattle.mst_verify.specs.tree_judges.judged.reasons.Risks.{has_one, items_lack}
use Rattle.mst_verify.specs.tree_judges.judged.reasons.declared.missing.Missing.{Missing}
use Rattle.mst_verify.specs.tree_judges.judged.reasons.declared.missing.Missing.TheVariants as lacking

module _ (net : Net) (n : ℕ) where
  abbrev of_risk : Option RiskLine → List Row
  of_risk said = option_map_or (λ risk. missing_rows n (items_lack net risk.items)) said []

  abbrev of_read : Result Said Fault → List Row
  of_read read = unread_by n read ++ of_risk (risk_in read)

  -- one that says nothing of a risk is refused where it can't be read
  pub of_none : (read : Result Said Fault) → risk_in read ≡ None → of_read read ≡ unread_by n read
  of_none read e = ap (λ (said : Option RiskLine). unread_by n read ++ of_risk said) e ∙ append-nil (unread_by n read)

  -- and one that does, for what it lacks
  pub of_some : (read : Result Said Fault) (risk : RiskLine) → risk_in read ≡ Some risk → of_read read ≡ missing_rows n (items_lack net risk.items)
  of_some (Err fault) risk e = absurd (cc)
  of_some (Ok (says.Promise promise)) risk e = absurd (cc)
  of_some (Ok (says.Risk own)) risk e = ap of_risk e

  -- it has one row
  one_lacks : (what : Option Missing) → length (missing_rows n what) ≡ one_if (has_any (missing_rows n what))
  one_lacks None = refl
  one_lacks (Some what) = refl

  pub refused_one : (read : Result Said Fault) → length (of_read read) ≡ one_if (has_any (of_read read))
  refused_one (Err fault) = refl
  refused_one (Ok (says.Promise promise)) = refl
  refused_one (Ok (says.Risk risk)) = one_lacks (items_lack net risk.items)

-- ---- what a line of a risk lacks
module _ (net : Net) where
  pub whole_lacks : (items : RiskItems) → is_none (items_lack net items) ≡ true → None ≡ items_lack net items
  whole_lacks items e = go (items_lack net items) e
    where
      go : (what : Option Missing) → is_none what ≡ true → None ≡ what
      go None e = refl
      go (Some what) e = absurd (true≢false (sym e))

  some_lacks : (what : Missing) (b : Bool) → is_none (cond b None (Some what)) ≡ false → Some what ≡ cond b None (Some what)
  some_lacks what true e = absurd (true≢false e)
  some_lacks what false e = refl

  pub lans_lack : (names : List NameItem) → is_none (items_lack net (Lans names)) ≡ false → Some lacking.Lan ≡ items_lack net (Lans names)
  lans_lack names e = some_lacks lacking.Lan (list_all (has_one (fin.keys net.lans)) names) e

  pub bridges_lack : (names : List NameItem) → is_none (items_lack net (Bridges names)) ≡ false → Some lacking.Bridge ≡ items_lack net (Bridges names)
  bridges_lack names e = some_lacks lacking.Bridge (list_all (has_one (fin.keys net.bridges)) names) e
