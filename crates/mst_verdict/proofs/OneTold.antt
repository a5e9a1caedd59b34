-- What is told of lines is settled by the network, what is before it, and the lines alone.
use Rattle.std.proofs.Common.{◌≡◌, ◌∙◌, ◌++◌, ◌∷◌, [], List, is_some, Option, Some, None, refl, sym, ap, subst}
use Rattle.std.specs.Prelude.{MatchOption}
use Rattle.std.specs.List.{AllZip, Contains, filter}
use Rattle.mst_graph.proofs.Members.{here, there}
use Rattle.mst_policy.specs.declared.expectation.Expectation.{Expectation}
use Rattle.mst_policy.specs.declared.policy.PolicyLine.{PolicyLine}
use Rattle.mst_rows.specs.Rows.{Row}
use Rattle.mst_net.specs.tables.Tables.{Net, IsNetwork}
use Rattle.mst_forest.specs.Outcome.{Outcome, IsOutcome}
use Rattle.mst_sweeping.specs.sweep.Failures.{Event, failed}
use Rattle.mst_sweeping.specs.sweep.declared.failure.Failure.{Failure}
use Rattle.mst_sweeping.proofs.sweep_lemmas.Together.{failed_network}
use Rattle.mst_verify.specs.tree_judges.judged.reasons.Judged.{places}
use Rattle.mst_verify.specs.tree_judges.judged.reasons.Named.{OfNetwork, Prior, nothing_before, with_before}
use Rattle.mst_verify.specs.tree_judges.judged.reasons.Placed.{AreReasonsAfter, AreReasonsAt}
use Rattle.mst_verify.specs.tree_judges.judged.reasons.Reasons.{AreReasons, HasOneList}
use Rattle.mst_verify.specs.tree_judges.judged.reasons.Risks.{events as events_of}
use Rattle.mst_verify.specs.tree_judges.judged.reasons.declared.reason.Reason.{Reason}
use Rattle.mst_telling.specs.Lines.{IsLineTold, unkept_by}
use Rattle.mst_telling.specs.Told.{AreFound, AreLineReasons, Found, IsFoundAt, cause_at, expected_at, has_reason, lacking_rows}
use Rattle.mst_telling.specs.Verified.{Counts, IsVerdict, IsVerified, all_refused, counts_in, joined, judged_in, last_row, promises_in, rows_of_read}

-- ---- lists
-- two lists of what is told of things, each of which tells one only
pub zip_same : {A B : Type 0} (R : A → B → Type 0) (xs : List A) (ys zs : List B) → ((x : A) → Contains xs x → (y z : B) → R x y → R x z → y ≡ z) → AllZip R xs ys → AllZip R xs zs → ys ≡ zs
zip_same R [] [] [] one h k = refl
zip_same R [] (y ∷ ys) zs one h k = absurd h
zip_same R [] [] (z ∷ zs) one h k = absurd k
zip_same R (x ∷ xs) [] zs one h k = absurd h
zip_same R (x ∷ xs) (y ∷ ys) [] one h k = absurd k
zip_same R (x ∷ xs) (y ∷ ys) (z ∷ zs) one h k =
    let first = one x (here x xs) y z h.0 k.0 in
    let others = zip_same R xs ys zs (λ w c. one w (there x w xs c)) h.1 k.1 in
    λ i. first i ∷ others i

-- of each thing something is told
pub zip_some : {A B : Type 0} (R : A → B → Type 0) (xs : List A) → ((x : A) → Contains xs x → (y : B) × R x y) → (ys : List B) × AllZip R xs ys
zip_some R [] some = ([], tt)
zip_some R (x ∷ xs) some =
    let first = some x (here x xs) in
    let rest = zip_some R xs (λ w c. some w (there x w xs c)) in
    (first.0 ∷ rest.0, (first.1, rest.1))

module _ (net : Net) (o : Outcome) (is : IsNetwork net) (are : IsOutcome net o) (prior : Prior) (events : List Event) where
  -- ---- at most one
  module _ (single : (net : Net) (o p : Outcome) → IsNetwork net → IsOutcome net o → IsOutcome net p → o ≡ p)
      (one : (net : Net) (o : Outcome) (before : Net) (lost : List Failure) (prior : Prior) (e : Expectation) → IsNetwork net → IsOutcome net o → HasOneList net o before lost prior e) where
    pub after_same : (failures : List Failure) (e : Expectation) (reasons others : List Reason) → AreReasonsAfter net o prior failures e reasons → AreReasonsAfter net o prior failures e others → reasons ≡ others
    after_same failures e reasons others x y =
        let new : Net = failed failures net in
        let ok : IsNetwork new = failed_network failures net is in
        let outcome : y.outcome ≡ x.outcome = single new y.outcome x.outcome ok y.is_outcome x.is_outcome in
        let other : AreReasons new x.outcome net failures (with_before net o prior) e others = subst (λ p. AreReasons new p net failures (with_before net o prior) e others) outcome y.are in
        one new x.outcome net failures (with_before net o prior) e ok x.is_outcome reasons others x.are other

    at_same : (place : Option Event) (e : Expectation) (reasons others : List Reason) → AreReasonsAt net o prior place e reasons → AreReasonsAt net o prior place e others → reasons ≡ others
    at_same None e reasons others x y = one net o net [] prior e is are reasons others x y
    at_same (Some event) e reasons others x y = after_same event.failures e reasons others x y

    module _ (line : PolicyLine) where
      reasons_same : (place : Option Event) (reasons others : List Reason) → AreLineReasons net o prior events line place reasons → AreLineReasons net o prior events line place others → reasons ≡ others
      reasons_same place reasons others = go (expected_at net events (is_some prior.before) line place)
        where
          go : (expected : Option Expectation) → MatchOption expected (reasons ≡ []) (λ e. AreReasonsAt net o prior place e reasons) → MatchOption expected (others ≡ []) (λ e. AreReasonsAt net o prior place e others) → reasons ≡ others
          go None x y = x ∙ sym y
          go (Some e) x y = at_same place e reasons others x y

      place_same : (place : Option Event) → Contains (places events) place → (f g : Found) → IsFoundAt net o prior events line place f → IsFoundAt net o prior events line place g → f ≡ g
      place_same place h f g x y =
          let reasons = reasons_same place f.reasons g.reasons x.are y.are in
          λ i. record { place = (x.at ∙ sym y.at) i; reasons = reasons i }

      pub found_same : (found other : List Found) → AreFound net o prior events line found → AreFound net o prior events line other → found ≡ other
      found_same found other x y = x.are ∙ ap (filter has_reason) (zip_same (IsFoundAt net o prior events line) (places events) x.all y.all place_same x.each y.each) ∙ sym y.are

    pub told_same : (line : PolicyLine) (rows other : List Row) → IsLineTold net o prior events line rows → IsLineTold net o prior events line other → rows ≡ other
    told_same line rows other x y = x.are ∙ ap (λ found. lacking_rows net events line ++ unkept_by line.number line.read found) (found_same line x.found y.found x.are_found y.are_found) ∙ sym y.are

  -- ---- and one at least
  module _ (of : OfNetwork prior) (outcomes : (net : Net) → IsNetwork net → (o : Outcome) × IsOutcome net o)
      (some : (net : Net) (o : Outcome) (before : Net) (lost : List Failure) (prior : Prior) (e : Expectation) → IsNetwork net → IsOutcome net o → OfNetwork prior → (reasons : List Reason) × AreReasons net o before lost prior e reasons) where
    some_after : (failures : List Failure) (e : Expectation) → (reasons : List Reason) × AreReasonsAfter net o prior failures e reasons
    some_after failures e =
        let new : Net = failed failures net in
        let ok : IsNetwork new = failed_network failures net is in
        let p = outcomes new ok in
        let r = some new p.0 net failures (with_before net o prior) e ok p.1 is in
        (r.0, record { outcome = p.0; is_outcome = p.1; are = r.1 })

    some_at : (place : Option Event) (e : Expectation) → (reasons : List Reason) × AreReasonsAt net o prior place e reasons
    some_at None e = some net o net [] prior e is are of
    some_at (Some event) e = some_after event.failures e

    module _ (line : PolicyLine) where
      some_reasons : (place : Option Event) → (reasons : List Reason) × AreLineReasons net o prior events line place reasons
      some_reasons place = go (expected_at net events (is_some prior.before) line place)
        where
          go : (expected : Option Expectation) → (reasons : List Reason) × MatchOption expected (reasons ≡ []) (λ e. AreReasonsAt net o prior place e reasons)
          go None = ([], refl)
          go (Some e) = some_at place e

      some_place : (place : Option Event) → Contains (places events) place → (f : Found) × IsFoundAt net o prior events line place f
      some_place place h = let r = some_reasons place in (record { place = cause_at place; reasons = r.0 }, record { at = refl; are = r.1 })

      pub some_found : (found : List Found) × AreFound net o prior events line found
      some_found = let z = zip_some (IsFoundAt net o prior events line) (places events) some_place in (filter has_reason z.0, record { all = z.0; each = z.1; are = refl })

    pub some_told : (line : PolicyLine) → (rows : List Row) × IsLineTold net o prior events line rows
    some_told line = let f = some_found line in (lacking_rows net events line ++ unkept_by line.number line.read f.0, record { found = f.0; are_found = f.1; are = refl })

-- ---- the whole of a network
module _ (net : Net) (o : Outcome) (lines : List PolicyLine) where
  abbrev those : List Event
  those = events_of net lines

  pub verified_same : ((line : PolicyLine) (found other : List Found) → AreFound net o nothing_before those line found → AreFound net o nothing_before those line other → found ≡ other)
      → (c d : Counts) (rows other : List Row) → IsVerified net o lines c rows → IsVerified net o lines d other → (c ≡ d) × (rows ≡ other)
  verified_same one c d rows other x y =
      let told : x.told ≡ y.told =
      zip_same (IsVerdict net o those) lines x.told y.told
      (λ line _ a b v w. v.are ∙ ap (rows_of_read line.number line.read) (one line v.found w.found v.are_found w.are_found) ∙ sym w.are) x.each y.each in (
        x.counted ∙ ap (counts_in net lines) told ∙ sym y.counted,
        x.are ∙ (λ i. all_refused net lines ++ joined (told i) ++ last_row (judged_in net lines) (promises_in net lines (told i)) ∷ []) ∙ sym y.are,
      )

  pub verified_some : ((line : PolicyLine) → (found : List Found) × AreFound net o nothing_before those line found) → (counts : Counts) × (rows : List Row) × IsVerified net o lines counts rows
  verified_some some =
      let z = zip_some (IsVerdict net o those) lines (λ line _. let f = some line in (rows_of_read line.number line.read f.0, record { found = f.0; are_found = f.1; are = refl })) in (
        counts_in net lines z.0,
        all_refused net lines ++ joined z.0 ++ last_row (judged_in net lines) (promises_in net lines z.0) ∷ [],
        record { told = z.0; each = z.1; counted = refl; are = refl },
      )
