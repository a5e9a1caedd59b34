-- By what the networks of a change are judged.
use Rattle.std.proofs.Common.{◌≡◌, ◌==◌, ℕ, Bool, true, false, List, None, Some, refl, sym, ap, subst}
use Rattle.std.specs.Prelude.{if◌then◌else◌}
use Rattle.std.proofs.lemmas.Bool.{eqb-true, eq-eqb}
use Rattle.mst_net.specs.tables.Tables.{Net}
use Rattle.mst_policy.specs.Leaving.{leaving_of}
use Rattle.mst_policy.specs.declared.policy.PolicyLine.{PolicyLine}
use Rattle.mst_sweeping.specs.sweep.vlan.Carried.{ViewWithTrees}
use Rattle.mst_forest.specs.Outcome.{IsOutcome, Outcome}
use Rattle.mst_forest.specs.Settled.{outcome_of}
use Rattle.mst_verify.specs.tree_judges.judged.reasons.Named.{Prior}
use Rattle.mst_telling.specs.Judged.{told_in}
use Rattle.mst_telling.specs.declared.judgement.Judgement.{Judgement}
use Rattle.mst_verdict.specs.Verifying.{IsPriorOf, Judges}
use Rattle.mst_verdict.specs.Stepping.{AreRowsIn, Watch, prior_at}
use Rattle.mst_verdict.specs.Taking.{IsWatching}
use Rattle.mst_verdict.specs.declared.stepping.Watching.{Watching}

-- the outcome of the first is settled
pub was_settled : (c : ViewWithTrees) (prior : Net × Outcome) → IsPriorOf c prior → IsOutcome prior.0 prior.1
was_settled c prior is = subst (λ (o : Outcome). IsOutcome prior.0 o) is.outcome_is (subst (λ (net : Net). IsOutcome net (outcome_of is.network)) is.net_is is.settled.is_outcome)

-- the number of a network, where it isn't 0
not_first : (n : ℕ) → (n ≡ 0 → ⊥) → (n == 0) ≡ false
not_first n later = of_flag (n == 0) refl
  where
    of_flag : (b : Bool) → (n == 0) ≡ b → (n == 0) ≡ false
    of_flag true e = absurd (later (eqb-true n 0 e))
    of_flag false e = e

module _ (j : Watching) (w : Watch) (is : IsWatching j w) (net : Net) (n : ℕ) (judgement : Judgement) where
  -- what was judged by them is judged by these
  judged_by : (p : Prior) → p ≡ prior_at w n → Judges net p (n == j.last) j.lines.now (told_in j.lines.now judgement) → AreRowsIn w n net (told_in w.lines judgement)
  judged_by p e h =
      subst (λ (lines : List PolicyLine). Judges net (prior_at w n) (n == w.last) lines (told_in lines judgement)) (sym is.lines)
      (subst (λ k. Judges net (prior_at w n) (n == k) j.lines.now (told_in j.lines.now judgement)) (sym is.last)
      (subst (λ (prior : Prior). Judges net prior (n == j.last) j.lines.now (told_in j.lines.now judgement)) e h))

  -- network 0, and another one
  abbrev prior_by : Bool → Prior
  prior_by b = record { before = if b then None else Some (w.first, w.outcome); leaving = leaving_of w.lines }

  pub judged_first : n ≡ 0 → Judges net (record { before = None; leaving = leaving_of w.lines }) (n == j.last) j.lines.now (told_in j.lines.now judgement) → AreRowsIn w n net (told_in w.lines judgement)
  judged_first e h = judged_by (prior_by true) (sym (ap prior_by (eq-eqb n 0 e))) h

  pub judged_later : (n ≡ 0 → ⊥) → Judges net (record { before = Some (w.first, w.outcome); leaving = leaving_of w.lines }) (n == j.last) j.lines.now (told_in j.lines.now judgement) → AreRowsIn w n net (told_in w.lines judgement)
  judged_later later h = judged_by (prior_by false) (sym (ap prior_by (not_first n later))) h
