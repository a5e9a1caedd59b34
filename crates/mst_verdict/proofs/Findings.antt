-- What is found of a policy's lines, place by place and line by line.
use Rattle.std.proofs.Common.{◌≡◌, ℕ, ◌<◌, zero, suc, Bool, true, false, true≢false, cond, ◌||◌, List, [], ◌∷◌, ◌++◌, length, map, filter, get_or, Option, None, is_some, refl, sym, ap, subst, ◌∙◌, arith, append-nil}
use Rattle.std.specs.Prelude.{MatchBool, MatchOption, slice_index_or}
use Rattle.std.specs.List.{AllByRecursion, AllZip, list_any}
use Rattle.std.proofs.lemmas.List.{map-append}
use Rattle.std.proofs.lemmas.List.Elements.{filter-append}
use Rattle.mst_policy.specs.declared.expectation.Expectation.{Expectation}
use Rattle.mst_policy.specs.declared.policy.PolicyLine.{PolicyLine}
use Rattle.mst_graph.specs.Lists.{has_any}
use Rattle.mst_sweeping.specs.sweep.Failures.{Event}
use Rattle.mst_sweeping.specs.sweep.declared.event.Cause.{Cause}
use Rattle.mst_sweeping.proofs.sweep_lemmas.SweptParts.{zip_joined}
use Rattle.mst_verify.specs.tree_judges.judged.reasons.Judged.{places}
use Rattle.mst_verify.specs.tree_judges.judged.reasons.Placed.{AreReasonsAt}
use Rattle.mst_verify.specs.tree_judges.judged.reasons.Risks.{events}
use Rattle.mst_verify.specs.tree_judges.judged.reasons.declared.missing.Missing.{Missing}
use Rattle.mst_verify.specs.tree_judges.judged.reasons.declared.reason.Reason.{Reason}
use Rattle.mst_telling.specs.Judged.{AreLinesJudged, IsKeptOf, NoneIsKeptOf, found_at, line_found, line_lacks}
use Rattle.mst_telling.specs.Told.{Found, IsFoundAt, cause_at, expected_at, has_reason, is_judged_at, lacked}
use Rattle.mst_telling.specs.declared.judgement.Finding.{Finding}
use Rattle.mst_telling.specs.declared.judgement.Judgement.{Judgement}
use Rattle.mst_verdict.specs.Verifying.{AreFoundOf, AreLacking, AreReasonsEach, AreReasonsOf, FindsAt, FoundIn, IsFoundOf, Sitting, expected_of, found_of, lacks_in}
use Rattle.mst_verdict.proofs.Judgements.{zip_weaker}

-- ---- lists
-- lists of which none has anything have nothing at any place
first_not : (a b : Bool) → (a || b) ≡ false → a ≡ false
first_not true b e = e
first_not false b e = refl

second_not : (a b : Bool) → (a || b) ≡ false → b ≡ false
second_not true b e = absurd (true≢false e)
second_not false b e = e

no_more : {B : Type 0} (ys : List B) → has_any ys ≡ false → ys ≡ []
no_more [] e = refl
no_more (y ∷ ys) e = absurd (true≢false e)

pub none_at : {A B : Type 0} (items : A → List B) (xs : List A) → list_any (λ x. has_any (items x)) xs ≡ false → (n : ℕ) → slice_index_or (map items xs) n [] ≡ []
none_at items [] e n = refl
none_at items (x ∷ xs) e zero = no_more (items x) (first_not (has_any (items x)) (list_any (λ y. has_any (items y)) xs) e)
none_at items (x ∷ xs) e (suc n) = none_at items xs (second_not (has_any (items x)) (list_any (λ y. has_any (items y)) xs) e) n

-- place by place, what stands at a place of both
zip_at : {A B : Type 0} (R : A → B → Type 0) (xs : List A) (ys : List B) (n : ℕ) (x : A) (d : B) → AllZip R xs ys → n < length xs → get_or xs n x ≡ x → R x (slice_index_or ys n d)
zip_at R [] ys n x d h below is = absurd (omega (arith, below))
zip_at R (y ∷ ys) [] n x d h below is = absurd h
zip_at R (y ∷ ys) (z ∷ zs) zero x d h below is = subst (λ w. R w z) is h.0
zip_at R (y ∷ ys) (z ∷ zs) (suc n) x d h below is = zip_at R ys zs n x d h.1 (omega (arith, below)) is

pub all_at : {A : Type 0} (P : A → Type 0) (xs : List A) (n : ℕ) (x : A) → AllByRecursion P xs → n < length xs → get_or xs n x ≡ x → P x
all_at P [] n x h below is = absurd (omega (arith, below))
all_at P (y ∷ ys) zero x h below is = subst P is h.0
all_at P (y ∷ ys) (suc n) x h below is = all_at P ys n x h.1 (omega (arith, below)) is

mapped_at : {A B : Type 0} (f : A → B) (xs : List A) (n : ℕ) (x : A) (d : B) → n < length xs → get_or xs n x ≡ x → slice_index_or (map f xs) n d ≡ f x
mapped_at f [] n x d below is = absurd (omega (arith, below))
mapped_at f (y ∷ ys) zero x d below is = ap f is
mapped_at f (y ∷ ys) (suc n) x d below is = mapped_at f ys n x d (omega (arith, below)) is

-- ---- one place more
pub line_found_more : (n : ℕ) (old : List Finding) (f : Finding) → line_found n (old ++ f ∷ []) ≡ line_found n old ++ filter has_reason (found_at n f ∷ [])
line_found_more n old f = ap (filter has_reason) (map-append (found_at n) old (f ∷ [])) ∙ filter-append has_reason (map (found_at n) old) (found_at n f ∷ [])

-- a place where no line has a reason adds nothing
pub nothing_more : (found : List Found) (place : Option Cause) (reasons : List (List Reason)) (n : ℕ) → slice_index_or reasons n [] ≡ [] → found ≡ found ++ filter has_reason (found_of place reasons n ∷ [])
nothing_more found place reasons n e =
    sym (append-nil found) ∙ ap (λ (those : List Reason). found ++ filter has_reason (record { place = place; reasons = those } ∷ [])) (sym e)

module _ (s : Sitting) where
  -- ---- all lines in one place
  pub finds_by : (lines : List PolicyLine) (place : Option Event) (reasons : List (List Reason)) (old new : List Finding) → AreReasonsEach s lines place reasons
      → ((n : ℕ) → line_found n new ≡ line_found n old ++ filter has_reason (found_of (cause_at place) reasons n ∷ [])) → FindsAt s lines place old new
  finds_by lines place reasons old new are added n line at = record {
    found = found_of (cause_at place) reasons n;
    is = record { at = refl; are = zip_at (λ line those. AreReasonsOf s line place those) lines reasons n line [] are at.below at.is };
    added = added n;
  }

  abbrev nothing : List Reason
  nothing = []

  no_reason : (line : PolicyLine) (place : Option Event) → expected_of s line place ≡ None → AreReasonsOf s line place nothing
  no_reason line place e =
      let same : nothing ≡ nothing = refl in
      subst (λ (expected : Option Expectation). MatchOption expected (nothing ≡ nothing) (λ expectation. AreReasonsAt s.net s.outcome s.prior place expectation nothing)) (sym e) same

  pub finds_none : (lines : List PolicyLine) (place : Option Event) (found : List Finding) → AllByRecursion (λ line. expected_of s line place ≡ None) lines → FindsAt s lines place found found
  finds_none lines place found none n line at = record {
    found = record { place = cause_at place; reasons = nothing };
    is = record { at = refl; are = no_reason line place (all_at (λ line. expected_of s line place ≡ None) lines n line none at.below at.is) };
    added = sym (append-nil (line_found n found));
  }

  -- ---- and place by place
  pub found_none : (lines : List PolicyLine) → FoundIn s lines [] []
  found_none lines n line at = record { all = []; each = tt; are = refl }

  pub found_more : (lines : List PolicyLine) (some : List (Option Event)) (place : Option Event) (old new : List Finding) → FoundIn s lines some old → FindsAt s lines place old new → FoundIn s lines (some ++ place ∷ []) new
  found_more lines some place old new so_far finds n line at =
      let f = finds n line at in
      let x = so_far n line at in
      record {
        all = x.all ++ f.found ∷ [];
        each = zip_joined (IsFoundOf s line) some (place ∷ []) x.all (f.found ∷ []) x.each (f.is, tt);
        are = f.added ∙ ap (λ (l : List Found). l ++ filter has_reason (f.found ∷ [])) x.are ∙ sym (filter-append has_reason x.all (f.found ∷ []));
      }

  -- ---- in all places
  -- what is found of a line that is judged is what is kept of it
  judged_there : (line : PolicyLine) → is_judged_at s.is_last line ≡ true → (place : Option Event) (f : Found) → IsFoundOf s line place f → IsFoundAt s.net s.outcome s.prior s.events line place f
  judged_there line e place f x = record {
    at = x.at;
    are = subst
        (λ b. MatchOption (cond b (expected_at s.net s.events (is_some s.prior.before) line place) None) (f.reasons ≡ []) (λ expectation. AreReasonsAt s.net s.outcome s.prior place expectation f.reasons)) e
        x.are;
  }

  -- and nothing of one that isn't
  not_there : (line : PolicyLine) → is_judged_at s.is_last line ≡ false → (place : Option Event) (f : Found) → IsFoundOf s line place f → f.reasons ≡ []
  not_there line e place f x =
      subst (λ b. MatchOption (cond b (expected_at s.net s.events (is_some s.prior.before) line place) None) (f.reasons ≡ []) (λ expectation. AreReasonsAt s.net s.outcome s.prior place expectation f.reasons)) e
      x.are

  none_found : (line : PolicyLine) → is_judged_at s.is_last line ≡ false → (some : List (Option Event)) (all : List Found) → AllZip (IsFoundOf s line) some all → filter has_reason all ≡ []
  none_found line e [] [] h = refl
  none_found line e [] (f ∷ all) h = absurd h
  none_found line e (place ∷ some) [] h = absurd h
  none_found line e (place ∷ some) (f ∷ all) h =
      ap (λ (those : List Reason). cond (has_any those) (f ∷ filter has_reason all) (filter has_reason all)) (not_there line e place f h.0) ∙ none_found line e some all h.1

  pub lines_judged : (lines : List PolicyLine) (judgement : Judgement) → s.events ≡ events s.net lines → AreLacking s.net s.is_last lines judgement.missing.items → FoundIn s lines (places s.events) judgement.found.items
      → AreLinesJudged s.net s.outcome s.prior s.is_last lines judgement
  lines_judged lines judgement those lacking found n line at = by (found n line at) (is_judged_at s.is_last line) refl
    where
      lacks : line_lacks n judgement ≡ lacks_in s.net s.events s.is_last line
      lacks = ap (λ (l : List (Option Missing)). slice_index_or l n None) lacking ∙ mapped_at (lacks_in s.net (events s.net lines) s.is_last) lines n line None at.below at.is ∙ ap (λ events. lacks_in s.net events s.is_last line) (sym those)

      by : AreFoundOf s line (places s.events) (line_found n judgement.found.items) → (b : Bool) → is_judged_at s.is_last line ≡ b
          → MatchBool b (IsKeptOf s.net s.outcome s.prior (events s.net lines) n line judgement) (NoneIsKeptOf n judgement)
      by x true e = subst (λ events. IsKeptOf s.net s.outcome s.prior events n line judgement) those (record {
        lacks = lacks ∙ ap (λ b. cond b (lacked s.net s.events line.read) None) e;
        found = record { all = x.all; each = zip_weaker (IsFoundOf s line) (IsFoundAt s.net s.outcome s.prior s.events line) (judged_there line e) (places s.events) x.all x.each; are = x.are };
      })
      by x false e = record {
        lacks = lacks ∙ ap (λ b. cond b (lacked s.net s.events line.read) None) e;
        found = x.are ∙ none_found line e (places s.events) x.all x.each;
      }
