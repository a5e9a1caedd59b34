-- The runs of the set of one VID, and of none.
use Rattle.std.proofs.Common.{◌≡◌, ◌≢◌, ℕ, ◌+◌, ◌-◌, ◌<◌, ◌≤◌, ◌||◌, Bool, true, false, List, [], ◌∷◌, sym, ◌∙◌, arith}
use Rattle.std.specs.Prelude.{◌&&◌, nat_le}
use Rattle.std.proofs.lemmas.Bool.Decides.{nat_tests}
use Rattle.mst_ids.specs.Vids.{has, is_within, runs_from, set_where}
use Rattle.mst_ids.specs.VidBits.{has-set_where, length-set_where}
use Rattle.mst_ids.proofs.VidTextLemmas.{next_run, no_next_run}
use Rattle.mst_text.specs.VlanText.{alone}

abbrev none : List Bool
none = set_where (λ _. false)

pub no_runs : runs_from 0 none ≡ []
no_runs = no_next_run none 0 4096 (omega arith) (sym (length-set_where (λ _. false))) (λ n _ small. has-set_where (λ _. false) n small)

-- what none has, or the VID
abbrev is_it : ℕ → ℕ → Bool
is_it vid n = has none n || is_within (vid, vid) n

here : (t : Bool) (vid n : ℕ) → t ≡ false → n ≡ vid → (t || (nat_le vid n && nat_le n vid)) ≡ true
here t vid n none same = grind (arith, nat_tests)

elsewhere : (t : Bool) (vid n : ℕ) → t ≡ false → n ≢ vid → (t || (nat_le vid n && nat_le n vid)) ≡ false
elsewhere t vid n none other = grind (arith, nat_tests)

module _ (vid : ℕ) (least : 1 ≤ vid) (greatest : vid ≤ 4094) where
  abbrev set : List Bool
  set = set_where (is_it vid)

  had : (n : ℕ) → n < 4096 → n ≡ vid → has set n ≡ true
  had n small same = has-set_where (is_it vid) n small ∙ here (has none n) vid n (has-set_where (λ _. false) n small) same

  not_had : (n : ℕ) → n < 4096 → n ≢ vid → has set n ≡ false
  not_had n small other = has-set_where (is_it vid) n small ∙ elsewhere (has none n) vid n (has-set_where (λ _. false) n small) other

  -- it is one run of one
  pub one_run : runs_from 0 set ≡ alone vid
  one_run =
      let long = length-set_where (is_it vid) in
      let last : (vid + 1) - 1 ≡ vid = omega arith in
      let none_left = no_next_run set (((vid + 1) - 1) + 1) 4096 (omega arith) (sym long) (λ n from small. not_had n small (λ e. omega arith)) in
      next_run set 0 vid (vid + 1) long (omega arith) (λ n _ before. not_had n (omega arith) (λ e. omega arith)) (omega arith) (omega arith) (λ n from before. had n (omega arith) (omega arith)) (not_had (vid + 1) (omega arith) (λ e. omega arith))
      ∙ λ i. (vid, last i) ∷ none_left i
