-- What pairs of failures do: what is kept of single ones, how many pairs there are, and pieces of them.
use Rattle.std.proofs.Common.{◌≡◌, ℕ, ◌+◌, ◌-◌, ◌*◌, ◌/◌, ◌≤◌, ◌<◌, zero, suc, Bool, true, false, cond, List, [], ◌∷◌, ◌++◌, length, map, take, drop, get_or, min, refl, sym, ap, subst, ◌∙◌, arith, drop-cons, length-append}
use Rattle.std.specs.FinMap as fin
use Rattle.std.specs.List.{AllByRecursion, filter}
use Rattle.std.specs.Option.{option_map}
use Rattle.std.proofs.lemmas.List.{length-map, length-drop, map-append, get_or-map, drop-drop}
use Rattle.std.proofs.lemmas.Nat.{div-mul-add}
use Rattle.mst_net.specs.tables.Tables.{Net, Numbers, BridgeRow, LanRow, IsNetwork}
use Rattle.mst_plan.specs.forest.Outcome.{Outcome}
use Rattle.mst_sweep.specs.vlan.Reach.{bridges_on}
use Rattle.mst_sweep.specs.declared.baseline.Baseline.{Baseline}
use Rattle.mst_sweep.specs.declared.failure.Failure.{Failure}
use Rattle.mst_sweep.specs.declared.failure.Failure.TheVariants.{Lan, Bridge}
use Rattle.mst_sweep.specs.declared.single.Single.{Single}
use Rattle.mst_sweep.specs.Failures.{failures}
use Rattle.mst_sweep.specs.Pairs.{pairs_of, with_each}
use Rattle.mst_sweep.proofs.Windows.{piece, piece_joined, piece_mapped, twice}
use Rattle.mst_sweeping.specs.Pairing.{IsSingle, AreSingles, HasHomes}
use Rattle.mst_sweeping.proofs.SweepThere.{all_joined}

-- ---- single failures
module _ (net : Net) (numbers : Numbers) (o : Outcome) (firsts : Baseline) where
  pub no_singles : AreSingles net numbers o firsts [] []
  no_singles = record { failures = refl; each = tt }

  pub more_singles : (fs : List Failure) (ss : List Single) (f : Failure) (s : Single) → AreSingles net numbers o firsts fs ss → s.failure ≡ f → IsSingle net numbers o firsts s → (gs : List Failure) → gs ≡ fs ++ f ∷ [] → (ts : List Single) → ts ≡ ss ++ s ∷ []
      → AreSingles net numbers o firsts gs ts
  more_singles fs ss f s are e is gs gs_are ts ts_are =
      subst (AreSingles net numbers o firsts gs) (sym ts_are) (record {
        failures = map-append (λ s. s.failure) ss (s ∷ []) ∙ (λ i. are.failures i ++ e i ∷ []) ∙ sym gs_are;
        each = all_joined (IsSingle net numbers o firsts) ss (s ∷ []) are.each (is, tt);
      })

  pub all_homes : (ss : List Single) → AllByRecursion (IsSingle net numbers o firsts) ss → AllByRecursion (HasHomes firsts) ss
  all_homes [] h = tt
  all_homes (s ∷ ss) h = (sym (length-map s.homes.items (option_map (λ homes. homes.entries))) ∙ h.0.kept.as_long, all_homes ss h.1)

-- ---- how many there are
filter_short : {A : Type 0} (test : A → Bool) (xs : List A) → length (filter test xs) ≤ length xs
filter_short test [] = omega arith
filter_short {A} test (x ∷ xs) = go (test x) (filter_short test xs)
  where
    go : (b : Bool) → length (filter test xs) ≤ length xs → length (cond b (x ∷ filter test xs) (filter test xs)) ≤ length (x ∷ xs)
    go true h = omega (arith, h)
    go false h = omega (arith, h)

pub failures_few : (net : Net) → IsNetwork net → length (failures net) ≤ 9216
failures_few net is =
    let ups = filter (λ (e : List ℕ × LanRow). e.1.is_up) (fin.entries net.lans) in
    let ons = filter (λ (e : List ℕ × BridgeRow). e.1.is_on) (fin.entries net.bridges) in
    let lans : length ups ≤ length (fin.entries net.lans) = filter_short (λ (e : List ℕ × LanRow). e.1.is_up) (fin.entries net.lans) in
    let bridges : length ons ≤ length (fin.entries net.bridges) = filter_short (λ (e : List ℕ × BridgeRow). e.1.is_on) (fin.entries net.bridges) in
    let of_lans : length (map (λ (e : List ℕ × LanRow). Lan e.0) ups) ≡ length ups = length-map ups (λ (e : List ℕ × LanRow). Lan e.0) in
    let names : length (bridges_on net) ≡ length ons = length-map ons (λ (e : List ℕ × BridgeRow). e.0) in
    let of_bridges : length (map Bridge (bridges_on net)) ≡ length (bridges_on net) = length-map (bridges_on net) Bridge in
    let all : length (failures net) ≡ length (map (λ (e : List ℕ × LanRow). Lan e.0) ups) + length (map Bridge (bridges_on net)) = length-append (map (λ (e : List ℕ × LanRow). Lan e.0) ups) (map Bridge (bridges_on net)) in
    let few_lans : length (fin.entries net.lans) ≤ 8192 = subst (λ n. n ≤ 8192) (fin.len-entries net.lans) is.lans.few in
    let few_bridges : length (fin.entries net.bridges) ≤ 1024 = subst (λ n. n ≤ 1024) (fin.len-entries net.bridges) is.bridges.few in
    omega (arith, lans, bridges, of_lans, names, of_bridges, all, few_lans, few_bridges)

-- half of each with each other
pub halved : (n m : ℕ) → 2 * n ≡ m → m / 2 ≡ n
halved n m e =
    let sides : m ≡ n * 2 + 0 = omega (arith, e) in
    ap (λ k. k / 2) sides ∙ div-mul-add n 2 0 (omega arith)

pub pairs_many : (fs : List Failure) (n : ℕ) → n ≡ length fs → n * (n - 1) / 2 ≡ length (pairs_of fs)
pairs_many fs n e = ap (λ k. k * (k - 1) / 2) e ∙ halved (length (pairs_of fs)) (length fs * (length fs - 1)) (twice fs)

-- ---- pieces of pairs
-- the pairs of a failure with each of others are behind those that were, and what is left of a piece of all pairs is less by them
module _ (f : Failure) (fs : List Failure) (b e : ℕ) (order : b ≤ e) where
  abbrev from : ℕ
  from = min b (length fs)

  abbrev to : ℕ
  to = min e (length fs)

  pub next_piece : piece b e (pairs_of (f ∷ fs)) ≡ with_each f (piece from to fs) ++ piece (b - from) (e - to) (pairs_of fs)
  next_piece =
      let long : length (with_each f fs) ≡ length fs = length-map fs (λ second. record { first = f; second = second }) in
      piece_joined b e (with_each f fs) (pairs_of fs) order
      ∙ (λ i. piece (min b (long i)) (min e (long i)) (with_each f fs) ++ piece (b - min b (long i)) (e - min e (long i)) (pairs_of fs))
      ∙ ap (λ l. l ++ piece (b - from) (e - to) (pairs_of fs)) (piece_mapped (λ second. record { first = f; second = second }) from to fs)

-- what a first failure takes off a piece of the pairs of the failures from it on: its pairs with those of some places behind it
pub run_next : (ss : List Single) (fs : List Failure) → map (λ (s : Single). s.failure) ss ≡ fs → (i : ℕ) (s : Single) → s ≡ get_or ss i s → i < length ss → (b e : ℕ) → b ≤ e → (from to : ℕ) → from ≡ min b (length ss - i - 1) → to ≡ min e (length ss - i - 1)
    → piece b e (pairs_of (drop i fs)) ≡ with_each s.failure (map (λ (s : Single). s.failure) (piece (i + 1 + from) (i + 1 + to) ss)) ++ piece (b - from) (e - to) (pairs_of (drop (i + 1) fs))
run_next ss fs is i s s_is l b e order from to from_is to_is =
    let f = s.failure in
    let rest = drop (i + 1) fs in
    let many : length fs ≡ length ss = ap length (sym is) ∙ length-map ss (λ (s : Single). s.failure) in
    let long : length rest ≡ length ss - i - 1 = length-drop (i + 1) fs ∙ omega (arith, many) in
    let here : i < length fs = omega (arith, many, l) in
    let first : get_or fs i f ≡ f = ap (λ l. get_or l i f) (sym is) ∙ get_or-map (λ (s : Single). s.failure) ss i s f l ∙ ap (λ (s : Single). s.failure) (sym s_is) in
    let next : suc i ≡ i + 1 = omega arith in
    let split : drop i fs ≡ f ∷ rest = drop-cons fs i f here ∙ (λ j. first j ∷ drop (next j) fs) in
    let from_too : min b (length rest) ≡ from = ap (min b) long ∙ sym from_is in
    let to_too : min e (length rest) ≡ to = ap (min e) long ∙ sym to_is in
    let apart : (i + 1 + to) - (i + 1 + from) ≡ to - from = omega arith in
    let others : piece from to rest ≡ map (λ (s : Single). s.failure) (piece (i + 1 + from) (i + 1 + to) ss) =
    ap (take (to - from)) (drop-drop from (i + 1) fs) ∙ ap (λ n. take n (drop (i + 1 + from) fs)) (sym apart) ∙ ap (piece (i + 1 + from) (i + 1 + to)) (sym is) ∙ piece_mapped (λ (s : Single). s.failure) (i + 1 + from) (i + 1 + to) ss in
    ap (λ l. piece b e (pairs_of l)) split ∙ next_piece f rest b e order
    ∙ (λ j. with_each f (piece (from_too j) (to_too j) rest) ++ piece (b - from_too j) (e - to_too j) (pairs_of rest))
    ∙ ap (λ l. with_each f l ++ piece (b - from) (e - to) (pairs_of rest)) others

-- what holds of all of a list holds at a place of it
module _ {A : Type 0} (P : A → Type 0) where
  pub at_index : (xs : List A) (i : ℕ) (x : A) → i < length xs → AllByRecursion P xs → P (get_or xs i x)
  at_index [] i x l h = absurd (omega (arith, l))
  at_index (y ∷ ys) zero x l h = h.0
  at_index (y ∷ ys) (suc i) x l h = at_index ys i x (omega (arith, l)) h.1

  pub at_place : (xs : List A) (i : ℕ) (x : A) → x ≡ get_or xs i x → i < length xs → AllByRecursion P xs → P x
  at_place xs i x is l h = subst P (sym is) (at_index xs i x l h)
