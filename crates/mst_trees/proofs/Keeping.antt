-- The bound on the settlings of a forest's trees.
use Rattle.std.proofs.Common.{◌≡◌, ◌≢◌, ℕ, ◌+◌, ◌<◌, ◌≤◌, Bool, true, false, cond, nat_eq, List, [], ◌∷◌, length, Option, Some, None, is_some, Result, Ok, Err, IfOk, refl, sym, ap, subst, ◌∙◌, true≢false, arith}
use Rattle.std.specs.Option.{option_and_then, option_map_or}
use Rattle.std.specs.Ordering.{nat_cmp}
use Rattle.std.specs.Cmp.{Equal-is}
use Rattle.std.specs.List.{Contains, filter, range_with_len}
use Rattle.std.specs.List.Sorted.{IsStrictlyIncreasing}
use Rattle.std.specs.Map.{lookup}
use Rattle.std.specs.BTreeMap.{is_at}
use Rattle.std.specs.declared.alloc.AllocError.{AllocError}
use Rattle.std.proofs.lemmas.Bool.Decides.{Decides-eqb}
use Rattle.std.proofs.lemmas.Cmp.{nat_eq_equiv}
use Rattle.std.proofs.lemmas.List.FromFn.{length-range_with_len, get_or-range_with_len}
use Rattle.std.proofs.lemmas.List.Kept.{IsStrictlyIncreasing-filter, AllPairs-from_increasing}
use Rattle.std.proofs.lemmas.Map.Lookups.{exact_unsigned}
use Rattle.std.proofs.lemmas.Map.Made.{is_member-Decides, length-le_from_is_member, IsDistinct-from_AllPairs}
use Rattle.mst_vector.specs.Cist.{cist_rules}
use Rattle.mst_vector.specs.declared.msti.MstiVector.{MstiVector}
use Rattle.mst_forest.specs.outcome.Assignment.{Assignment, vector_of}
use Rattle.mst_forest.specs.topology.Repair.{WithinBounds, CountsVectors}
use Rattle.mst_view.specs.Viewed.{Viewed}
use Rattle.mst_view.specs.declared.in_view.PortInView.{PortInView}
use Rattle.mst_trees.specs.SettledBy.{IsSettledBy}
use Rattle.mst_forest.specs.Seen.{cist_seen}
use Rattle.mst_trees.specs.Mstis.{AreOutcomes}
use Rattle.mst_trees.specs.Bound.{KeepsBound, IsSettledOnce, KeepsBounds}
use Rattle.mst_forest.specs.Forest.{msti_vector, msti_settlings, Forest}
use Rattle.mst_forest.proofs.Lists.{no_some, all_there, all_contained, all_passing, length_filtered, contains_filtered}

-- what passes is an element, and passes
from_filtered : {A : Type 0} (test : A → Bool) (xs : List A) (x : A) → Contains (filter test xs) x → Contains xs x × (test x ≡ true)
from_filtered {A} test xs x =
    all_contained (λ x. Contains xs x × (test x ≡ true)) (filter test xs) x
    (all_passing (Contains xs) (λ x. Contains xs x × (test x ≡ true)) test (λ x c t. (c, t)) xs (all_there xs))

is_there : {A : Type 0} (o : Option A) → is_some o ≡ true → o ≢ None
is_there o e none = true≢false (sym e ∙ ap is_some none)

there_is : {A : Type 0} (o : Option A) → o ≢ None → is_some o ≡ true
there_is None other = absurd (other refl)
there_is (Some x) other = refl

-- ---- a tree that is repaired
pub keeps_bound : {V : Type 0} (before after : ℕ → Option V) (settlings : ℕ) → WithinBounds before after settlings → KeepsBound before after settlings
keeps_bound before after settlings b = record {
  changed = b.changed;
  changed_ascend = b.ascending;
  are_changed = b.exactly;
  settled = filter (λ n. is_some (after n)) b.changed;
  settled_ascend = IsStrictlyIncreasing-filter (λ n. is_some (after n)) b.changed b.ascending;
  are_settled = λ n. (
    λ c. let f = from_filtered (λ n. is_some (after n)) b.changed n c in ((b.exactly n).0 f.0, is_there (after n) f.1),
    λ h. contains_filtered (λ n. is_some (after n)) b.changed n ((b.exactly n).1 h.0) (there_is (after n) h.1),
  );
  at_least = let least = b.at_least in let fewer = length_filtered (λ n. is_some (after n)) b.changed in omega arith;
  at_most = b.at_most;
  from_nothing = b.from_nothing;
}

-- ---- a tree that is gone
range_ascends : (n : ℕ) → IsStrictlyIncreasing (range_with_len 0 n)
range_ascends n k l =
    let size = length-range_with_len 0 n in
    let here = get_or-range_with_len 0 n k 0 (omega arith) in
    let next = get_or-range_with_len 0 n (k + 1) 0 (omega arith) in
    omega arith

in_range : (n k : ℕ) → k < n → Contains (range_with_len 0 n) k
in_range n k l = let size = length-range_with_len 0 n in (k, omega arith, get_or-range_with_len 0 n k k l ∙ omega arith)

-- the bridges that had a vector change, and none is settled
none_after : {V : Type 0} (before : ℕ → Option V) (end : ℕ) → ((n : ℕ) → before n ≢ None → n < end) → KeepsBound before (λ n. None) 0
none_after before end below = record {
  changed = filter (λ n. is_some (before n)) (range_with_len 0 end);
  changed_ascend = IsStrictlyIncreasing-filter (λ n. is_some (before n)) (range_with_len 0 end) (range_ascends end);
  are_changed = λ n. (
    λ c. is_there (before n) (from_filtered (λ n. is_some (before n)) (range_with_len 0 end) n c).1,
    λ other. contains_filtered (λ n. is_some (before n)) (range_with_len 0 end) n (in_range end n (below n other)) (there_is (before n) other),
  );
  settled = [];
  settled_ascend = λ k l. absurd (omega arith);
  are_settled = λ n. (λ c. let l = c.1 in absurd (omega arith), λ h. absurd (h.1 refl));
  at_least = omega arith;
  at_most = omega arith;
  from_nothing = λ none. omega arith;
}

-- a number above each key
above : {X : Type 0} → List (ℕ × X) → ℕ
above [] = 0
above (e ∷ es) = e.0 + 1 + above es

key_below : {X : Type 0} (es : List (ℕ × X)) (n : ℕ) (x : X) → lookup (is_at (nat_cmp n)) es ≡ Some x → n < above es
unfolding above
key_below [] n x e = absurd (no_some x e)
key_below {X} (f ∷ es) n x e = go (is_at (nat_cmp n) f.0) refl e (key_below es n x)
  where
    go : (b : Bool) → is_at (nat_cmp n) f.0 ≡ b → cond b (Some f.1) (lookup (is_at (nat_cmp n)) es) ≡ Some x → (lookup (is_at (nat_cmp n)) es ≡ Some x → n < above es) → n < above (f ∷ es)
    go true t g rest = let same : n ≡ f.0 = exact_unsigned n f.0 ((Equal-is (nat_cmp n f.0)).0 t) in omega arith
    go false t g rest = let l = rest g in omega arith

vector_below : {V : Type 0} (a : Assignment V) (n : ℕ) → vector_of a n ≢ None → n < above a.bridges
vector_below {V} a n other = go (lookup (is_at (nat_cmp n)) a.bridges) refl
  where
    go : (o : Option (Option V)) → lookup (is_at (nat_cmp n)) a.bridges ≡ o → n < above a.bridges
    go None e = absurd (other (rw e refl))
    go (Some o) e = key_below a.bridges n o e

gone : {V : Type 0} (x : Option (Assignment V)) → KeepsBound (λ n. option_and_then (λ a. vector_of a n) x) (λ n. None) 0
gone None = none_after (λ n. None) 0 (λ n other. absurd (other refl))
gone (Some a) = none_after (vector_of a) (above a.bridges) (vector_below a)

-- ---- the trees of a forest
pub keeps_bounds : (old new : Forest) (v : Viewed) (region_ids : List (ℕ × ℕ)) → IsSettledBy cist_rules (cist_seen v region_ids) (vector_of old.cist) new.cist
    → (internal : List PortInView) → AreOutcomes v internal old.mstis new.mstis → KeepsBounds old new
keeps_bounds old new v region_ids settled internal are = record {
  cist = keeps_bound (vector_of old.cist) (vector_of new.cist) new.cist.settlings settled.bounds;
  mstis = λ tree. go tree (lookup (nat_eq tree) new.mstis) refl;
}
  where
    to : (tree : ℕ) (x : Option (Assignment MstiVector)) → lookup (nat_eq tree) new.mstis ≡ x
        → KeepsBound (msti_vector old tree) (λ n. option_and_then (λ a. vector_of a n) x) (option_map_or (λ a. a.settlings) x 0) → KeepsBound (msti_vector old tree) (msti_vector new tree) (msti_settlings new tree)
    to tree x e = subst (λ (y : Option (Assignment MstiVector)). KeepsBound (msti_vector old tree) (λ n. option_and_then (λ a. vector_of a n) y) (option_map_or (λ a. a.settlings) y 0)) (sym e)

    go : (tree : ℕ) (x : Option (Assignment MstiVector)) → lookup (nat_eq tree) new.mstis ≡ x → KeepsBound (msti_vector old tree) (msti_vector new tree) (msti_settlings new tree)
    go tree None e = to tree None e (gone (lookup (nat_eq tree) old.mstis))
    go tree (Some a) e = to tree (Some a) e (keeps_bound (msti_vector old tree) (vector_of a) a.settlings (are.settled tree a e).bounds)

-- ---- from nothing
-- numbers that ascend are no more than those that they are among
as_many : (xs ys : List ℕ) → IsStrictlyIncreasing xs → ((n : ℕ) → Contains xs n → Contains ys n) → length xs ≤ length ys
as_many xs ys ascend within =
    length-le_from_is_member nat_eq_equiv xs ys
    (IsDistinct-from_AllPairs Decides-eqb xs (λ i j d l m e. let less = AllPairs-from_increasing xs ascend i j d l m in absurd (omega arith)))
    (λ q e. (is_member-Decides Decides-eqb ys q).1 (within q ((is_member-Decides Decides-eqb xs q).0 e)))

counts_vectors : {V : Type 0} (before after : ℕ → Option V) (settlings : ℕ) → ((n : ℕ) → before n ≡ None) → KeepsBound before after settlings → CountsVectors after settlings
counts_vectors before after settlings none b = record {
  numbers = b.changed;
  ascending = b.changed_ascend;
  exactly = λ n. (λ c e. (b.are_changed n).0 c (none n ∙ sym e), λ other. (b.are_changed n).1 (λ e. other (sym e ∙ none n)));
  counted =
      let all = as_many b.changed b.settled b.changed_ascend (λ n c. (b.are_settled n).1 ((b.are_changed n).0 c, λ e. (b.are_changed n).0 c (none n ∙ sym e))) in
      let least = b.at_least in let most = b.from_nothing none in omega arith;
}

pub settled_once : (nothing : Forest) → ((n : ℕ) → vector_of nothing.cist n ≡ None) → ((tree n : ℕ) → msti_vector nothing tree n ≡ None)
    → (r : Result Forest AllocError) → IfOk r (KeepsBounds nothing) → IfOk r IsSettledOnce
settled_once nothing cist mstis (Ok f) b = record {
  cist = counts_vectors (vector_of nothing.cist) (vector_of f.cist) f.cist.settlings cist b.cist;
  mstis = λ tree. counts_vectors (msti_vector nothing tree) (msti_vector f tree) (msti_settlings f tree) (mstis tree) (b.mstis tree);
}
settled_once nothing cist mstis (Err e) b = tt
