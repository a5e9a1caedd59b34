-- The trees that are marked for a record, and what is set in them.
use Rattle.std.proofs.Common.{◌≡◌, ◌≤◌, ℕ, Bool, true, false, cond, ◌&&◌, List, [], Option, Some, None, nat_le, refl, sym, ap, ◌∙◌, true≢false}
use Rattle.std.specs.Option.{unwrap_or}
use Rattle.std.specs.Map.{lookup}
use Rattle.std.specs.declared.cmp.Ordering.{Ordering}
use Rattle.std.proofs.lemmas.Bool.{le-leb}
use Rattle.mst_records.specs.Blocks.{in_block, is_marked, in_trees}
use Rattle.mst_tables.proofs.Somes.{no_some}
use Rattle.mst_tables.proofs.Keyed.{IsKeyed, same_keys}
use Rattle.mst_tables.proofs.Changed.{itself}

-- ---- a tree that is marked for a record
module _ {K : Type 0} {E : K → K → Bool} {R : K → K → Ordering} (keys : IsKeyed E R) (old new : List (K × List Bool)) (key : K) (at : ℕ) where
  -- what was marked still is
  pub still_marked : ((q : K) (other : ℕ) → cond (E key q) (is_marked E old key other) (is_marked E old q other) ≡ true → is_marked E new q other ≡ true)
      → (q : K) (other : ℕ) → is_marked E old q other ≡ true → is_marked E new q other ≡ true
  still_marked still q other was = still q other (by (E key q) refl)
    where
      by : (t : Bool) → E key q ≡ t → cond t (is_marked E old key other) (is_marked E old q other) ≡ true
      by true e = ap (λ k. is_marked E old k other) (same_keys keys key q e) ∙ was
      by false e = was

  -- and the tree is
  pub now_marked : ((q : K) → E key q ≡ true → is_marked E new q at ≡ true) → (q : K) (other : ℕ) → key ≡ q → other ≡ at → is_marked E new q other ≡ true
  now_marked marked q other here is = ap (λ n. is_marked E new q n) is ∙ marked q (ap (λ k. E key k) (sym here) ∙ itself keys key)

-- ---- tables by record and tree
module _ {K Q X : Type 0} {E : K → K → Bool} {F : Q → Q → Bool} {R : K → K → Ordering} {S : Q → Q → Ordering} (keys : IsKeyed E R) (keyed : IsKeyed F S) (of : Q → K) (tree : Q → ℕ) where
  -- whatever is set is set in a tree that is marked
  abbrev pub Marked : List (Q × X) → List (K × List Bool) → Type 0
  Marked es marks = (q : Q) (x : X) → lookup (F q) es ≡ Some x → is_marked E marks (of q) (tree q) ≡ true

  -- so it is where a tree is marked, and a value is kept in that tree, or none
  pub kept_marked : (old new : List (K × List Bool)) (es fs : List (Q × X)) (k : Q) (given : Option X)
      → ((q : K) → E (of k) q ≡ true → is_marked E new q (tree k) ≡ true)
      → ((q : K) (other : ℕ) → cond (E (of k) q) (is_marked E old (of k) other) (is_marked E old q other) ≡ true → is_marked E new q other ≡ true)
      → ((q : Q) → lookup (F q) fs ≡ cond (F k q) given (lookup (F q) es)) → Marked es old → Marked fs new
  kept_marked old new es fs k given marked still kept are q x there = by (F k q) refl (sym (kept q) ∙ there)
    where
      by : (t : Bool) → F k q ≡ t → cond t given (lookup (F q) es) ≡ Some x → is_marked E new (of q) (tree q) ≡ true
      by true e h = let here : k ≡ q = same_keys keyed k q e in now_marked keys old new (of k) (tree k) marked (of q) (tree q) (ap of here) (ap tree (sym here))
      by false e h = still_marked keys old new (of k) (tree k) still (of q) (tree q) (are q x h)

  -- what is set for a record is in the trees that are marked for it
  pub in_its_trees : (old : List (K × List Bool)) (es : List (Q × X)) (key : K) (flags : List Bool) → ((tree : ℕ) → in_block flags tree ≡ is_marked E old key tree)
      → ((q : Q) (x : X) → lookup (F q) es ≡ Some x → tree q ≤ 4094) → Marked es old → (q : Q) (x : X) → E key (of q) ≡ true → lookup (F q) es ≡ Some x → in_trees flags (tree q) ≡ true
  in_its_trees old es key flags are_flags small are q x e there =
      ap (λ b. b && nat_le (tree q) 4094) (are_flags (tree q) ∙ ap (λ k. is_marked E old k (tree q)) (same_keys keys key (of q) e) ∙ are q x there)
      ∙ le-leb (tree q) 4094 (small q x there)

  -- what is left where all is forgotten that is set for a record in the trees that are marked for it
  pub left_marked : (old new : List (K × List Bool)) (es fs : List (Q × X)) (key : K) (flags : List Bool) → ((tree : ℕ) → in_block flags tree ≡ is_marked E old key tree)
      → ((q : K) → lookup (E q) new ≡ cond (E key q) None (lookup (E q) old)) → ((q : Q) → lookup (F q) fs ≡ cond (E key (of q) && in_trees flags (tree q)) None (lookup (F q) es))
      → ((q : Q) (x : X) → lookup (F q) es ≡ Some x → tree q ≤ 4094) → Marked es old → Marked fs new
  left_marked old new es fs key flags are_flags left gone small are q x there = by (E key (of q)) (in_trees flags (tree q)) refl refl (sym (gone q) ∙ there)
    where
      by : (t u : Bool) → E key (of q) ≡ t → in_trees flags (tree q) ≡ u → cond (t && u) None (lookup (F q) es) ≡ Some x → is_marked E new (of q) (tree q) ≡ true
      by true true e f h = absurd (no_some x h)
      by true false e f h = absurd (true≢false (sym (in_its_trees old es key flags are_flags small are q x e h) ∙ f))
      by false u e f h = ap (λ o. in_block (unwrap_or o []) (tree q)) (left (of q) ∙ ap (λ t. cond t None (lookup (E (of q)) old)) e) ∙ are q x h
