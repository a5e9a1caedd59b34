-- The set that a list of VIDs names, item by item.
use Rattle.std.proofs.Common.{◌≡◌, ℕ, ◌+◌, ◌<◌, Bool, true, false, ◌||◌, List, [], ◌∷◌, length, get_or, drop, Option, Some, None, refl, sym, ap, ◌∙◌, arith}
use Rattle.std.proofs.lemmas.List.{at_drop_more, at_drop_all}
use Rattle.std.specs.List.{list_any}
use Rattle.std.specs.Option.{option_map, option_and_then}
use Rattle.mst_ids.specs.Vids.{set_where, has, is_within, range_of, ranges_of, items_of, vids_value}
use Rattle.mst_ids.specs.VidBits.{has-set_where}
use Rattle.mst_ids.proofs.VidSetLemmas.{set_where-same, set_where-has, or_assoc}

-- the numbers that some range covers
abbrev covered : List (ℕ × ℕ) → ℕ → Bool
covered ranges n = list_any (λ range. is_within range n) ranges

-- a set, and what further items name
abbrev pub with_items : List Bool → List (List ℕ) → Option (List Bool)
with_items vids items = option_map (λ ranges. set_where (λ n. has vids n || covered ranges n)) (ranges_of items)

-- what items name is added to the empty set
pub with_items-none : (vids : List Bool) (text : List ℕ) → vids ≡ set_where (λ _. false) → with_items vids (items_of text) ≡ vids_value text
with_items-none vids text is = go (ranges_of (items_of text))
  where
    go : (o : Option (List (ℕ × ℕ))) → option_map (λ ranges. set_where (λ n. has vids n || covered ranges n)) o ≡ option_map (λ ranges. set_where (covered ranges)) o
    go None = refl
    go (Some ranges) = ap Some (set_where-same (λ n. has vids n || covered ranges n) (covered ranges) (λ n h. ap (λ b. b || covered ranges n) (ap (λ s. has s n) is ∙ has-set_where (λ _. false) n h)))

-- one item more
pub with_items-cons : (vids more : List Bool) (range : ℕ × ℕ) (item : List ℕ) (items : List (List ℕ)) → range_of item ≡ Some range → more ≡ set_where (λ n. has vids n || is_within range n) → with_items vids (item ∷ items) ≡ with_items more items
with_items-cons vids more range item items named is = ap (λ o. option_map (λ ranges. set_where (λ n. has vids n || covered ranges n)) (option_and_then (λ r. option_map (λ rs. r ∷ rs) (ranges_of items)) o)) named ∙ go (ranges_of items)
  where
    each : (ranges : List (ℕ × ℕ)) (n : ℕ) → n < 4096 → (has vids n || (is_within range n || covered ranges n)) ≡ (has more n || covered ranges n)
    each ranges n h =
        sym (or_assoc (has vids n) (is_within range n) (covered ranges n))
        ∙ ap (λ b. b || covered ranges n) (sym (ap (λ s. has s n) is ∙ has-set_where (λ n. has vids n || is_within range n) n h))

    go : (o : Option (List (ℕ × ℕ))) → option_map (λ ranges. set_where (λ n. has vids n || covered ranges n)) (option_map (λ rs. range ∷ rs) o) ≡ option_map (λ ranges. set_where (λ n. has more n || covered ranges n)) o
    go None = refl
    go (Some ranges) = ap Some (set_where-same (λ n. has vids n || covered (range ∷ ranges) n) (λ n. has more n || covered ranges n) (each ranges))

-- an item that names no range
pub with_items-bad : (vids : List Bool) (item : List ℕ) (items : List (List ℕ)) → range_of item ≡ None → with_items vids (item ∷ items) ≡ None
with_items-bad vids item items bad = ap (λ o. option_map (λ ranges. set_where (λ n. has vids n || covered ranges n)) (option_and_then (λ r. option_map (λ rs. r ∷ rs) (ranges_of items)) o)) bad

-- no items
pub with_items-nil : (vids : List Bool) → set_where (has vids) ≡ vids → with_items vids [] ≡ Some vids
with_items-nil vids kept = ap Some (set_where-same (λ n. has vids n || false) (has vids) (λ n _. or_nothing (has vids n)) ∙ kept)
  where
    or_nothing : (b : Bool) → (b || false) ≡ b
    or_nothing true = refl
    or_nothing false = refl

-- ---- the items in order: the n-th names no range, or names one, or there is none
pub bad_item : (vids : List Bool) (text item : List ℕ) (n : ℕ) → (n < length (items_of text)) × (item ≡ get_or (items_of text) n item) → range_of item ≡ None → with_items vids (drop n (items_of text)) ≡ vids_value text → vids_value text ≡ None
bad_item vids text item n is bad whole =
    sym whole
    ∙ at_drop_more (with_items vids) (items_of text) n item is.0
    ∙ ap (λ x. with_items vids (x ∷ drop (n + 1) (items_of text))) (sym is.1)
    ∙ with_items-bad vids item (drop (n + 1) (items_of text)) bad

pub good_item : (vids more : List Bool) (text item : List ℕ) (range : ℕ × ℕ) (n m : ℕ) → m ≡ n + 1 → (n < length (items_of text)) × (item ≡ get_or (items_of text) n item) → range_of item ≡ Some range → more ≡ set_where (λ k. has vids k || is_within range k) → with_items vids (drop n (items_of text)) ≡ vids_value text → with_items more (drop m (items_of text)) ≡ vids_value text
good_item vids more text item range n m next is named adds whole =
    ap (λ k. with_items more (drop k (items_of text))) next
    ∙ sym (with_items-cons vids more range item (drop (n + 1) (items_of text)) named adds)
    ∙ ap (λ x. with_items vids (x ∷ drop (n + 1) (items_of text))) is.1
    ∙ sym (at_drop_more (with_items vids) (items_of text) n item is.0)
    ∙ whole

pub all_items : (vids : List Bool) (text : List ℕ) (n : ℕ) → n ≡ length (items_of text) → set_where (has vids) ≡ vids → with_items vids (drop n (items_of text)) ≡ vids_value text → vids_value text ≡ Some vids
all_items vids text n is kept whole =
    sym whole ∙ at_drop_all (with_items vids) (items_of text) n (omega arith) ∙ with_items-nil vids kept

-- a set that is made by a test has its flags
pub kept_from : (vids : List Bool) (test : ℕ → Bool) → vids ≡ set_where test → set_where (has vids) ≡ vids
kept_from vids test is = ap (λ s. set_where (has s)) is ∙ set_where-has test ∙ sym is
