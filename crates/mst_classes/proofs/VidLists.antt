-- Sets and lists of VIDs.
use Rattle.std.proofs.Common.{◌≡◌, ℕ, ◌+◌, ◌<◌, ◌==◌, ◌||◌, Bool, List, [], ◌∷◌, ◌++◌, length, take, get_or, sym, ap, ◌∙◌, arith}
use Rattle.std.specs.List.{range_with_len}
use Rattle.std.proofs.lemmas.List.FromFn.{map-range_with_len_more}
use Rattle.std.proofs.lemmas.List.Folds.{list_any_more}
use Rattle.std.proofs.lemmas.Bool.Decides.{nat_tests}
use Rattle.mst_ids.specs.Vids.{has, set_where, is_within}
use Rattle.mst_ids.specs.VidBits.{has-set_where}
use Rattle.mst_ids.proofs.VidSetLemmas.{set_where-same}
use Rattle.mst_view.specs.Trees.{is_among}
use Rattle.mst_view.proofs.Lists.{map_itself}
use Rattle.mst_classes.specs.AllVids.{all_vids}

within_one : (v n : ℕ) → is_within (v, v) n ≡ (v == n)
within_one v n = grind (arith, nat_tests)

-- a set with one more VID
pub set_more : (group : List ℕ) (i v : ℕ) (set : List Bool) → i < length group → v ≡ get_or group i v → set ≡ set_where (is_among (take i group))
    → set_where (λ n. has set n || is_within (v, v) n) ≡ set_where (is_among (take (i + 1) group))
set_more group i v set l is e =
    set_where-same (λ n. has set n || is_within (v, v) n) (is_among (take (i + 1) group))
    (λ n below.
    (λ k. ap (λ s. has s n) e k || within_one v n k)
    ∙ ap (λ b. b || (v == n)) (has-set_where (is_among (take i group)) n below)
    ∙ ap (λ w. is_among (take i group) n || (w == n)) is
    ∙ sym (list_any_more (λ t. t == n) group i v l))

-- one more VID
vids_more : (n vid : ℕ) → vid ≡ n + 1 → range_with_len 1 (n + 1) ≡ range_with_len 1 n ++ vid ∷ []
vids_more n vid e =
    let same : 1 + n ≡ vid = omega arith in
    sym (map_itself (range_with_len 1 (n + 1))) ∙ map-range_with_len_more (λ i. i) 1 n vid same ∙ ap (λ l. l ++ vid ∷ []) (map_itself (range_with_len 1 n))

pub vid_pushed : (n vid : ℕ) (vids new : List ℕ) → new ≡ vids ++ vid ∷ [] → vids ≡ range_with_len 1 n → vid ≡ n + 1 → new ≡ range_with_len 1 (n + 1)
vid_pushed n vid vids new pushed before is = pushed ∙ ap (λ l. l ++ vid ∷ []) before ∙ sym (vids_more n vid is)

-- and all
pub vids_all : (n : ℕ) → n ≡ 4094 → range_with_len 1 n ≡ all_vids
unfolding all_vids
vids_all n e = ap (range_with_len 1) e
