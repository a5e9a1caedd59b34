-- Things that are kept once.
use Rattle.std.proofs.Common.{◌≡◌, ℕ, ◌+◌, ◌<◌, Bool, List, [], ◌∷◌, ◌++◌, length, take, get_or, Option, Some, None, refl, sym, ap, ◌∙◌}
use Rattle.std.specs.List.{filter_map, cons_option}
use Rattle.std.proofs.lemmas.List.{take_more, append-nil}
use Rattle.std.proofs.lemmas.List.Elements.{filter_map-append}
use Rattle.std.proofs.lemmas.List.Sums.{fold-append}
use Rattle.mst_diff.specs.declared.roots.RootPair.{RootPair}
use Rattle.mst_diff.specs.Roots.{same_pair}
use Rattle.mst_graph.specs.Lists.{with_new, each_once}
use Rattle.mst_diff.specs.Seen.{with_pair}

module _ {A B : Type 0} (same : B → B → Bool) (h : A → Option B) (xs : List A) (i : ℕ) (x : A) (l : i < length xs) (is : x ≡ get_or xs i x) where
  more : filter_map h (take (i + 1) xs) ≡ filter_map h (take i xs) ++ cons_option (h x) []
  more = ap (filter_map h) (take_more xs i x l ∙ ap (λ y. take i xs ++ y ∷ []) (sym is)) ∙ filter_map-append h (take i xs) (x ∷ [])

  pub once_more : (y : B) → h x ≡ Some y → (kept new : List B) → kept ≡ each_once same (filter_map h (take i xs)) → new ≡ with_new same kept y → new ≡ each_once same (filter_map h (take (i + 1) xs))
  once_more y e kept new before after =
      after ∙ ap (λ ys. with_new same ys y) before ∙ sym (fold-append (with_new same) [] (filter_map h (take i xs)) (y ∷ []))
      ∙ ap (λ o. each_once same (filter_map h (take i xs) ++ cons_option o [])) (sym e) ∙ ap (each_once same) (sym more)

  pub once_same : h x ≡ None → (kept : List B) → kept ≡ each_once same (filter_map h (take i xs)) → kept ≡ each_once same (filter_map h (take (i + 1) xs))
  once_same e kept before =
      before ∙ ap (each_once same) (sym (append-nil (filter_map h (take i xs))) ∙ ap (λ o. filter_map h (take i xs) ++ cons_option o []) (sym e) ∙ sym more)

pub pair_more : {A : Type 0} (h : A → Option RootPair) (xs : List A) (i : ℕ) (x : A) → i < length xs → x ≡ get_or xs i x → (kept new : List RootPair) → kept ≡ each_once same_pair (filter_map h (take i xs))
    → new ≡ with_pair kept (h x) → new ≡ each_once same_pair (filter_map h (take (i + 1) xs))
pair_more {A} h xs i x l is kept new before after = go (h x) refl after
  where
    go : (o : Option RootPair) → h x ≡ o → new ≡ with_pair kept o → new ≡ each_once same_pair (filter_map h (take (i + 1) xs))
    go None e k = k ∙ once_same same_pair h xs i x l is e kept before
    go (Some y) e k = once_more same_pair h xs i x l is y e kept new before k
