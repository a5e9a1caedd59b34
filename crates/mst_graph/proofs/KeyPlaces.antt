-- Writing a thing into the group at the place of its key.
use Rattle.std.proofs.Common.{◌≡◌, ℕ, ◌+◌, ◌<◌, Bool, true, false, cond, not, ◌||◌, true≢false, List, [], ◌∷◌, ◌++◌, length, map, get_or, set, refl, sym, ap, ◌∙◌, arith}
use Rattle.std.specs.List.{list_any, position_or_len}
use Rattle.std.proofs.lemmas.List.{map-set, get_or-map, get_or_at, set_at, map_push}
use Rattle.mst_graph.specs.Adding.{with_thing}

-- the place of a key that was not met
pub none_met : {K : Type 0} (test : K → Bool) (keys : List K) → list_any test keys ≡ false → position_or_len test keys ≡ length keys
none_met test [] h = refl
none_met test (k ∷ keys) h = go (test k) h (none_met test keys)
  where
    go : (b : Bool) → b || list_any test keys ≡ false → (list_any test keys ≡ false → position_or_len test keys ≡ length keys) → cond (not b) (1 + position_or_len test keys) 0 ≡ length (k ∷ keys)
    go true h rest = absurd (true≢false h)
    go false h rest = let e : position_or_len test keys ≡ length keys = rest h in omega arith

-- the place of one that was met
pub met_below : {K : Type 0} (test : K → Bool) (keys : List K) → list_any test keys ≡ true → position_or_len test keys < length keys
met_below test [] h = absurd (true≢false (sym h))
met_below test (k ∷ keys) h = go (test k) h (met_below test keys)
  where
    go : (b : Bool) → b || list_any test keys ≡ true → (list_any test keys ≡ true → position_or_len test keys < length keys) → cond (not b) (1 + position_or_len test keys) 0 < length (k ∷ keys)
    go true h rest = omega arith
    go false h rest = let e : position_or_len test keys < length keys = rest h in omega arith

module _ {V T K : Type 0} (f : V → List T) (same : K → K → Bool) (keys : List K) where
  -- a key that was met
  pub put_known : (ms : List V) (p : ℕ) (old new : V) (thing : T) (key : K) → p ≡ position_or_len (same key) keys → p < length ms → old ≡ get_or ms p old
      → f new ≡ f old ++ thing ∷ [] → list_any (same key) keys ≡ true → map f (set ms p new) ≡ with_thing same keys (map f ms) thing key
  put_known ms p old new thing key at below is more met =
      map-set f ms p new
      ∙ ap (set (map f ms) p) (more ∙ ap (λ xs. xs ++ thing ∷ []) (ap f is ∙ sym (get_or-map f ms p old [] below)))
      ∙ ap (λ n. set (map f ms) n (get_or (map f ms) n [] ++ thing ∷ [])) at
      ∙ sym (ap (λ b. cond b (set (map f ms) (position_or_len (same key) keys) (get_or (map f ms) (position_or_len (same key) keys) [] ++ thing ∷ [])) (map f ms ++ (thing ∷ []) ∷ [])) met)

  -- a new key
  pub put_new : (ms : List V) (p : ℕ) (empty old new : V) (thing : T) (key : K) → p ≡ position_or_len (same key) keys → length ms ≡ length keys → f empty ≡ []
      → old ≡ get_or (ms ++ empty ∷ []) p old → f new ≡ f old ++ thing ∷ [] → list_any (same key) keys ≡ false
      → map f (set (ms ++ empty ∷ []) p new) ≡ with_thing same keys (map f ms) thing key
  put_new ms p empty old new thing key at long none is more met =
      let last : length ms ≡ p = long ∙ sym (at ∙ none_met (same key) keys met) in
      ap (map f) (set_at ms empty [] new p last)
      ∙ map_push f ms new
      ∙ ap (λ x. map f ms ++ x ∷ []) (more ∙ ap (λ xs. xs ++ thing ∷ []) (ap f (is ∙ get_or_at ms empty [] old p last) ∙ none))
      ∙ sym (ap (λ b. cond b (set (map f ms) (position_or_len (same key) keys) (get_or (map f ms) (position_or_len (same key) keys) [] ++ thing ∷ [])) (map f ms ++ (thing ∷ []) ∷ [])) met)

-- what a test of a new key says
pub is_new : (b c : Bool) → c ≡ not b → c ≡ true → b ≡ false
is_new true c e h = absurd (true≢false (sym h ∙ e))
is_new false c e h = refl

pub is_known : (b c : Bool) → c ≡ not b → c ≡ false → b ≡ true
is_known true c e h = refl
is_known false c e h = absurd (true≢false (sym e ∙ h))
