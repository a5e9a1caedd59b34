-- The runs of a list: what each of some owners has of it, where the owners come in order.
use Rattle.std.proofs.Common.{◌≡◌, ℕ, ◌+◌, suc, ◌||◌, Bool, true, false, cond, List, [], ◌∷◌, ◌++◌, take, drop, refl, sym, ap, subst, ◌∙◌, arith}
use Rattle.std.specs.List.{AllByRecursion, filter, flat_map, list_any, prefix_len}
use Rattle.mst_vlan.specs.forest.Apart.{Apart}
use Rattle.mst_vlan.proofs.forest_lemmas.Entries.{all_weaker, all_both}
use Rattle.mst_vlan.proofs.forest_lemmas.Lists.{all_contained, passed}

pub flat_map_alike : {A B : Type 0} (f g : A → List B) (xs : List A) → AllByRecursion (λ x. f x ≡ g x) xs → flat_map f xs ≡ flat_map g xs
flat_map_alike f g [] h = refl
flat_map_alike f g (x ∷ xs) h = λ i. h.0 i ++ flat_map_alike f g xs h.1 i

one_more : (n : ℕ) → 1 + n ≡ suc n
one_more n = omega arith

not_true : (t : Bool) → (t ≡ true → ⊥) → t ≡ false
not_true true h = absurd (h refl)
not_true false h = refl

each_is : {A : Type 0} (P : A → Type 0) → ((x : A) → P x) → (xs : List A) → AllByRecursion P xs
each_is P f [] = tt
each_is P f (x ∷ xs) = (f x, each_is P f xs)

-- owners, what each owns, and which of two comes first: a thing has one owner at most, and what stands behind another
-- thing has no earlier owner
module _ {A B : Type 0} (of : A → B → Bool) (Before : A → A → Type 0) (Behind : B → B → Type 0)
    (one_owner : (b c : A) → Before b c → (p : B) → of b p ≡ true → of c p ≡ true → ⊥)
    (in_turn : (p q : B) → Behind p q → (b c : A) → Before b c → of c p ≡ true → of b q ≡ true → ⊥) where
  -- one of these owns it
  abbrev pub Owned : List A → B → Type 0
  Owned bs p = list_any (λ b. of b p) bs ≡ true

  -- the run at the front of a list is all that its owner has, and what is left is all that the others have
  record IsRun (b : A) (bs : List A) (ps : List B) (n : ℕ) : Type 0 where
    own : take n ps ≡ filter (of b) ps
    owned : AllByRecursion (Owned bs) (drop n ps)
    apart : Apart Behind (drop n ps)
    others : AllByRecursion (λ c. filter (of c) (drop n ps) ≡ filter (of c) ps) bs

  -- what isn't the first one's is another's
  other_owner : (b : A) (bs : List A) (p : B) → of b p ≡ false → Owned (b ∷ bs) p → Owned bs p
  other_owner b bs p e h = sym (ap (λ t. t || list_any (λ c. of c p) bs) e) ∙ h

  none_kept : (b : A) (ps : List B) → AllByRecursion (λ p. of b p ≡ false) ps → filter (of b) ps ≡ []
  none_kept b [] h = refl
  none_kept b (p ∷ ps) h = ap (λ t. cond t (p ∷ filter (of b) ps) (filter (of b) ps)) h.0 ∙ none_kept b ps h.1

  -- where the first thing isn't the first owner's, none is
  none_own : (b : A) (bs : List A) (p : B) (ps : List B) → AllByRecursion (Before b) bs → Owned (b ∷ bs) p → AllByRecursion (Behind p) ps → of b p ≡ false → AllByRecursion (λ q. of b q ≡ false) (p ∷ ps)
  none_own b bs p ps rise owned behind e =
      let c = passed (λ c. of c p) bs (other_owner b bs p e owned) in
      (e, all_weaker (Behind p) _ (λ q h. not_true (of b q) (in_turn p q h b c.0 (all_contained (Before b) bs c.0 rise c.1) c.2)) ps behind)

  is_run : (b : A) (bs : List A) (ps : List B) → Apart Before (b ∷ bs) → AllByRecursion (Owned (b ∷ bs)) ps → Apart Behind ps → IsRun b bs ps (prefix_len (of b) ps)
  is_run b bs [] rise owned turn = record { own = refl; owned = tt; apart = tt; others = each_is _ (λ c. refl) bs }
  is_run b bs (p ∷ ps) rise owned turn = go (of b p) refl (is_run b bs ps rise owned.1 turn.1)
    where
      go : (t : Bool) → of b p ≡ t → IsRun b bs ps (prefix_len (of b) ps) → IsRun b bs (p ∷ ps) (cond (of b p) (1 + prefix_len (of b) ps) 0)
      go true e r =
          subst (IsRun b bs (p ∷ ps)) (sym (ap (λ t. cond t (1 + prefix_len (of b) ps) 0) e ∙ one_more (prefix_len (of b) ps)))
          record {
            own = ap (λ l. p ∷ l) r.own ∙ sym (ap (λ t. cond t (p ∷ filter (of b) ps) (filter (of b) ps)) e);
            owned = r.owned;
            apart = r.apart;
            others = all_both (Before b) _ _
                (λ c before same. same ∙ sym (ap (λ t. cond t (p ∷ filter (of c) ps) (filter (of c) ps)) (not_true (of c p) (one_owner b c before p e)))) bs rise.0 r.others;
          }
      go false e r =
          let none = none_own b bs p ps rise.0 owned.0 turn.0 e in
          subst (IsRun b bs (p ∷ ps)) (sym (ap (λ t. cond t (1 + prefix_len (of b) ps) 0) e))
          record {
            own = sym (none_kept b (p ∷ ps) none);
            owned = all_both (λ q. of b q ≡ false) (Owned (b ∷ bs)) (Owned bs) (other_owner b bs) (p ∷ ps) none owned;
            apart = turn;
            others = each_is _ (λ c. refl) bs;
          }

  -- what each owner gives with its run at the front of what is left is that of each with all that it owns
  pub runs_of : {C : Type 0} (text : A → List B → List C) (all : List A → List B → List C) → ((ps : List B) → all [] ps ≡ [])
      → ((b : A) (bs : List A) (ps : List B) → all (b ∷ bs) ps ≡ text b (take (prefix_len (of b) ps) ps) ++ all bs (drop (prefix_len (of b) ps) ps))
      → (bs : List A) (ps : List B) → Apart Before bs → AllByRecursion (Owned bs) ps → Apart Behind ps → all bs ps ≡ flat_map (λ b. text b (filter (of b) ps)) bs
  runs_of text all none more [] ps rise owned turn = none ps
  runs_of text all none more (b ∷ bs) ps rise owned turn =
      let r = is_run b bs ps rise owned turn in
      let rest = drop (prefix_len (of b) ps) ps in
      let others = runs_of text all none more bs rest rise.1 r.owned r.apart
      ∙ flat_map_alike (λ c. text c (filter (of c) rest)) (λ c. text c (filter (of c) ps)) bs (all_weaker _ _ (λ c e. ap (text c) e) bs r.others) in
      more b bs ps ∙ (λ i. text b (r.own i) ++ others i)
