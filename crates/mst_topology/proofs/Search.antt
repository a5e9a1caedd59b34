-- The least of the keys that the elements of a list have.
use Rattle.std.proofs.Common.{◌≡◌, List, [], ◌∷◌, Option, Some, None, Bool, true, false, cond, refl, sym, ◌∙◌, ap, inl, inr, ◌⊎◌, Less, Equal, Greater}
use Rattle.std.specs.declared.cmp.Ordering.{Ordering}
use Rattle.std.specs.Ordering.{is_gt}
use Rattle.std.specs.Cmp.{IsTotalOrder}
use Rattle.std.proofs.lemmas.Cmp.{tied_itself, upto}
use Rattle.mst_topology.proofs.Orders.{not_less}
use Rattle.mst_topology.proofs.Rank.{Among}

-- f of the value, if there is one
abbrev pub bind : {A B : Type 0} → Option A → (A → Option B) → Option B
bind None f = None
bind (Some x) f = f x

pub bind-is : {A B : Type 0} (o : Option A) (f : A → Option B) (y : B) → bind o f ≡ Some y → (x : A) × (o ≡ Some x) × (f x ≡ Some y)
bind-is None f y e = cc
bind-is (Some x) f y e = (x, refl, e)

pub bind-at : {A B : Type 0} (o : Option A) (f : A → Option B) (x : A) (y : B) → o ≡ Some x → f x ≡ Some y → bind o f ≡ Some y
bind-at o f x y e h = rw e h

pub some_is : {A : Type 0} (x y : A) → Some x ≡ Some y → x ≡ y
some_is x y e = cc

-- the value, if the test passes
abbrev pub keep : {A : Type 0} → Bool → Option A → Option A
keep b o = cond b o None

pub keep-is : {A : Type 0} (b : Bool) (o : Option A) (y : A) → keep b o ≡ Some y → (b ≡ true) × (o ≡ Some y)
keep-is true o y e = (refl, e)
keep-is false o y e = cc

pub keep-at : {A : Type 0} (b : Bool) (o : Option A) (y : A) → b ≡ true → o ≡ Some y → keep b o ≡ Some y
keep-at b o y e h = rw e h

-- an element of the list whose key is the least that an element has
pub record Best {A K : Type 0} (R : K → K → Ordering) (key : A → Option K) (xs : List A) : Type 0 where
  pub at : A
  pub among : Among at xs
  pub best : K
  pub is_key : key at ≡ Some best
  pub upto : (x : A) (k : K) → Among x xs → key x ≡ Some k → is_gt (R best k) ≡ false

abbrev pub NoKey : {A K : Type 0} → (A → Option K) → List A → Type 0
NoKey {A} {K} key xs = (x : A) → Among x xs → key x ≡ None

module _ {A K : Type 0} (R : K → K → Ordering) (o : IsTotalOrder R) (key : A → Option K) where
  first_key : (x : A) (xs : List A) (k : K) → key x ≡ Some k → NoKey key xs → Best R key (x ∷ xs)
  first_key x xs k e none = record {
    at = x;
    among = inl refl;
    best = k;
    is_key = e;
    upto = λ y j m f. elim m [
      | inl s ↦ (let g : key x ≡ Some j = ap key (sym s) ∙ f in let same : k ≡ j = cc in ap is_gt (ap (R k) (sym same) ∙ tied_itself o k))
      | inr r ↦ (let g = none y r in cc)
    ];
  }

  keep_best : (x : A) (xs : List A) → (b : Best R key xs) → ((k : K) → key x ≡ Some k → is_gt (R b.best k) ≡ false) → Best R key (x ∷ xs)
  keep_best x xs b h = record {
    at = b.at;
    among = inr b.among;
    best = b.best;
    is_key = b.is_key;
    upto = λ y j m f. elim m [
      | inl s ↦ h j (ap key (sym s) ∙ f)
      | inr r ↦ b.upto y j r f
    ];
  }

  new_best : (x : A) (xs : List A) (k : K) → key x ≡ Some k → (b : Best R key xs) → is_gt (R k b.best) ≡ false → Best R key (x ∷ xs)
  new_best x xs k e b h = record {
    at = x;
    among = inl refl;
    best = k;
    is_key = e;
    upto = λ y j m f. elim m [
      | inl s ↦ (let g : key x ≡ Some j = ap key (sym s) ∙ f in let same : k ≡ j = cc in ap is_gt (ap (R k) (sym same) ∙ tied_itself o k))
      | inr r ↦ upto o k b.best j h (b.upto y j r f)
    ];
  }

  better : (x : A) (xs : List A) (b : Best R key xs) (k : K) → key x ≡ Some k → (r : Ordering) → R b.best k ≡ r → Best R key (x ∷ xs)
  better x xs b k e Less q = keep_best x xs b (λ j f. let same : k ≡ j = cc in ap is_gt (ap (R b.best) (sym same) ∙ q))
  better x xs b k e Equal q = keep_best x xs b (λ j f. let same : k ≡ j = cc in ap is_gt (ap (R b.best) (sym same) ∙ q))
  better x xs b k e Greater q = new_best x xs k e b (not_less o b.best k (λ l. cc))

  more : (x : A) (xs : List A) (k : Option K) → key x ≡ k → Best R key xs ⊎ NoKey key xs → Best R key (x ∷ xs) ⊎ NoKey key (x ∷ xs)
  more x xs None e s = elim s [
    | inl b ↦ inl (keep_best x xs b (λ j f. cc))
    | inr n ↦ inr (λ y m. elim m [ inl q ↦ ap key q ∙ e | inr r ↦ n y r ])
  ]
  more x xs (Some k) e s = elim s [
    | inl b ↦ inl (better x xs b k e (R b.best k) refl)
    | inr n ↦ inl (first_key x xs k e n)
  ]

  pub best : (xs : List A) → Best R key xs ⊎ NoKey key xs
  best [] = inr (λ y m. absurd m)
  best (x ∷ xs) = more x xs (key x) refl (best xs)
