-- How changes of the kept records show in the rows and the numbers.
use Rattle.std.proofs.Common.{◌≡◌, ◌≢◌, ℕ, Bool, true, false, cond, List, [], ◌∷◌, map, Option, Some, None, is_some, IsSome, MutBor, refl, sym, ap, subst, ◌∙◌, true≢false}
use Rattle.std.specs.Option.{option_map, option_map_or, option_copied_mut, unwrap_or}
use Rattle.std.specs.List.{IsDistinct}
use Rattle.std.specs.Cmp.{IsEquivalence}
use Rattle.std.specs.Map.{lookup, keys_of, set_value}
use Rattle.slab.specs.Slab.{Slab, get, Updates}
use Rattle.mst_records.specs.Rows.{IsNumberedBy}
use Rattle.mst_records.specs.Kept.{rows_of, numbers_of, IsKept}
use Rattle.mst_records.specs.declared.records.Record.{Record}

pub some_is : {X : Type 0} (x y : X) → Some x ≡ Some y → x ≡ y
some_is x y e = ap (λ o. unwrap_or o x) e

pub no_some : {X : Type 0} (x : X) → None ≡ Some x → ⊥
no_some x e = true≢false (ap is_some (sym e))

is_some-map : {X Y : Type 0} (f : X → Y) (o : Option X) → is_some (option_map f o) ≡ is_some o
is_some-map f None = refl
is_some-map f (Some x) = refl

some_of : {X Y : Type 0} (f : X → Y) (o : Option X) → IsSome (option_map f o) → IsSome o
some_of f None h = h
some_of f (Some x) h = refl

pub some_lent : {X : Type 0} (o : Option (MutBor X)) → IsSome (option_copied_mut o) → IsSome o
some_lent None h = h
some_lent (Some x) h = refl

-- a change of each value
pub lookup-mapped : {K X Y : Type 0} (f : X → Y) (test : K → Bool) (es : List (K × X)) → lookup test (map (λ e. (e.0, f e.1)) es) ≡ option_map f (lookup test es)
lookup-mapped f test [] = refl
lookup-mapped f test (e ∷ es) =
    ap (cond (test e.0) (Some (f e.1))) (lookup-mapped f test es)
    ∙ elim (test e.0) as (λ b. cond b (Some (f e.1)) (option_map f (lookup test es)) ≡ option_map f (cond b (Some e.1) (lookup test es))) [ true ↦ refl | false ↦ refl ]

pub keys-mapped : {K X Y : Type 0} (f : X → Y) (es : List (K × X)) → keys_of (map (λ e. (e.0, f e.1)) es) ≡ keys_of es
keys-mapped f [] = refl
keys-mapped f (e ∷ es) = ap (λ ks. e.0 ∷ ks) (keys-mapped f es)

map_cond : {X Y : Type 0} (f : X → Y) (b : Bool) (r : X) (o : Option X) → option_map f (cond b (Some r) o) ≡ cond b (Some (f r)) (option_map f o)
map_cond f true r o = refl
map_cond f false r o = refl

map_cond_none : {X Y : Type 0} (f : X → Y) (b : Bool) (o : Option X) → option_map f (cond b None o) ≡ cond b None (option_map f o)
map_cond_none f true o = refl
map_cond_none f false o = refl

-- a key that is put under a number that was free leaves the others
pub fresh_others : {K : Type 0} (old new : Slab K) (number : ℕ) (slot : Option K) → get old number ≡ None → Updates old new number slot → (n : ℕ) (k : K) → get old n ≡ Some k → get new n ≡ Some k
fresh_others old new number slot vacant updates n k there = updates.others n (λ e. no_some k (sym vacant ∙ ap (get old) (sym e) ∙ there)) ∙ there

same_key_of : {K : Type 0} (eq : K → K → Bool) → IsEquivalence eq → (k l : K) (o : Option K) → option_map_or (eq k) o false ≡ true → option_map_or (eq l) o false ≡ true → eq k l ≡ true
same_key_of eq laws k l None h i = absurd (true≢false (sym h))
same_key_of eq laws k l (Some x) h i = laws.symm k l ∙ laws.congr l x k i ∙ laws.symm x k ∙ h

number_of : {R : Type 0} (o : Option (Record R)) (n : ℕ) → option_map (λ (r : Record R). r.number) o ≡ Some n → (r : Record R) × (o ≡ Some r) × (r.number ≡ n)
number_of None n h = absurd (no_some n h)
number_of (Some r) n h = (r, refl, some_is r.number n h)

module _ {K R : Type 0} where
  pub row_at : (test : K → Bool) (es : List (K × Record R)) → lookup test (rows_of es) ≡ option_map (λ (r : Record R). r.row) (lookup test es)
  row_at test es = lookup-mapped (λ (r : Record R). r.row) test es

  pub number_at : (test : K → Bool) (es : List (K × Record R)) → lookup test (numbers_of es) ≡ option_map (λ (r : Record R). r.number) (lookup test es)
  number_at test es = lookup-mapped (λ (r : Record R). r.number) test es

  pub has_row : (test : K → Bool) (es : List (K × Record R)) → is_some (lookup test (rows_of es)) ≡ is_some (lookup test es)
  has_row test es = ap is_some (row_at test es) ∙ is_some-map (λ (r : Record R). r.row) (lookup test es)

  pub has_record : (test : K → Bool) (es : List (K × Record R)) → IsSome (lookup test (rows_of es)) → IsSome (lookup test es)
  has_record test es h = some_of (λ (r : Record R). r.row) (lookup test es) (subst IsSome (row_at test es) h)

  pub keys-rows_of : (es : List (K × Record R)) → keys_of (rows_of es) ≡ keys_of es
  keys-rows_of es = keys-mapped (λ (r : Record R). r.row) es

  -- a write of a record leaves the numbers, where it has the number that was there
  pub numbers-set_value : (test : K → Bool) (es : List (K × Record R)) (was new : Record R) → lookup test es ≡ Some was → new.number ≡ was.number → numbers_of (set_value test es new) ≡ numbers_of es
  numbers-set_value test [] was new there same = absurd (no_some was there)
  numbers-set_value test (e ∷ es) was new there same =
      elim (test e.0) as (λ b. cond b (Some e.1) (lookup test es) ≡ Some was → numbers_of (cond b ((e.0, new) ∷ es) (e ∷ set_value test es new)) ≡ (e.0, e.1.number) ∷ numbers_of es) [
        | true ↦ λ t. ap (λ n. (e.0, n) ∷ numbers_of es) (same ∙ ap (λ (r : Record R). r.number) (sym (some_is e.1 was t)))
        | false ↦ λ t. ap (λ l. (e.0, e.1.number) ∷ l) (numbers-set_value test es was new t same)
      ] there

  module _ (eq : K → K → Bool) (es fs : List (K × Record R)) (key : K) (r : Record R)
      (updated : (q : K) → lookup (eq q) fs ≡ cond (eq key q) (Some r) (lookup (eq q) es)) where
    pub rows_updated : (q : K) → lookup (eq q) (rows_of fs) ≡ cond (eq key q) (Some r.row) (lookup (eq q) (rows_of es))
    rows_updated q =
        let f : Record R → R = λ r. r.row in
        row_at (eq q) fs ∙ ap (option_map f) (updated q) ∙ map_cond f (eq key q) r (lookup (eq q) es) ∙ ap (cond (eq key q) (Some r.row)) (sym (row_at (eq q) es))

    pub numbers_updated : (q : K) → lookup (eq q) (numbers_of fs) ≡ cond (eq key q) (Some r.number) (lookup (eq q) (numbers_of es))
    numbers_updated q =
        let f : Record R → ℕ = λ r. r.number in
        number_at (eq q) fs ∙ ap (option_map f) (updated q) ∙ map_cond f (eq key q) r (lookup (eq q) es) ∙ ap (cond (eq key q) (Some r.number)) (sym (number_at (eq q) es))

    module _ (laws : IsEquivalence eq) (old new : Slab K) (kept : IsKept eq es old) (unique : IsDistinct eq (keys_of fs))
        (here : option_map_or (eq key) (get new r.number) false ≡ true)
        (others : (n : ℕ) (k : K) → get old n ≡ Some k → get new n ≡ Some k) where
      key_kept : (q : K) (o : Option K) → option_map_or (eq q) o false ≡ true → (k : K) × (o ≡ Some k)
      key_kept q None h = absurd (true≢false (sym h))
      key_kept q (Some k) h = (k, refl)

      same_key : (q : K) (o : Option K) → eq key q ≡ true → option_map_or (eq key) o false ≡ true → option_map_or (eq q) o false ≡ true
      same_key q None is h = h
      same_key q (Some k) is h = sym (laws.congr key q k is) ∙ h

      -- the records are kept after a record is written, if its number names its key and the others' keys stay
      pub kept_updated : IsKept eq fs new
      kept_updated = record { numbered = λ q s h. by q s (eq key q) refl (sym (updated q) ∙ h); unique = unique }
        where
          by : (q : K) (s : Record R) (t : Bool) → eq key q ≡ t → cond t (Some r) (lookup (eq q) es) ≡ Some s → option_map_or (eq q) (get new s.number) false ≡ true
          by q s true e h = ap (λ (s : Record R). option_map_or (eq q) (get new s.number) false) (sym (some_is r s h)) ∙ same_key q (get new r.number) e here
          by q s false e h =
              let there = kept.numbered q s h in
              let k = key_kept q (get old s.number) there in
              ap (λ o. option_map_or (eq q) o false) (others s.number k.0 k.1 ∙ sym k.1) ∙ there

  -- the removal of a record
  module _ (eq : K → K → Bool) (es fs : List (K × Record R)) (key : K)
      (removed : (q : K) → lookup (eq q) fs ≡ cond (eq key q) None (lookup (eq q) es)) where
    pub rows_removed : (q : K) → lookup (eq q) (rows_of fs) ≡ cond (eq key q) None (lookup (eq q) (rows_of es))
    rows_removed q =
        let f : Record R → R = λ r. r.row in
        row_at (eq q) fs ∙ ap (option_map f) (removed q) ∙ map_cond_none f (eq key q) (lookup (eq q) es) ∙ ap (cond (eq key q) None) (sym (row_at (eq q) es))

    pub numbers_removed : (q : K) → lookup (eq q) (numbers_of fs) ≡ cond (eq key q) None (lookup (eq q) (numbers_of es))
    numbers_removed q =
        let f : Record R → ℕ = λ r. r.number in
        number_at (eq q) fs ∙ ap (option_map f) (removed q) ∙ map_cond_none f (eq key q) (lookup (eq q) es) ∙ ap (cond (eq key q) None) (sym (number_at (eq q) es))

    -- the other records are kept, since none has the number that goes
    pub kept_removed : IsEquivalence eq → (r : Record R) → lookup (eq key) es ≡ Some r → (old new : Slab K) → Updates old new r.number None → IsKept eq es old → IsDistinct eq (keys_of fs) → IsKept eq fs new
    kept_removed laws r there old new updates kept unique = record { numbered = λ q s h. by q s (eq key q) refl (sym (removed q) ∙ h); unique = unique }
      where
        by : (q : K) (s : Record R) (t : Bool) → eq key q ≡ t → cond t None (lookup (eq q) es) ≡ Some s → option_map_or (eq q) (get new s.number) false ≡ true
        by q s true e h = absurd (no_some s h)
        by q s false e h =
            let named = kept.numbered q s h in
            let apart : s.number ≢ r.number = λ same.
            true≢false (sym (same_key_of eq laws key q (get old r.number) (kept.numbered key r there) (ap (λ n. option_map_or (eq q) (get old n) false) (sym same) ∙ named)) ∙ e) in
            ap (λ o. option_map_or (eq q) o false) (updates.others s.number apart) ∙ named

  -- kept records have numbers of their own
  pub kept_numbered : (eq : K → K → Bool) → IsEquivalence eq → (es : List (K × Record R)) (keys : Slab K) (next room : ℕ) → IsKept eq es keys
      → IsNumberedBy eq (record { rows = rows_of es; numbers = numbers_of es; next = next; room = room })
  kept_numbered eq laws es keys next room kept = record {
    numbered = λ k. ap is_some (number_at (eq k) es) ∙ is_some-map (λ (r : Record R). r.number) (lookup (eq k) es) ∙ sym (has_row (eq k) es);
    differ = λ k l n h i.
        let x = number_of (lookup (eq k) es) n (sym (number_at (eq k) es) ∙ h) in
        let y = number_of (lookup (eq l) es) n (sym (number_at (eq l) es) ∙ i) in
        same_key_of eq laws k l (get keys n)
        (ap (λ m. option_map_or (eq k) (get keys m) false) (sym x.2) ∙ kept.numbered k x.0 x.1)
        (ap (λ m. option_map_or (eq l) (get keys m) false) (sym y.2) ∙ kept.numbered l y.0 y.1);
  }

some_passed : {X : Type 0} (test : X → Bool) (o : Option X) → option_map_or test o false ≡ true → (x : X) × (o ≡ Some x) × (test x ≡ true)
some_passed test None h = absurd (true≢false (sym h))
some_passed test (Some x) h = (x, refl, h)

-- a number that some key has is that of the key which is kept under it
pub key_there : {K R : Type 0} (eq : K → K → Bool) → IsEquivalence eq → (es : List (K × Record R)) (keys : Slab K) → IsKept eq es keys → (k : K) (n : ℕ) → lookup (eq k) (numbers_of es) ≡ Some n
    → (q : K) × (get keys n ≡ Some q) × (lookup (eq q) (numbers_of es) ≡ Some n)
key_there {K} {R} eq laws es keys kept k n h =
    let r = number_of (lookup (eq k) es) n (sym (number_at (eq k) es) ∙ h) in
    let q = some_passed (eq k) (get keys (r.0).number) (kept.numbered k r.0 r.1) in
    let same : (x : K) → eq q.0 x ≡ eq k x = λ x. sym (laws.congr k q.0 x q.2) in
    (q.0, ap (get keys) (sym r.2) ∙ q.1, ap (λ t. lookup t (numbers_of es)) (λ i x. same x i) ∙ h)

-- a record's number has a key
pub number_has_key : {K R : Type 0} (eq : K → K → Bool) (es : List (K × Record R)) (keys : Slab K) → IsKept eq es keys → (k : K) (r : Record R) → lookup (eq k) es ≡ Some r → IsSome (get keys r.number)
number_has_key eq es keys kept k r there = ap is_some (some_passed (eq k) (get keys r.number) (kept.numbered k r there)).1

module _ {K R : Type 0} (eq : K → K → Bool) (laws : IsEquivalence eq) (es : List (K × Record R)) (keys : Slab K) (kept : IsKept eq es keys) (k : K) (n : ℕ) (h : lookup (eq k) (numbers_of es) ≡ Some n) where
  -- so there is a key under it
  pub key_missing : get keys n ≡ None → ⊥
  key_missing none = let q = key_there eq laws es keys kept k n h in no_some q.0 (sym none ∙ q.1)

  -- and its record has the number
  pub record_missing : (x : K) → get keys n ≡ Some x → lookup (eq x) (numbers_of es) ≡ None → ⊥
  record_missing x there none =
      let q = key_there eq laws es keys kept k n h in
      no_some n (sym none ∙ ap (λ y. lookup (eq y) (numbers_of es)) (some_is x q.0 (sym there ∙ q.1)) ∙ q.2)

  pub number_other : (x : K) (m : ℕ) → get keys n ≡ Some x → lookup (eq x) (numbers_of es) ≡ Some m → m ≢ n → ⊥
  number_other x m there is other =
      let q = key_there eq laws es keys kept k n h in
      other (some_is m n (sym is ∙ ap (λ y. lookup (eq y) (numbers_of es)) (some_is x q.0 (sym there ∙ q.1)) ∙ q.2))
