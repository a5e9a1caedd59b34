-- The ports of each bridge, one more port after another.
use Rattle.std.proofs.Common.{◌≡◌, ℕ, Bool, true, false, cond, List, [], ◌∷◌, ◌++◌, Option, Some, refl, sym, ap, ◌∙◌, append-nil, Less, Equal, Greater, nat_eq, true≢false}
use Rattle.std.specs.Prelude.{Vec}
use Rattle.std.specs.declared.cmp.Ordering.{Ordering}
use Rattle.std.specs.Option.{option_map_or}
use Rattle.std.specs.Ordering.{is_eq}
use Rattle.std.specs.BTreeMap.{BTreeMap, get, is_at}
use Rattle.std.specs.Cmp.Lexicographic.{pointwise, texts_ties}
use Rattle.std.specs.FinMap.{nat_cmp-IsAntisymmetric, slice_cmp-IsAntisymmetric}
use Rattle.std.specs.declared.alloc.Global.{Global}
use Rattle.mst_ids.specs.Names.{name_cmp}
use Rattle.mst_ids.specs.declared.name.PortName.{PortName}
use Rattle.mst_edits.specs.Homes.{kept_for}

tied : (o : Ordering) → is_eq o ≡ true → o ≡ Equal
tied Less e = absurd (true≢false (sym e))
tied Equal e = refl
tied Greater e = absurd (true≢false (sym e))

-- names that are equal by their bytes
name_is : (a b : List ℕ) → pointwise nat_eq a b ≡ true → a ≡ b
name_is a b e = slice_cmp-IsAntisymmetric nat_cmp-IsAntisymmetric a b (tied (name_cmp a b) (sym (texts_ties a b) ∙ e))

turned : (a b : List ℕ) → pointwise nat_eq a b ≡ true → pointwise nat_eq b a ≡ true
turned a b e = (let same = name_is a b e in ap (λ n. pointwise nat_eq n a) (sym same) ∙ ap (pointwise nat_eq a) same ∙ e)

-- a name that is looked up among others
found : (k q : List ℕ) → is_at (name_cmp k) q ≡ pointwise nat_eq q k
found k q = sym (texts_ties k q) ∙ go (pointwise nat_eq k q) (pointwise nat_eq q k) refl refl
  where
    go : (a b : Bool) → pointwise nat_eq k q ≡ a → pointwise nat_eq q k ≡ b → a ≡ b
    go true true e f = refl
    go true false e f = absurd (true≢false (sym (turned k q e) ∙ f))
    go false true e f = absurd (true≢false (sym (turned q k f) ∙ e))
    go false false e f = refl

abbrev items : Option (Vec PortName Global) → List PortName
items o = option_map_or (λ ports. ports.items) o []

-- one more port of the bridge k
pub one_kept : (old mid new : BTreeMap (List ℕ) (Vec PortName Global)) (k : List ℕ) (ports : Vec PortName Global) (p : PortName)
    → mid ≡ old → ((q : List ℕ) → get name_cmp new q ≡ cond (is_at (name_cmp k) q) (Some ports) (get name_cmp mid q)) → ports.items ≡ kept_for old k ++ p ∷ []
    → (q : List ℕ) → kept_for new q ≡ kept_for old q ++ cond (pointwise nat_eq q k) (p ∷ []) []
one_kept old mid new k ports p same put is q = go (pointwise nat_eq q k) refl
  where
    at : (b : Bool) → pointwise nat_eq q k ≡ b → kept_for new q ≡ items (cond b (Some ports) (get name_cmp old q))
    at b e = ap items (put q ∙ ap (λ t. cond t (Some ports) (get name_cmp mid q)) (found k q ∙ e) ∙ ap (λ m. cond b (Some ports) (get name_cmp m q)) same)

    go : (b : Bool) → pointwise nat_eq q k ≡ b → kept_for new q ≡ kept_for old q ++ cond b (p ∷ []) []
    go true e = at true e ∙ is ∙ ap (λ n. kept_for old n ++ p ∷ []) (sym (name_is q k e))
    go false e = at false e ∙ sym (append-nil (kept_for old q))
