-- Lists that grow: by what each element gives, and by one list after another.
use Rattle.std.proofs.Common.{◌≡◌, ◌∙◌, ℕ, ◌+◌, ◌<◌, ◌≤◌, Bool, true, false, cond, List, [], ◌∷◌, ◌++◌, length, take, get_or, refl, sym, ap, append_assoc, append-nil, arith}
use Rattle.std.proofs.lemmas.Grind.{common_steps}
use Rattle.std.proofs.lemmas.List.{take_all}
use Rattle.std.specs.List.{flat_map, filter}
use Rattle.mst_lang.specs.declared.line.Edit.{Edit}
use Rattle.mst_edits.specs.Edits.{joined}

flat_taken : {X A : Type 0} (f : X → List A) (xs : List X) (i : ℕ) (x : X) → i < length xs → x ≡ get_or xs i x → flat_map f (take i xs) ++ f x ≡ flat_map f (take (i + 1) xs)
flat_taken f xs i x below is = grind (arith, common_steps)

-- what the elements before a place gave, and what the one there gives
pub one_given : {X A : Type 0} (f : X → List A) (xs : List X) (i : ℕ) (x : X) (old now new : List A) → i < length xs → x ≡ get_or xs i x → now ≡ old ++ flat_map f (take i xs) → new ≡ now ++ f x → new ≡ old ++ flat_map f (take (i + 1) xs)
one_given f xs i x old now new below is so_far more =
    more ∙ ap (λ (l : List _). l ++ f x) so_far ∙ append_assoc old (flat_map f (take i xs)) (f x) ∙ ap (λ (l : List _). old ++ l) (flat_taken f xs i x below is)

-- what all gave, where the list is another one's
pub all_given : {X A : Type 0} (f : X → List A) (xs ys : List X) (i : ℕ) (old now : List A) → length xs ≤ i → now ≡ old ++ flat_map f (take i xs) → xs ≡ ys → now ≡ old ++ flat_map f ys
all_given f xs ys i old now above so_far same = so_far ∙ ap (λ (l : List _). old ++ flat_map f l) (take_all i xs above ∙ same)

-- lists, one behind another
abbrev pub behind : List Edit → List (List Edit) → List Edit
behind es [] = es
behind es (fs ∷ others) = behind (es ++ fs) others

pub all_behind : (es : List Edit) (ess : List (List Edit)) → behind es ess ≡ es ++ joined ess
all_behind es [] = sym (append-nil es)
all_behind es (fs ∷ ess) = all_behind (es ++ fs) ess ∙ append_assoc es fs (joined ess)

-- what the elements that pass a test give, where the others give nothing
pub only_passing : {X A : Type 0} (test : X → Bool) (f : X → List A) → ((x : X) → test x ≡ false → f x ≡ []) → (xs : List X) → flat_map f (filter test xs) ≡ flat_map f xs
only_passing test f none [] = refl
only_passing test f none (x ∷ xs) = by (test x) refl (only_passing test f none xs)
  where
    by : (b : Bool) → test x ≡ b → flat_map f (filter test xs) ≡ flat_map f xs → flat_map f (cond b (x ∷ filter test xs) (filter test xs)) ≡ f x ++ flat_map f xs
    by true e rest = ap (λ (l : List _). f x ++ l) rest
    by false e rest = rest ∙ ap (λ (l : List _). l ++ flat_map f xs) (sym (none x e))

-- one more list
pub onto : {now new old : List Edit} (es : List Edit) → new ≡ now ++ es → now ≡ old → new ≡ old ++ es
onto es more so_far = more ∙ ap (λ (l : List Edit). l ++ es) so_far
