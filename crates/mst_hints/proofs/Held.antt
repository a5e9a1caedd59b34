-- What lines put into what, as the code keeps it, and the first that is there still.
use Rattle.std.proofs.Common.{◌≡◌, ◌∙◌, ℕ, Bool, true, false, cond, nat_eq, ◌&&◌, List, [], ◌∷◌, ◌++◌, Option, Some, None, find, is_some, refl, sym, ap, true≢false}
use Rattle.std.proofs.lemmas.Bool.{eqb-true}
use Rattle.std.specs.Option.{option_map, option_or, unwrap_or}
use Rattle.std.specs.Map.{lookup}
use Rattle.std.specs.Cmp.Lexicographic.{pointwise}
use Rattle.mst_net.specs.tables.Tables.{Net}
use Rattle.mst_hints.specs.Puts.{Put, first_put, held_by, is_held, same_holder}
use Rattle.mst_hints.specs.declared.puts.Holder.{Holder}
use Rattle.mst_hints.specs.declared.puts.Holder.TheVariants.{AtMac, OnBridge, InLan}
use Rattle.mst_hints.specs.declared.record.Record.{Record}

-- ---- the first that is there still
-- where nothing was put there, nothing is
none_further : (b : Bool) (t : Bool) (put : Put) (rest : Option Record) (found : Option Put) → None ≡ cond b (Some put.1) rest → (None ≡ rest → None ≡ option_map (λ (q : Put). q.1) found) → None ≡ option_map (λ (q : Put). q.1) (cond (b && t) (Some put) found)
none_further true t put rest found e further = absurd (true≢false (sym (ap is_some e)))
none_further false t put rest found e further = further e

none_found : (f : Holder → Bool) (t : Record → Bool) (puts : List Put) → None ≡ lookup f puts → None ≡ option_map (λ (put : Put). put.1) (find (λ (put : Put). f put.0 && t put.1) puts)
none_found f t [] e = refl
none_found f t (put ∷ puts) e = none_further (f put.0) (t put.1) put (lookup f puts) (find (λ (q : Put). f q.0 && t q.1) puts) e (none_found f t puts)

pub held_none : (puts : List Put) (net : Net) (holder : Holder) → None ≡ first_put holder puts → None ≡ held_by puts net holder
held_none puts net holder e = none_found (λ place. same_holder place holder) (is_held net holder) puts e

-- what a line put there first is the first that is there, where it is
first_further : (b : Bool) (t : Record → Bool) (put : Put) (rest : Option Record) (found : Option Put) (held : Record)
    → Some held ≡ cond b (Some put.1) rest → t held ≡ true → (Some held ≡ rest → Some held ≡ option_map (λ (q : Put). q.1) found)
    → Some held ≡ option_map (λ (q : Put). q.1) (cond (b && t put.1) (Some put) found)
first_further true t put rest found held e is further =
    e ∙ ap (λ b. option_map (λ (q : Put). q.1) (cond b (Some put) found)) (sym (ap t (sym (ap (λ (o : Option Record). unwrap_or o held) e)) ∙ is))
first_further false t put rest found held e is further = further e

first_found : (f : Holder → Bool) (t : Record → Bool) (puts : List Put) (held : Record) → Some held ≡ lookup f puts → t held ≡ true → Some held ≡ option_map (λ (put : Put). put.1) (find (λ (put : Put). f put.0 && t put.1) puts)
first_found f t [] held e is = absurd (true≢false (ap is_some e))
first_found f t (put ∷ puts) held e is =
    first_further (f put.0) t put (lookup f puts) (find (λ (q : Put). f q.0 && t q.1) puts) held e is (λ further. first_found f t puts held further is)

pub held_first : (puts : List Put) (net : Net) (holder : Holder) (held : Record) → Some held ≡ first_put holder puts → is_held net holder held ≡ true → Some held ≡ held_by puts net holder
held_first puts net holder held e is = first_found (λ place. same_holder place holder) (is_held net holder) puts held e is

-- ---- with one more
is_split : (x y : Bool) → (x && y) ≡ true → (x ≡ true) × (y ≡ true)
is_split true y h = (refl, h)
is_split false y h = absurd (true≢false (sym h))

same_text : (a b : List ℕ) → pointwise nat_eq a b ≡ true → a ≡ b
same_text [] [] h = refl
same_text [] (y ∷ ys) h = absurd (true≢false (sym h))
same_text (x ∷ xs) [] h = absurd (true≢false (sym h))
same_text (x ∷ xs) (y ∷ ys) h =
    let both = is_split (nat_eq x y) (pointwise nat_eq xs ys) h in
    let first : x ≡ y = eqb-true x y both.0 in
    let others : xs ≡ ys = same_text xs ys both.1 in
    λ i. first i ∷ others i

is_one : (a b : Holder) → same_holder a b ≡ true → a ≡ b
is_one (AtMac a) (AtMac b) e = ap AtMac (eqb-true a b e)
is_one (AtMac a) (OnBridge b) e = absurd (true≢false (sym e))
is_one (AtMac a) (InLan b) e = absurd (true≢false (sym e))
is_one (OnBridge a) (AtMac b) e = absurd (true≢false (sym e))
is_one (OnBridge a) (OnBridge b) e = ap OnBridge (same_text a b e)
is_one (OnBridge a) (InLan b) e = absurd (true≢false (sym e))
is_one (InLan a) (AtMac b) e = absurd (true≢false (sym e))
is_one (InLan a) (OnBridge b) e = absurd (true≢false (sym e))
is_one (InLan a) (InLan b) e = ap InLan (same_text a b e)

alike : {K X : Type 0} (f g : K → Bool) (es : List (K × X)) → ((k : K) → f k ≡ g k) → lookup f es ≡ lookup g es
alike f g [] same = refl
alike f g (e ∷ es) same = ap (λ t. cond t (Some e.1) (lookup f es)) (same e.0) ∙ ap (λ o. cond (g e.0) (Some e.1) o) (alike f g es same)

or_cond : (b : Bool) (x : Record) (o end : Option Record) → cond b (Some x) (option_or o end) ≡ option_or (cond b (Some x) o) end
or_cond true x o end = refl
or_cond false x o end = refl

-- what is looked up among these and one more
with_end : (f : Holder → Bool) (puts : List Put) (holder : Holder) (held : Record) → lookup f (puts ++ (holder, held) ∷ []) ≡ option_or (lookup f puts) (cond (f holder) (Some held) None)
with_end f [] holder held = refl
with_end f (put ∷ puts) holder held =
    ap (λ o. cond (f put.0) (Some put.1) o) (with_end f puts holder held) ∙ or_cond (f put.0) put.1 (lookup f puts) (cond (f holder) (Some held) None)

or_some : (o end : Option Record) → is_some o ≡ true → option_or o end ≡ o
or_some None end e = absurd (true≢false (sym e))
or_some (Some x) end e = refl

or_none : (o : Option Record) → option_or o None ≡ o
or_none None = refl
or_none (Some x) = refl

none_or : (o end : Option Record) → is_some o ≡ false → option_or o end ≡ end
none_or None end e = refl
none_or (Some x) end e = absurd (true≢false e)

module _ (eq : Holder → Holder → Bool) (law : (a b : Holder) → eq a b ≡ same_holder a b) where
  -- there is one of this holder already
  pub still_first : (entries : List (Holder × Record)) (puts : List Put) (holder : Holder) (held : Record) → is_some (lookup (eq holder) entries) ≡ true
      → ((q : Holder) → lookup (same_holder q) entries ≡ first_put q puts) → (q : Holder) → lookup (same_holder q) entries ≡ first_put q (puts ++ (holder, held) ∷ [])
  still_first entries puts holder held there was q = go (same_holder holder q) refl
    where
      found : is_some (first_put holder puts) ≡ true
      found = ap is_some (sym (was holder) ∙ sym (alike (eq holder) (same_holder holder) entries (law holder))) ∙ there

      go : (t : Bool) → same_holder holder q ≡ t → lookup (same_holder q) entries ≡ first_put q (puts ++ (holder, held) ∷ [])
      go true e =
          was q ∙ sym (or_some (first_put q puts) (cond (same_holder holder q) (Some held) None) (ap (λ h. is_some (first_put h puts)) (sym (is_one holder q e)) ∙ found))
          ∙ sym (with_end (λ place. same_holder place q) puts holder held)
      go false e =
          was q ∙ sym (or_none (first_put q puts)) ∙ ap (λ t. option_or (first_put q puts) (cond t (Some held) None)) (sym e)
          ∙ sym (with_end (λ place. same_holder place q) puts holder held)

  -- there was none
  pub now_first : (entries new : List (Holder × Record)) (puts : List Put) (holder : Holder) (held : Record) → is_some (lookup (eq holder) entries) ≡ false
      → ((q : Holder) → lookup (eq q) new ≡ cond (eq holder q) (Some held) (lookup (eq q) entries))
      → ((q : Holder) → lookup (same_holder q) entries ≡ first_put q puts) → (q : Holder) → lookup (same_holder q) new ≡ first_put q (puts ++ (holder, held) ∷ [])
  now_first entries new puts holder held absent changed was q =
      sym (alike (eq q) (same_holder q) new (law q)) ∙ changed q
      ∙ ap (λ t. cond t (Some held) (lookup (eq q) entries)) (law holder q)
      ∙ ap (λ o. cond (same_holder holder q) (Some held) o) (alike (eq q) (same_holder q) entries (law q) ∙ was q)
      ∙ go (same_holder holder q) refl
      ∙ sym (with_end (λ place. same_holder place q) puts holder held)
    where
      none : is_some (first_put holder puts) ≡ false
      none = ap is_some (sym (was holder) ∙ sym (alike (eq holder) (same_holder holder) entries (law holder))) ∙ absent

      go : (t : Bool) → same_holder holder q ≡ t → cond (same_holder holder q) (Some held) (first_put q puts) ≡ option_or (first_put q puts) (cond (same_holder holder q) (Some held) None)
      go true e =
          ap (λ t. cond t (Some held) (first_put q puts)) e
          ∙ sym (none_or (first_put q puts) (Some held) (ap (λ h. is_some (first_put h puts)) (sym (is_one holder q e)) ∙ none))
          ∙ ap (λ t. option_or (first_put q puts) (cond t (Some held) None)) (sym e)
      go false e =
          ap (λ t. cond t (Some held) (first_put q puts)) e
          ∙ sym (or_none (first_put q puts))
          ∙ ap (λ t. option_or (first_put q puts) (cond t (Some held) None)) (sym e)
