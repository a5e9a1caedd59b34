-- Known bytes, and fronts of texts.
use Rattle.std.proofs.Common.{◌≡◌, ℕ, List, ◌∷◌, ◌++◌, length, take, drop, Option, Some, None, sym, ap, ◌∙◌, append_assoc, take-append-drop, subst, ◌+◌, ◌<◌, get_or}
use Rattle.std.specs.List.{flat_map}
use Rattle.std.proofs.lemmas.List.{drop_more}
use Rattle.std.proofs.lemmas.Grind.{flat_map-append}
use Rattle.std.specs.Io.KnownBytes.{Appends, Keeps}
use Rattle.std.proofs.KnownBytes.{Appends-trans}
use Rattle.mst_io.specs.Written.{AppendsFront}

pub Appends-kept : (a b c : Option (List ℕ)) (bs : List ℕ) → Appends a b bs → Keeps b c → Appends a c bs
Appends-kept None b c bs p q = tt
Appends-kept (Some x) None c bs p q = absurd p
Appends-kept (Some x) (Some y) None bs p q = absurd q
Appends-kept (Some x) (Some y) (Some z) bs p q = q ∙ p

-- the rest after a count is the rest after a longer front
pub front_more : (all front rest : List ℕ) (count : ℕ) → all ≡ front ++ rest → all ≡ (front ++ take count rest) ++ drop count rest
front_more all front rest count e = e ∙ ap (λ l. front ++ l) (sym (take-append-drop count rest)) ∙ sym (append_assoc front (take count rest) (drop count rest))

-- a text went out whole, and then a front of the next
pub AppendsFront-after : (a b c : Option (List ℕ)) (x y : List ℕ) → Appends a b x → AppendsFront b c y → AppendsFront a c (x ++ y)
AppendsFront-after a b c x y p q = record {
  front = x ++ q.front;
  rest = q.rest;
  whole = ap (λ l. x ++ l) q.whole ∙ sym (append_assoc x q.front q.rest);
  written = Appends-trans a b c x q.front p q.written;
}

-- a front of a text is one of a longer text
pub AppendsFront-longer : (a b : Option (List ℕ)) (x y : List ℕ) → AppendsFront a b x → AppendsFront a b (x ++ y)
AppendsFront-longer a b x y p = record {
  front = p.front;
  rest = p.rest ++ y;
  whole = ap (λ l. l ++ y) p.whole ∙ append_assoc p.front p.rest y;
  written = p.written;
}

parts_split : {X : Type 0} (f : X → List ℕ) (parts : List X) (i : ℕ) (d : X) → i < length parts → flat_map f parts ≡ (flat_map f (take i parts) ++ f (get_or parts i d)) ++ flat_map f (drop (i + 1) parts)
parts_split f parts i d h =
    ap (flat_map f) (sym (take-append-drop i parts) ∙ ap (λ l. take i parts ++ l) (drop_more parts i d h))
    ∙ flat_map-append f (take i parts) (get_or parts i d ∷ drop (i + 1) parts)
    ∙ sym (append_assoc (flat_map f (take i parts)) (f (get_or parts i d)) (flat_map f (drop (i + 1) parts)))

-- some parts went out, and a front of the next
pub AppendsFront-parts : {X : Type 0} (f : X → List ℕ) (a b c : Option (List ℕ)) (parts : List X) (i : ℕ) (d : X) → i < length parts → Appends a b (flat_map f (take i parts)) → AppendsFront b c (f (get_or parts i d)) → AppendsFront a c (flat_map f parts)
AppendsFront-parts f a b c parts i d h p q =
    subst (AppendsFront a c) (sym (parts_split f parts i d h))
    (AppendsFront-longer a c (flat_map f (take i parts) ++ f (get_or parts i d)) (flat_map f (drop (i + 1) parts)) (AppendsFront-after a b c (flat_map f (take i parts)) (f (get_or parts i d)) p q))
