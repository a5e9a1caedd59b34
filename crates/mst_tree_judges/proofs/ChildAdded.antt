-- A bridge that is added to the children of its parent.
use Rattle.std.proofs.Common.{◌≡◌, ℕ, ◌+◌, ◌<◌, Bool, true, false, cond, List, [], ◌∷◌, ◌++◌, length, get_or, take, map, Option, Some, None, refl, sym, ap, ◌∙◌, append-nil}
use Rattle.std.specs.Prelude.{Vec}
use Rattle.std.specs.List.{filter}
use Rattle.std.specs.Option.{option_map_or}
use Rattle.std.specs.HashMap.{HashMap, get}
use Rattle.std.specs.Cmp.Lexicographic.{bytes_decides}
use Rattle.std.specs.declared.alloc.Global.{Global}
use Rattle.std.proofs.lemmas.List.{map-append, take_more}
use Rattle.std.proofs.lemmas.List.Elements.{filter-append}
use Rattle.mst_view.specs.Aggregation.{same_name}
use Rattle.mst_judged.specs.reasons.note_text.declared.children.Child.{Child}
use Rattle.mst_tree_judges.specs.Seen.{is_child_of, names_at}

-- to what was kept, and was taken away
pub child_added : {S : Type 0} (old gone new : HashMap (List ℕ) (Vec (List ℕ) Global) S) (parent child : List ℕ) (kept : Vec (List ℕ) Global)
    → ((q : List ℕ) → get same_name gone q ≡ cond (same_name parent q) None (get same_name old q))
    → ((q : List ℕ) → get same_name new q ≡ cond (same_name parent q) (Some kept) (get same_name gone q))
    → kept.items ≡ names_at old parent ++ child ∷ []
    → (q : List ℕ) → names_at new q ≡ names_at old q ++ cond (same_name parent q) (child ∷ []) []
child_added old gone new parent child kept away put is q = go (same_name parent q) refl
  where
    items : Option (Vec (List ℕ) Global) → List (List ℕ)
    items o = option_map_or (λ w. w.items) o []

    at : (b : Bool) → same_name parent q ≡ b → names_at new q ≡ items (cond b (Some kept) (cond b None (get same_name old q)))
    at b e = ap items (put q ∙ ap (λ o. cond (same_name parent q) (Some kept) o) (away q) ∙ ap (λ c. cond c (Some kept) (cond c None (get same_name old q))) e)

    go : (b : Bool) → same_name parent q ≡ b → names_at new q ≡ names_at old q ++ cond b (child ∷ []) []
    go true e = at true e ∙ is ∙ ap (λ l. names_at old l ++ child ∷ []) ((bytes_decides parent q).0 e)
    go false e = at false e ∙ sym (append-nil (names_at old q))

-- ---- the children so far, with one more
abbrev pub of_parent : List ℕ → List Child → List (List ℕ)
of_parent parent children = map (λ c. c.name) (filter (is_child_of parent) children)

one : (parent : List ℕ) (child : Child) → of_parent parent (child ∷ []) ≡ cond (is_child_of parent child) (child.name ∷ []) []
one parent child = go (is_child_of parent child)
  where
    go : (b : Bool) → map (λ (c : Child). c.name) (cond b (child ∷ []) []) ≡ cond b (child.name ∷ []) []
    go true = refl
    go false = refl

pub children_more : (children : List Child) (i : ℕ) (child : Child) → i < length children → child ≡ get_or children i child
    → (parent : List ℕ) → of_parent parent (take (i + 1) children) ≡ of_parent parent (take i children) ++ cond (is_child_of parent child) (child.name ∷ []) []
children_more children i child l is parent =
    ap (of_parent parent) (take_more children i child l ∙ ap (λ c. take i children ++ c ∷ []) (sym is))
    ∙ ap (map (λ (c : Child). c.name)) (filter-append (is_child_of parent) (take i children) (child ∷ []))
    ∙ map-append (λ (c : Child). c.name) (filter (is_child_of parent) (take i children)) (filter (is_child_of parent) (child ∷ []))
    ∙ ap (λ names. of_parent parent (take i children) ++ names) (one parent child)
