-- What a record says beside its values.
use Rattle.std.specs.Prelude.{ℕ, Bool, false, List, [], ◌∷◌, ◌&&◌, ◌==◌, true, not, map, codes}
use Rattle.std.specs.List.{flat_map, list_all, list_any}
use Rattle.mst_kinds.specs.declared.kind.Kind.{Kind}
use Rattle.mst_kinds.specs.declared.part.Part.{Part}
use Rattle.mst_kinds.specs.declared.part.Part.TheVariants as part
use Rattle.mst_kinds.specs.Words.{key_text, mark_text}
use Rattle.mst_kinds.specs.Kinds.{first_of, parts_of}

-- the members of a part: the name of each, and the word that stands for it; where a value does, the empty word
abbrev pub shape_at : Part → List (List ℕ × List ℕ)
shape_at (part.Mark m) = []
shape_at (part.Key k) = (key_text k, []) ∷ []
shape_at (part.Commas k) = (key_text k, []) ∷ []
shape_at (part.Above k) = (key_text k, []) ∷ []
shape_at (part.Said k m) = (key_text k, mark_text m) ∷ []
shape_at (part.Told k m) = (key_text k, mark_text m) ∷ []
shape_at part.Port = (codes "bridge", []) ∷ (codes "port", []) ∷ []
shape_at part.AbovePort = (codes "bridge", []) ∷ (codes "port", []) ∷ []

-- the first word of a kind, and its members
abbrev pub shape_of : Kind → List ℕ × List (List ℕ × List ℕ)
shape_of kind = (mark_text (first_of kind), flat_map shape_at (parts_of kind))

-- two texts are one
abbrev pub same_text : List ℕ → List ℕ → Bool
same_text [] [] = true
same_text [] (y ∷ ys) = false
same_text (x ∷ xs) [] = false
same_text (x ∷ xs) (y ∷ ys) = x == y && same_text xs ys

-- no name stands twice
abbrev pub all_differ : List (List ℕ) → Bool
all_differ [] = true
all_differ (name ∷ names) = not (list_any (same_text name) names) && all_differ names

-- the keys for which words of the table stand, and never values
unfoldable pub worded : List (List ℕ)
worded = codes "of" ∷ codes "power" ∷ codes "region_kind" ∷ codes "note" ∷ codes "bridge_kind" ∷ codes "vlans" ∷ codes "restricted" ∷ codes "state" ∷ codes "result" ∷ codes "tree_kind" ∷ codes "side" ∷ codes "expectation" ∷ codes "goal" ∷ codes "command" ∷ codes "look" ∷ codes "because" ∷ codes "scope" ∷ []

abbrev pub is_worded : List ℕ → Bool
is_worded name = list_any (same_text name) worded

abbrev pub keeps_words : List ℕ × List ℕ → Bool
keeps_words (name, []) = not (is_worded name)
keeps_words (name, x ∷ xs) = is_worded name

abbrev pub keeps_all_words : Kind → Bool
keeps_all_words kind = list_all keeps_words (shape_of kind).1

abbrev pub has_keys_once : Kind → Bool
has_keys_once kind = all_differ (map (λ member. member.0) (shape_of kind).1)
