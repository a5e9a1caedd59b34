-- The texts of values, part by part.
use Rattle.std.proofs.Common.{◌≡◌, ◌∙◌, ℕ, Bool, true, false, List, [], ◌∷◌, ◌++◌, refl, ap, append_assoc}
use Rattle.std.proofs.lemmas.List.{append-nil}
use Rattle.std.proofs.lemmas.List.Sums.{fold-append}
use Rattle.std.specs.List.{fold}
use Rattle.std.specs.Prelude.{codes}
use Rattle.json.specs.Token.{Token}
use Rattle.json.specs.Json.{Json, null, boolean, number, string, array, object, Items, no_items, item, Members, no_members, member}
use Rattle.json.specs.Print.{print_from, ends, quoted}
use Rattle.json.specs.Tree.{json_tokens, items_tokens, members_tokens}
use Rattle.json.proofs.Printed.Tokens.{print_from-append}
use Rattle.mst_rows.specs.Printed.{comma, json_text, items_text, members_text}

-- ---- a value's last token ends it
abbrev ended : Bool → List Token → Bool
ended c ts = fold (λ _ u. ends u) c ts

ended_items : (c : Bool) (js : Items) → ended c (items_tokens js) ≡ true
ended_items c no_items = refl
ended_items c (item j js) = fold-append (λ _ u. ends u) c (json_tokens j) (items_tokens js) ∙ ended_items (ended c (json_tokens j)) js

ended_members : (c : Bool) (ms : Members) → ended c (members_tokens ms) ≡ true
ended_members c no_members = refl
ended_members c (member k j ms) = fold-append (λ _ u. ends u) false (json_tokens j) (members_tokens ms) ∙ ended_members (ended false (json_tokens j)) ms

ended_json : (c : Bool) (j : Json) → ended c (json_tokens j) ≡ true
ended_json c null = refl
ended_json c (boolean b) = refl
ended_json c (number s) = refl
ended_json c (string s) = refl
ended_json c (array js) = ended_items false js
ended_json c (object ms) = ended_members false ms

-- ---- and its first begins it
begun_json : (c : Bool) (j : Json) → print_from c (json_tokens j) ≡ comma c ++ json_text j
unfolding print_from json_text
begun_json true null = refl
begun_json true (boolean b) = refl
begun_json true (number s) = refl
begun_json true (string s) = refl
begun_json true (array js) = refl
begun_json true (object ms) = refl
begun_json false null = refl
begun_json false (boolean b) = refl
begun_json false (number s) = refl
begun_json false (string s) = refl
begun_json false (array js) = refl
begun_json false (object ms) = refl

before_others : (c : Bool) (j : Json) (ts : List Token) → print_from c (json_tokens j ++ ts) ≡ comma c ++ (json_text j ++ print_from true ts)
before_others c j ts =
    print_from-append c (json_tokens j) ts
    ∙ ap (λ e. print_from c (json_tokens j) ++ print_from e ts) (ended_json c j)
    ∙ ap (λ l. l ++ print_from true ts) (begun_json c j)
    ∙ append_assoc (comma c) (json_text j) (print_from true ts)

-- ---- members
pub members_text-member : (c : Bool) (k : List ℕ) (j : Json) (ms : Members) → members_text c (member k j ms) ≡ comma c ++ ((quoted k ++ 58 ∷ []) ++ (json_text j ++ members_text true ms))
unfolding print_from members_text
members_text-member true k j ms = ap (λ l. 44 ∷ ((quoted k ++ 58 ∷ []) ++ l)) (before_others false j (members_tokens ms))
members_text-member false k j ms = ap (λ l. (quoted k ++ 58 ∷ []) ++ l) (before_others false j (members_tokens ms))

pub members_text-none : (c : Bool) → members_text c no_members ≡ 125 ∷ []
unfolding print_from members_text
members_text-none true = refl
members_text-none false = refl

pub json_text-object : (ms : Members) → json_text (object ms) ≡ 123 ∷ members_text false ms
unfolding print_from json_text members_text
json_text-object ms = refl

-- ---- items
pub items_text-item : (c : Bool) (j : Json) (js : Items) → items_text c (item j js) ≡ comma c ++ (json_text j ++ items_text true js)
unfolding items_text
items_text-item c j js = before_others c j (items_tokens js)

pub items_text-none : (c : Bool) → items_text c no_items ≡ 93 ∷ []
unfolding print_from items_text
items_text-none true = refl
items_text-none false = refl

pub json_text-array : (js : Items) → json_text (array js) ≡ 91 ∷ items_text false js
unfolding print_from json_text items_text
json_text-array js = refl

-- ---- the others
pub json_text-string : (s : List ℕ) → json_text (string s) ≡ quoted s
unfolding print_from json_text
json_text-string s = append-nil (quoted s)

pub json_text-number : (s : List ℕ) → json_text (number s) ≡ s
unfolding print_from json_text
json_text-number s = append-nil s

pub json_text-null : json_text null ≡ codes "null"
unfolding print_from json_text
json_text-null = refl

pub json_text-true : json_text (boolean true) ≡ codes "true"
unfolding print_from json_text
json_text-true = refl

pub json_text-false : json_text (boolean false) ≡ codes "false"
unfolding print_from json_text
json_text-false = refl
