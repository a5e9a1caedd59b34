-- The texts of values, as the kit's JSON prints them: no space, and the shortest escapes.
use Rattle.std.specs.Prelude.{ℕ, Bool, List, [], ◌∷◌, if◌then◌else◌}
use Rattle.json.specs.Json.{Json, Items, Members}
use Rattle.json.specs.Print.{print, print_from}
use Rattle.json.specs.Tree.{json_tokens, items_tokens, members_tokens}

unfoldable pub json_text : Json → List ℕ
json_text value = print (json_tokens value)

-- what stands between one and another
abbrev pub comma : Bool → List ℕ
comma follows = if follows then 44 ∷ [] else []

-- of items and of members with the bracket that closes them, where one stands before them or none
unfoldable pub items_text : Bool → Items → List ℕ
items_text follows items = print_from follows (items_tokens items)

unfoldable pub members_text : Bool → Members → List ℕ
members_text follows members = print_from follows (members_tokens members)
