-- What is seen of the bridges in question, with their identifiers.
use Rattle.std.specs.Prelude.{ℕ, ◌==◌, not, Bool, List, Option, None, Some, filter, map, nat_lt, if◌then◌else◌}
use Rattle.std.specs.List.{list_all}
use Rattle.mst_ids.specs.Identifiers.{bridge_id}
use Rattle.mst_view.specs.Aggregation.{same_name}
use Rattle.mst_verify.specs.summary.declared.roots.Follower.{Follower}
use Rattle.mst_net.specs.tables.Tables.{Net}
use Rattle.mst_roles.specs.forest.Outcome.{Outcome}
use Rattle.mst_verify.specs.tree_judges.Seen.{concerned_followers}
use Rattle.mst_advise.specs.declared.setting.Setting.{Setting}
use Rattle.mst_advise.specs.declared.setting.Setting.TheVariants.{Priority}

abbrev pub seen_others : Net → Outcome → ℕ → List ℕ → List Follower
seen_others net o tree b = filter (λ f. not (same_name f.name b)) (concerned_followers net o tree b)

-- the identifiers of these
abbrev pub ids_of : List Follower → List ℕ
ids_of followers = map (λ f. f.id) followers

abbrev pub seen_first : ℕ → ℕ → List ℕ → ℕ → Bool
seen_first tree mac ids priority = list_all (λ id. nat_lt (bridge_id priority tree mac) id) ids

-- one whose identifier is less has its priority set
abbrev pub seen_next : ℕ → ℕ → Follower → Option Setting
seen_next tree best f = if nat_lt f.id best then Some (Priority f.name tree 1) else None

-- the name of one whose root isn't this one
abbrev pub seen_apart : ℕ → Follower → Option (List ℕ)
seen_apart id f = if not (f.root == id) then Some f.name else None
