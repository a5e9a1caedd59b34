-- Priorities with which a bridge may be the root of a tree, or comes before some others there.
use Rattle.std.specs.Prelude.{ℕ, zero, suc, ◌==◌, not, Bool, List, [], ◌∷◌, ◌++◌, Option, None, Some, filter, map, nat_lt, if◌then◌else◌}
use Rattle.std.specs.List.{list_all}
use Rattle.std.specs.Option.{option_map_or}
use Rattle.std.specs.FinMap as fin
use Rattle.mst_ids.specs.Identifiers.{bridge_id}
use Rattle.mst_view.specs.Aggregation.{same_name}
use Rattle.mst_net.specs.tables.ByTree.{priority_in}
use Rattle.mst_net.specs.tables.Tables.{Net}
use Rattle.mst_roles.specs.forest.Outcome.{Outcome}
use Rattle.mst_verify.specs.tree_judges.judged.reasons.Roots.{concerned, identifier}
use Rattle.mst_advise.specs.declared.setting.Setting.{Setting}
use Rattle.mst_advise.specs.declared.setting.Setting.TheVariants.{Priority}

-- the other bridges in question: they are on, have the tree, and in a tree other than 0 are of B's region
abbrev pub others : Net → Outcome → ℕ → List ℕ → List (List ℕ)
others net o tree b = filter (λ c. not (same_name c b)) (concerned net o tree b)

-- with this priority a bridge of this MAC address has a lesser identifier in the tree than each of these
abbrev pub comes_first : Net → ℕ → ℕ → List (List ℕ) → ℕ → Bool
comes_first net tree mac bridges priority = list_all (λ c. nat_lt (bridge_id priority tree mac) (identifier net tree c)) bridges

-- the greatest number up to this one that passes a test
unfoldable pub greatest_upto : (ℕ → Bool) → ℕ → Option ℕ
greatest_upto passes zero = if passes 0 then Some 0 else None
greatest_upto passes (suc n) = if passes (suc n) then Some (suc n) else greatest_upto passes n

-- the greatest of the priorities, which are from 0, the best, to 15
abbrev pub greatest_priority : Net → ℕ → ℕ → List (List ℕ) → Option ℕ
greatest_priority net tree mac bridges = greatest_upto (comes_first net tree mac bridges) 15

-- ---- of a root
-- those whose identifier is less even than with priority 0
abbrev pub before_best : Net → ℕ → ℕ → List (List ℕ) → List (List ℕ)
before_best net tree mac bridges = filter (λ c. nat_lt (identifier net tree c) (bridge_id 0 tree mac)) bridges

-- a priority for B, unless B has it already
abbrev pub set_priority : Net → ℕ → List ℕ → ℕ → List Setting
set_priority net tree b priority = if priority_in net.priorities b tree == priority then [] else Priority b tree priority ∷ []

-- this priority for B; or where none suffices the best one, 0, and for those that come before it still the next one, 4096
abbrev pub priorities : Net → ℕ → List ℕ → ℕ → List (List ℕ) → Option ℕ → List Setting
priorities net tree b mac bridges (Some priority) = set_priority net tree b priority
priorities net tree b mac bridges None = set_priority net tree b 0 ++ map (λ c. Priority c tree 1) (before_best net tree mac bridges)

-- with a bridge's MAC address, if it is there
abbrev pub by_mac : Net → List ℕ → (ℕ → List Setting) → List Setting
by_mac net b settings = option_map_or (λ row. settings row.mac) (fin.get net.bridges b) []

abbrev pub root_settings : Net → Outcome → ℕ → List ℕ → List Setting
root_settings net o tree b =
    by_mac net b (λ mac. priorities net tree b mac (others net o tree b) (greatest_priority net tree mac (others net o tree b)))

-- ---- of a port of B
-- the greatest priority with which B comes before all of these, if it is below B's own
abbrev pub below_own : Net → ℕ → List ℕ → Option ℕ → List Setting
below_own net tree b None = []
below_own net tree b (Some priority) = if nat_lt priority (priority_in net.priorities b tree) then Priority b tree priority ∷ [] else []

abbrev pub lower_priority : Net → ℕ → List ℕ → ℕ → List (List ℕ) → List Setting
lower_priority net tree b mac bridges = below_own net tree b (greatest_priority net tree mac bridges)

-- with which it comes before the bridge C; and with which before all others in question as a root
abbrev pub lower_priorities : Net → Outcome → ℕ → List ℕ → List ℕ → List Setting
lower_priorities net o tree b c = by_mac net b (λ mac. lower_priority net tree b mac (c ∷ []) ++ lower_priority net tree b mac (others net o tree b))
