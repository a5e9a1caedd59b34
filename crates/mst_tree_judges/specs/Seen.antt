-- What is seen of trees in the view of a network that is judged.
use Rattle.std.specs.Prelude.{ℕ, ◌==◌, ◌||◌, not, Bool, false, List, [], ◌∷◌, Option, None, Vec, length, filter, filter_map, map, if◌then◌else◌}
use Rattle.std.specs.List.{find}
use Rattle.std.specs.Option.{option_map_or}
use Rattle.std.specs.HashMap.{HashMap, get}
use Rattle.std.specs.declared.alloc.Global.{Global}
use Rattle.std.specs.FinMap as fin
use Rattle.mst_ids.specs.declared.name.PortName.{PortName}
use Rattle.mst_tables.specs.ByTree.{by_tree}
use Rattle.mst_tables.specs.Tables.{Net, BridgeRow}
use Rattle.mst_roles.specs.forest.config.Regions.{same_region}
use Rattle.mst_view.specs.Aggregation.{same_name}
use Rattle.mst_view.specs.Viewed.{Viewed}
use Rattle.mst_view.specs.declared.in_view.PortInView.{PortInView}
use Rattle.mst_judged.specs.reasons.note_text.declared.children.Child.{Child}
use Rattle.mst_roles.specs.forest.Forest.{Forest}
use Rattle.mst_roles.specs.forest.InUse.{id_in}
use Rattle.mst_roles.specs.forest.Outcome.{Outcome}
use Rattle.mst_roles.specs.SeenRoles.{seen_role}
use Rattle.mst_roles.specs.declared.kind.Role.{Role}
use Rattle.mst_graph.specs.Lists.{has_any}
use Rattle.mst_judged.specs.reasons.summary.Roots.{follower}
use Rattle.mst_judged.specs.reasons.summary.declared.roots.Follower.{Follower}
use Rattle.mst_policy.specs.declared.expectation.Roles.{Roles}
use Rattle.mst_judged.specs.reasons.Holds.{is_wanted}
use Rattle.mst_judged.specs.reasons.Reasons.{same_role}
use Rattle.mst_judged.specs.reasons.declared.reason.Reason.{Reason}
use Rattle.mst_judged.specs.reasons.declared.reason.Reason.TheVariants as why

-- the logical LAN of a LAN
abbrev pub seen_logical : Viewed → List ℕ → List ℕ
seen_logical v lan = option_map_or (λ m. m.lan) (find (λ m. same_name m.name lan) v.member_lans) lan

-- the names of those of these ports that have a role
abbrev pub seen_with_role : Viewed → Forest → ℕ → List PortInView → Option Role → List PortName
seen_with_role v f tree ports role = map (λ p. p.name) (filter (λ p. same_role (seen_role v f tree p) role) ports)

abbrev pub seen_role_reason : Viewed → Forest → ℕ → List PortInView → Roles → Option Role → List Reason
seen_role_reason v f tree ports roles role =
    let names = seen_with_role v f tree ports role in if is_wanted roles role || not (has_any names) then [] else why.Role tree names role ∷ []

-- a bridge with the root that it names, if its root is asked of
abbrev pub concerned_follower : Net → Outcome → ℕ → List ℕ → List ℕ × BridgeRow → Option Follower
concerned_follower net o tree b e = if tree == 0 || same_region net b e.0 then follower net o tree e else None

abbrev pub concerned_followers : Net → Outcome → ℕ → List ℕ → List Follower
concerned_followers net o tree b = filter_map (concerned_follower net o tree b) (fin.entries net.bridges)

-- a bridge that isn't B, and whose identifier some of these name
abbrev pub seen_other_root : Net → ℕ → List ℕ → List Follower → List ℕ × BridgeRow → List Reason
seen_other_root net tree b all e =
    let count = length (filter (λ f. f.root == id_in (by_tree net) tree e.0 e.1) all) in if same_name e.0 b || count == 0 then [] else why.OtherRoot tree e.0 count ∷ []

-- a bridge is a child of this one
abbrev pub is_child_of : List ℕ → Child → Bool
is_child_of parent c = option_map_or (λ own. same_name own parent) c.parent false

-- the names that are kept for a parent, none where nothing is kept
abbrev pub names_at : {S : Type 0} → HashMap (List ℕ) (Vec (List ℕ) Global) S → List ℕ → List (List ℕ)
names_at kept parent = option_map_or (λ names. names.items) (get same_name kept parent) []
