-- The rows of logical LANs that are far slower than those beside them.
use Rattle.std.specs.Prelude.{ℕ, ◌*◌, ◌&&◌, ◌||◌, ◌++◌, not, Bool, List, [], ◌∷◌, Option, None, Some, map, filter, fold, find, nat_lt, nat_le, min, if◌then◌else◌}
use Rattle.std.specs.List.{flat_map, list_all}
use Rattle.mst_kinds.specs.declared.kind.Kind.TheVariants as kind
use Rattle.mst_kinds.specs.declared.summary_line.SummaryLine.TheVariants as summary_line
use Rattle.mst_rows.specs.Cells.{number, word}
use Rattle.mst_rows.specs.Rows.{Row, row_of}
use Rattle.mst_tables.specs.Tables.{Net}
use Rattle.mst_view.specs.Aggregation.{same_name}
use Rattle.mst_view.specs.View.{LogicalLan, LogicalPort, view_lans, view_ports}

-- the bridges of the logical ports of a logical LAN, one for each port
abbrev pub bridges_on : Net → List ℕ → List (List ℕ)
bridges_on net lan = map (λ p. p.name.bridge) (filter (λ p. same_name p.lan lan) (view_ports net))

-- these are this one and one other alone
abbrev pub two_alone : List ℕ → List (List ℕ) → Option (List ℕ) → Option (List ℕ × List ℕ)
two_alone a others None = None
two_alone a others (Some b) = if list_all (λ c. same_name c a || same_name c b) others then Some (a, b) else None

-- the first of these and the first other, where there are just two
abbrev pub just_two : List (List ℕ) → Option (List ℕ × List ℕ)
just_two [] = None
just_two (a ∷ others) = two_alone a others (find (λ b. not (same_name b a)) others)

-- a port is on another logical LAN, which is up: one that is down has the speed 0
abbrev pub is_beside : List ℕ → LogicalPort → Bool
is_beside lan p = not (same_name p.lan lan) && nat_lt 0 p.speed

-- the speeds of those LANs, of the logical ports of a bridge
abbrev pub speeds_beside : Net → List ℕ → List ℕ → List ℕ
speeds_beside net lan bridge = map (λ p. p.speed) (filter (is_beside lan) (filter (λ p. same_name p.name.bridge bridge) (view_ports net)))

-- the least of some speeds
abbrev pub with_lesser : Option ℕ → ℕ → Option ℕ
with_lesser None speed = Some speed
with_lesser (Some least) speed = Some (min least speed)

abbrev pub least : List ℕ → Option ℕ
least speeds = fold with_lesser None speeds

-- each of these is at least 100 times as fast where the least of them is
abbrev pub is_far_slower : ℕ → ℕ → Bool
is_far_slower speed next = nat_le (speed * 100) next

-- `look lan L speed S next S`: its speed and the least speed beside it
abbrev pub lan_row : List ℕ → ℕ → ℕ → Row
lan_row lan speed next = row_of (kind.Summary summary_line.LookLan) (word lan ∷ number speed ∷ number next ∷ [])

abbrev pub rows_where_slower : List ℕ → ℕ → Option ℕ → List Row
rows_where_slower lan speed None = []
rows_where_slower lan speed (Some next) = if is_far_slower speed next then lan_row lan speed next ∷ [] else []

-- of a logical LAN between two bridges
abbrev pub rows_between : Net → LogicalLan → Option (List ℕ × List ℕ) → List Row
rows_between net lan None = []
rows_between net lan (Some two) = rows_where_slower lan.name lan.speed (least (speeds_beside net lan.name two.0 ++ speeds_beside net lan.name two.1))

-- of one that is up and has ports of just two bridges
abbrev pub rows_of_lan : Net → LogicalLan → List Row
rows_of_lan net lan = if lan.is_up then rows_between net lan (just_two (bridges_on net lan.name)) else []

-- of all, by name
abbrev pub lan_rows : Net → List Row
lan_rows net = flat_map (rows_of_lan net) (view_lans net)
