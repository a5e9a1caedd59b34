-- What the rows of an explanation say of who gives a bridge its root priority vector.
use Rattle.std.specs.Prelude.{ℕ, ◌-◌, List, [], ◌∷◌, Option, None, Some, filter_map}
use Rattle.std.specs.List.{find}
use Rattle.std.specs.Option.{option_and_then, option_map}
use Rattle.mst_ids.specs.declared.name.PortName.{PortName}
use Rattle.mst_kinds.specs.declared.contest_line.ContestLine.{ContestLine}
use Rattle.mst_kinds.specs.declared.contest_line.ContestLine.TheVariants.{RootOver, RootByCost, RootById}
use Rattle.mst_kinds.specs.declared.kind.Kind.{Kind}
use Rattle.mst_kinds.specs.declared.kind.Kind.TheVariants as kind
use Rattle.mst_rows.specs.Cells.{Cell, port, number}
use Rattle.mst_rows.specs.Rows.{Row}
use Rattle.mst_net.specs.tables.Tables.{port_eq}
use Rattle.mst_advise.specs.declared.contests.RootContest.{RootContest}

-- a port, if it is one; and a cost, 0 where it is none
abbrev pub port_in : Cell → Option PortName
port_in (port p) = Some p
port_in _ = None

abbrev pub cost_in : Cell → ℕ
cost_in (number cost) = cost
cost_in _ = 0

-- by how much the loser's cost is greater than the winner's
abbrev pub excess_in : List Cell → ℕ
excess_in (field ∷ w ∷ x ∷ []) = cost_in x - cost_in w
excess_in _ = 0

-- W won over X
abbrev pub contest : Cell → Cell → ℕ → Option RootContest
contest w x excess = option_and_then (λ winner. option_map (λ loser. record { winner = winner; loser = loser; excess = excess }) (port_in x)) (port_in w)

-- `root W over X`, `root W over X FIELD w x`: where no cost decides, none is greater
abbrev pub contest_by : ContestLine → Cell → Cell → List Cell → Option RootContest
contest_by RootOver w x behind = contest w x 0
contest_by RootById w x behind = contest w x 0
contest_by RootByCost w x behind = contest w x (excess_in behind)
contest_by _ w x behind = None

-- behind the tree and the port that is explained
abbrev pub contest_in : ContestLine → List Cell → Option RootContest
contest_in line (tree ∷ explained ∷ w ∷ x ∷ behind) = contest_by line w x behind
contest_in line _ = None

abbrev pub contest_of : Kind → List Cell → Option RootContest
contest_of (kind.Contest line) cells = contest_in line cells
contest_of _ cells = None

-- those that rows tell
abbrev pub contests_in : List Row → List RootContest
contests_in rows = filter_map (λ row. contest_of row.kind row.cells) rows

-- the one that a port loses
abbrev pub lost_by : PortName → List RootContest → Option RootContest
lost_by p contests = find (λ c. port_eq c.loser p) contests
