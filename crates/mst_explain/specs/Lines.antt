-- The rows of an explanation.
use Rattle.std.specs.Prelude.{ℕ, Bool, List, [], ◌∷◌, ◌++◌, Option, None, Some, if◌then◌else◌}
use Rattle.mst_ids.specs.declared.name.PortName.{PortName}
use Rattle.mst_kinds.specs.declared.contest_line.ContestLine.TheVariants as contest_line
use Rattle.mst_kinds.specs.declared.explain_line.ExplainLine.TheVariants as explain_line
use Rattle.mst_kinds.specs.declared.kind.Kind.TheVariants as kind
use Rattle.mst_roles.specs.Names.{role_text}
use Rattle.mst_roles.specs.declared.kind.Role.{Role}
use Rattle.mst_rows.specs.Cells.{word, number, port}
use Rattle.mst_rows.specs.Rows.{Row, giver, row_of}
use Rattle.mst_explain.specs.Fields.{Field}
use Rattle.mst_explain.specs.declared.lines.Contest.{Contest}

-- a port in a tree, with its role
abbrev pub explain_rows : ℕ → PortName → List ℕ → Role → List Row
explain_rows tree p lan role = row_of (kind.Explain explain_line.Port) (number tree ∷ port p ∷ word lan ∷ word (role_text role) ∷ []) ∷ []

-- which port is its LAN's designated one, and whose vector is its bridge's
abbrev pub designated_contest : ℕ → PortName → Contest
designated_contest tree p = record { tree = tree; port = p; alone = contest_line.DesignatedAlone; over = contest_line.DesignatedOver; by_cost = contest_line.DesignatedByCost; by_id = contest_line.DesignatedById }

abbrev pub root_contest : ℕ → PortName → Contest
root_contest tree p = record { tree = tree; port = p; alone = contest_line.RootAlone; over = contest_line.RootOver; by_cost = contest_line.RootByCost; by_id = contest_line.RootById }

-- w over x, by the component that decides, in each of their vectors; and w alone
abbrev pub over_rows : Contest → Option PortName → Option PortName → Option (Field × Field) → List Row
over_rows c w x None = row_of (kind.Contest c.over) (number c.tree ∷ port c.port ∷ giver w ∷ giver x ∷ []) ∷ []
over_rows c w x (Some fields) =
    row_of (kind.Contest (if fields.0.is_cost then c.by_cost else c.by_id)) (number c.tree ∷ port c.port ∷ giver w ∷ giver x ∷ word fields.0.name ∷ fields.0.says ∷ fields.1.says ∷ []) ∷ []

abbrev pub alone_rows : Contest → Option PortName → List Row
alone_rows c w = row_of (kind.Contest c.alone) (number c.tree ∷ port c.port ∷ giver w ∷ []) ∷ []

-- that the role of the port is restricted
abbrev pub restricted_rows : ℕ → PortName → List Row
restricted_rows tree p = row_of (kind.Explain explain_line.Restricted) (number tree ∷ port p ∷ []) ∷ []

-- that it has received external information: its role in the CIST, and its LAN's designated port there
abbrev pub boundary_rows : ℕ → PortName → Role → PortName → List Row
boundary_rows tree p role q = row_of (kind.Explain explain_line.Boundary) (number tree ∷ port p ∷ word (role_text role) ∷ port q ∷ []) ∷ []

-- that its bridge is off, if it isn't on, and then that its LAN is down, if it isn't up
abbrev pub disabled_rows : ℕ → PortName → Bool → Bool → List ℕ → List Row
disabled_rows tree p is_on is_up lan =
    (if is_on then [] else row_of (kind.Explain explain_line.BridgeOff) (number tree ∷ port p ∷ word p.bridge ∷ []) ∷ [])
    ++ (if is_up then [] else row_of (kind.Explain explain_line.LanDown) (number tree ∷ port p ∷ word lan ∷ []) ∷ [])
