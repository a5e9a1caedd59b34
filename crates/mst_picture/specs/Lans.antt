-- Logical LANs in a picture.
use Rattle.std.specs.Prelude.{ℕ, ◌&&◌, Bool, true, false, List, [], ◌∷◌, ◌++◌, Option, Some, map, codes, decimal, if◌then◌else◌}
use Rattle.std.specs.List.{flat_map}
use Rattle.std.specs.Option.{option_map_or}
use Rattle.mst_tables.specs.Tables.{Net}
use Rattle.mst_view.specs.View.{LogicalPort, view_lans}
use Rattle.mst_roles.specs.forest.Outcome.{Outcome}
use Rattle.mst_roles.specs.Roles.{role_in, role_of, tree_of_vid, forwards}
use Rattle.mst_roles.specs.declared.kind.Role.{Role}
use Rattle.mst_roles.specs.declared.kind.Role.TheVariants.{Root, Designated, Alternate, Backup, Master, Disabled}
use Rattle.mst_summary.specs.Carries.{carries, ports_on}
use Rattle.mst_picture.specs.Pieces.{joined}
use Rattle.mst_picture.specs.declared.ends.Drawn.{Drawn}
use Rattle.mst_picture.specs.declared.ends.Drawn.TheVariants.{Tree, Vlan}
use Rattle.mst_picture.specs.declared.ends.End.{End}

-- ---- an end at a logical LAN: a logical port, with its role, which it hasn't where its bridge hasn't the tree, and whether it
-- is open
-- with a tree: it is open where it forwards
abbrev pub end_in_tree : Net → Outcome → ℕ → LogicalPort → End
end_in_tree net o tree p = record { port = p.name; role = role_of net o tree p.name; is_open = option_map_or forwards (role_of net o tree p.name) false }

-- with a VLAN: its role is that in its own bridge's tree of the VID, and it is open where it is active for the VID and a member
abbrev pub end_in_vlan : Net → Outcome → ℕ → LogicalPort → End
end_in_vlan net o vid p = record { port = p.name; role = role_in net o (tree_of_vid net p.name.bridge vid) p; is_open = carries net o vid p }

abbrev pub end_of : Net → Outcome → Drawn → LogicalPort → End
end_of net o (Tree tree) p = end_in_tree net o tree p
end_of net o (Vlan vid) p = end_in_vlan net o vid p

-- the ends at a logical LAN, by bridge and number
abbrev pub ends_on : Net → Outcome → Drawn → List ℕ → List End
ends_on net o drawn lan = map (end_of net o drawn) (ports_on net lan)

-- a role is told by its first letter
abbrev pub letter : Role → List ℕ
letter Root = codes " R"
letter Designated = codes " D"
letter Alternate = codes " A"
letter Backup = codes " B"
letter Master = codes " M"
letter Disabled = codes " X"

-- that of an end, and nothing where it has no role
abbrev pub role_letter : End → List ℕ
role_letter end = option_map_or letter end.role []

-- it is the designated one
abbrev pub designates : Option Role → Bool
designates (Some Designated) = true
designates other = false

-- its label: the number of its port and that letter
abbrev pub label : End → List ℕ
label end = decimal end.port.number ++ role_letter end

-- the end of a line's text: the line is dashed where an end of it isn't open
abbrev pub line_end : Bool → List ℕ
line_end is_open = if is_open then codes "\"];\n" else codes "\", style=dashed];\n"

-- ---- a LAN of two ends is a line between their bridges
-- `"B" -- "C" [label="LAN", taillabel="P ROLE", headlabel="Q ROLE"];`
abbrev pub link_line : List ℕ → End → End → List ℕ
link_line lan tail head =
    joined (codes "  \"" ∷ tail.port.bridge ∷ codes "\" -- \"" ∷ head.port.bridge ∷ codes "\" [label=\"" ∷ lan
    ∷ codes "\", taillabel=\"" ∷ label tail ∷ codes "\", headlabel=\"" ∷ label head ∷ line_end (tail.is_open && head.is_open) ∷ [])

-- the designated end comes first, so that the picture hangs from the root
abbrev pub link_text : List ℕ → End → End → List ℕ
link_text lan a b = if designates b.role then link_line lan b a else link_line lan a b

-- ---- any other is a box, with a line to the bridge of each end
-- its node, which has a name that no bridge can have: `"lan LAN" [shape=box, fontsize=10, height=0.3, label="LAN"];`
abbrev pub box_line : List ℕ → List ℕ
box_line lan = joined (codes "  \"lan " ∷ lan ∷ codes "\" [shape=box, fontsize=10, height=0.3, label=\"" ∷ lan ∷ codes "\"];\n" ∷ [])

-- the line down from the designated end, and the lines up to the others
abbrev pub down_line : List ℕ → End → List ℕ
down_line lan end =
    joined (codes "  \"" ∷ end.port.bridge ∷ codes "\" -- \"lan " ∷ lan ∷ codes "\" [taillabel=\"" ∷ label end ∷ line_end end.is_open ∷ [])

abbrev pub up_line : List ℕ → End → List ℕ
up_line lan end =
    joined (codes "  \"lan " ∷ lan ∷ codes "\" -- \"" ∷ end.port.bridge ∷ codes "\" [headlabel=\"" ∷ label end ∷ line_end end.is_open ∷ [])

abbrev pub end_line : List ℕ → End → List ℕ
end_line lan end = if designates end.role then down_line lan end else up_line lan end

abbrev pub box_text : List ℕ → List End → List ℕ
box_text lan ends = box_line lan ++ flat_map (end_line lan) ends

-- ---- by how many ends there are
abbrev pub lan_text : List ℕ → List End → List ℕ
lan_text lan [] = box_text lan []
lan_text lan (a ∷ []) = box_text lan (a ∷ [])
lan_text lan (a ∷ b ∷ []) = link_text lan a b
lan_text lan (a ∷ b ∷ c ∷ others) = box_text lan (a ∷ b ∷ c ∷ others)

-- all of them, by their names
abbrev pub lans_text : Net → Outcome → Drawn → List ℕ
lans_text net o drawn = flat_map (λ l. lan_text l.name (ends_on net o drawn l.name)) (view_lans net)
