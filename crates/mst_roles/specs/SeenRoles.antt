-- The roles of logical ports, under the numbers of records.
use Rattle.std.specs.Prelude.{ℕ, ◌==◌, Bool, false, Option, Some, None, if◌then◌else◌}
use Rattle.std.specs.List.{find}
use Rattle.std.specs.Option.{option_map, option_map_or}
use Rattle.mst_forest.specs.outcome.Assignment.{vector_of, designated_of}
use Rattle.mst_tables.specs.ByTree.{table_in}
use Rattle.mst_tables.specs.Seen.{bridge_row}
use Rattle.mst_tables.specs.Table.{tree_in}
use Rattle.mst_view.specs.Trees.{is_among}
use Rattle.mst_view.specs.Viewed.{Viewed, named_port}
use Rattle.mst_view.specs.declared.in_view.PortInView.{PortInView}
use Rattle.mst_forest.specs.Cist.{cist_port}
use Rattle.mst_forest.specs.Msti.{msti_port}
use Rattle.mst_forest.specs.Seen.{trees_at, seen_internal}
use Rattle.mst_forest.specs.Forest.{msti_vector, designated_in, Forest}
use Rattle.mst_roles.specs.Roles.{outside, forwards}
use Rattle.mst_roles.specs.declared.kind.Role.{Role}
use Rattle.mst_roles.specs.declared.kind.Role.TheVariants.{Root, Designated, Alternate, Backup, Disabled}

-- a port beside the designated port of its LAN, which is looked up by number
abbrev pub seen_beside : Viewed → PortInView → ℕ → Role
seen_beside v p designated =
    if designated == p.number then Designated else option_map_or (λ q. if q.bridge == p.bridge then Backup else Alternate) (find (λ q. designated == q.number) v.ports) Alternate

abbrev pub seen_role_by : Viewed → ℕ → Option ℕ → Option ℕ → PortInView → Role
seen_role_by v id receiver designated p = if option_map_or (λ r. r == id) receiver false then Root else option_map_or (seen_beside v p) designated Alternate

abbrev pub seen_cist_role : Viewed → Forest → PortInView → Role
seen_cist_role v f p =
    if p.is_enabled
    then seen_role_by v (cist_port v.settings (named_port p)).id (option_map (λ x. x.receiver) (vector_of f.cist p.bridge)) (designated_in f 0 p.lan_number) p
    else Disabled

abbrev pub seen_msti_role : Viewed → Forest → ℕ → PortInView → Role
seen_msti_role v f tree p =
    if p.is_enabled
    then (if seen_internal v f.regions (designated_of f.cist) p
    then seen_role_by v (msti_port v.settings tree (named_port p)).id (option_map (λ x. x.receiver) (msti_vector f tree p.bridge)) (designated_in f tree p.lan_number) p
    else outside (seen_cist_role v f p))
    else Disabled

abbrev pub seen_role : Viewed → Forest → ℕ → PortInView → Option Role
seen_role v f tree p = if tree == 0 then Some (seen_cist_role v f p) else (if is_among (trees_at v p.bridge) tree then Some (seen_msti_role v f tree p) else None)

-- the tree that the bridge of this number has a VID in
abbrev pub seen_tree : Viewed → ℕ → ℕ → ℕ
seen_tree v bridge vid = option_map_or (λ b. if (bridge_row b.bridge).is_rstp then 0 else tree_in (table_in v.settings.tables b.name) vid) (find (λ b. bridge == b.bridge.number) v.bridges) 0

-- a logical port forwards in its bridge's tree of the VID
abbrev pub seen_forwards : Viewed → Forest → ℕ → PortInView → Bool
seen_forwards v f vid p = option_map_or forwards (seen_role v f (seen_tree v p.bridge vid) p) false
