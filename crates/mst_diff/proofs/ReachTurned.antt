-- The change back has rows of the same groups of VIDs with their sides changed over.
use Rattle.std.proofs.Common.{◌≡◌, ℕ, ◌∷◌, [], Bool, true, false, List, refl, sym, ap, ◌∙◌, true≢false}
use Rattle.std.specs.Prelude.{if◌then◌else◌}
use Rattle.std.specs.List.{Contains, flat_map}
use Rattle.mst_ids.specs.Vids.{runs_from, set_where}
use Rattle.mst_kinds.specs.declared.change_line.ChangeLine.TheVariants as change_line
use Rattle.mst_kinds.specs.declared.kind.Kind.TheVariants as kind
use Rattle.mst_graph.specs.Groups.{AreGroups}
use Rattle.mst_graph.proofs.Alike.{alike_groups}
use Rattle.mst_graph.proofs.Members.{here, there, in_whole}
use Rattle.mst_tables.specs.Tables.{Net}
use Rattle.mst_view.specs.Trees.{is_among}
use Rattle.mst_vlan.specs.forest.Outcome.{Outcome}
use Rattle.mst_vlan.specs.classes.AllVids.{all_vids}
use Rattle.mst_vlan.proofs.classes_lemmas.VidPlaces.{vids_once, is_vid_there, OneGrouping}
use Rattle.mst_rows.specs.Cells as cells
use Rattle.mst_rows.specs.Rows.{Row}
use Rattle.mst_diff.specs.Reach.{Sides, differ, reach_row, reach_unless, group_rows, AreReachRows}
use Rattle.mst_diff.specs.Turned.{AreTurned, turned_sides}
use Rattle.mst_vlan.proofs.OneList.{OneList}
use Rattle.mst_diff.proofs.SameSides.{same_sides, sides_decide}
use Rattle.mst_diff.proofs.Turned.{any_turned, nothing_turned, turned_append, sides_turned}

-- a row, if there is one
row_turned : (group : List ℕ) (s r : Sides) → r ≡ turned_sides s → AreTurned (reach_unless group s) (reach_unless group r)
row_turned group s r e = go (differ s) (differ r) (sym (any_turned s) ∙ sym (ap differ e))
  where
    runs : List (ℕ × ℕ)
    runs = runs_from 0 (set_where (is_among group))

    go : (b c : Bool) → b ≡ c → AreTurned (if b then reach_row runs s ∷ [] else []) (if c then reach_row runs r ∷ [] else [])
    go true true k = (record { kind = kind.Change change_line.Reach; head = cells.vids runs ∷ []; old = cells.groups s.old; new = cells.groups s.new } ∷ [], refl, ap (λ t. reach_row runs t ∷ []) e)
    go false false k = nothing_turned
    go true false k = absurd (true≢false k)
    go false true k = absurd (true≢false (sym k))

-- ---- the groups
module _ (a b : Net) (o p : Outcome) (one : OneList) (grouping : OneGrouping) (rows others : List Row) (c d : ℕ) (x : AreReachRows a o b p rows c) (y : AreReachRows b p a o others d) where
  back : (vid : ℕ) → Contains all_vids vid → y.sides vid ≡ turned_sides (x.sides vid)
  back vid h = let v = is_vid_there vid h in sides_turned a b o p one vid (x.sides vid) (y.sides vid) (x.are_sides vid v) (y.are_sides vid v)

  abbrev same : ℕ → ℕ → Bool
  same i j = same_sides (x.sides i) (x.sides j)

  first : AreGroups (λ i j. same i j ≡ true) all_vids x.groups
  first =
      alike_groups (λ i j. x.sides i ≡ x.sides j) (λ i j. same i j ≡ true) all_vids x.groups
      (λ i j _ _. ((sides_decide (x.sides i) (x.sides j)).1, (sides_decide (x.sides i) (x.sides j)).0)) x.are_groups

  second : AreGroups (λ i j. same i j ≡ true) all_vids y.groups
  second =
      alike_groups (λ i j. y.sides i ≡ y.sides j) (λ i j. same i j ≡ true) all_vids y.groups
      (λ i j h k. (
        λ e. (sides_decide (x.sides i) (x.sides j)).1 (ap turned_sides (sym (back i h) ∙ e ∙ back j k)),
        λ e. back i h ∙ ap turned_sides ((sides_decide (x.sides i) (x.sides j)).0 e) ∙ sym (back j k),
      )) y.are_groups

  groups_same : x.groups ≡ y.groups
  groups_same = grouping same all_vids x.groups y.groups vids_once first second

  group_turned : (group : List ℕ) → Contains x.groups group → AreTurned (group_rows x.sides group) (group_rows y.sides group)
  group_turned [] h = nothing_turned
  group_turned (vid ∷ vids) h = row_turned (vid ∷ vids) (x.sides vid) (y.sides vid) (back vid (in_whole (x.are_groups.in_order (vid ∷ vids) h) vid (here vid vids)))

  each_turned : (groups : List (List ℕ)) → ((group : List ℕ) → Contains groups group → Contains x.groups group) → AreTurned (flat_map (group_rows x.sides) groups) (flat_map (group_rows y.sides) groups)
  each_turned [] h = nothing_turned
  each_turned (group ∷ groups) h =
      turned_append (group_rows x.sides group) (group_rows y.sides group) (flat_map (group_rows x.sides) groups) (flat_map (group_rows y.sides) groups)
      (group_turned group (h group (here group groups))) (each_turned groups (λ other k. h other (there group other groups k)))

  pub reach_turned : AreTurned rows others
  reach_turned =
      let sided = each_turned x.groups (λ group h. h) in
      (sided.0, x.is ∙ sided.1, y.is ∙ ap (flat_map (group_rows y.sides)) (sym groups_same) ∙ sided.2)
