-- What is told of groups of VIDs by the parts of their classes.
use Rattle.std.specs.Prelude.{ℕ, Bool, List, [], ◌∷◌, if◌then◌else◌}
use Rattle.mst_ids.specs.Vids.{set_where}
use Rattle.mst_view.specs.Trees.{is_among}
use Rattle.mst_graph.specs.Lists.{has_any}
use Rattle.mst_judged.specs.reasons.Reasons.{Parts, has_two}
use Rattle.mst_island_judges.specs.declared.grouping.Telling.{Telling}
use Rattle.mst_island_judges.specs.declared.grouping.Telling.TheVariants as telling
use Rattle.mst_judged.specs.reasons.declared.reason.Reason.{Reason}
use Rattle.mst_judged.specs.reasons.declared.reason.Reason.TheVariants as why

-- parts are told: of bridges that are to reach each other two, and else one
abbrev pub tells_of : Telling → Parts → Bool
tells_of telling.Reach parts = has_two parts
tells_of telling.Apart parts = has_any parts
tells_of telling.Leaves parts = has_any parts
tells_of telling.Together parts = has_any parts

-- the reason of VIDs that have these parts
abbrev pub reason_of : Telling → List Bool → Parts → Reason
reason_of telling.Reach vids parts = why.Reach vids parts
reason_of telling.Apart vids parts = why.Apart vids parts
reason_of telling.Leaves vids parts = why.Leaves vids parts
reason_of telling.Together vids parts = why.Together vids parts

abbrev pub tells : Telling → List ℕ → Parts → List Reason
tells t vids parts = if tells_of t parts then reason_of t (set_where (is_among vids)) parts ∷ [] else []
