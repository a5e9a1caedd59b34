-- The two bridges of a path: whether they are there, and whether they fail.
use Rattle.std.specs.Prelude.{Bool, false, ◌&&◌, ◌||◌, Option, None, Some, if◌then◌else◌}
use Rattle.mst_net.specs.tables.After.{has_bridge}
use Rattle.mst_net.specs.tables.Tables.{Net}
use Rattle.mst_net.specs.tables.declared.refusal.Refusal.{Refusal}
use Rattle.mst_net.specs.tables.declared.refusal.Refusal.TheVariants.{E04}
use Rattle.mst_path.specs.declared.trace.Trace.{Trace}
use Rattle.mst_sweeping.specs.sweep.declared.failure.Failure.{Failure}
use Rattle.mst_sweeping.specs.sweep.declared.failure.Failure.TheVariants.{Lan, Bridge}
use Rattle.mst_view.specs.Aggregation.{same_name}

-- why a path can't be asked for: there is no bridge of one of the two names
abbrev pub untraced_of : Net → Trace → Option Refusal
untraced_of net t = if has_bridge t.from net && has_bridge t.to net then None else Some E04

-- one of the two bridges fails
abbrev pub is_of_end : Trace → Failure → Bool
is_of_end t (Lan lan) = false
is_of_end t (Bridge bridge) = same_name t.from bridge || same_name t.to bridge
