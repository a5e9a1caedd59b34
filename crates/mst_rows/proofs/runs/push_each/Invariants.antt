use Rattle.std.proofs.Common.{◌≡◌, ◌-◌, ◌≤◌, ◌++◌, drop, map, false}
use Rattle.mst_ids.specs.Vids.{runs_from}
use Rattle.mst_rows.specs.Answers.{joined, run_json}
use Rattle.mst_rows.proofs.runs.push_each.Given as goal

abbrev pub invariant-loop-first : goal.invariant-loop-first
invariant-loop-first l = record {
  within : l.next ≤ 4095;
  whole : l.out.items ++ joined l.follows (map run_json (runs_from l.next (drop l.next l.vids))) ≡ l.fn.out.items ++ joined false (map run_json (runs_from 0 l.vids));
}

abbrev pub decreases-loop-first : goal.decreases-loop-first
decreases-loop-first l = 4096 - l.next
