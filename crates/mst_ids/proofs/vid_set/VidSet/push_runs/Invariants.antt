use Rattle.std.proofs.Common.{◌≡◌, ◌-◌, ◌≤◌, ◌++◌, length, take, drop}
use Rattle.mst_ids.specs.Vids.{runs_from, vids_text}
use Rattle.mst_ids.proofs.VidTextLemmas.{further_text}
use Rattle.mst_ids.proofs.vid_set.VidSet.push_runs.Given as goal

-- what is written, and the text of the further runs, is the whole
abbrev pub invariant-loop-first : goal.invariant-loop-first
invariant-loop-first l = record {
  within : l.next ≤ 4095;
  kept : take (length l.fn.out.items) l.out.items ≡ l.fn.out.items;
  whole : l.out.items ++ further_text (runs_from l.next (drop l.next l.self)) ≡ l.fn.out.items ++ vids_text l.self;
}

abbrev pub decreases-loop-first : goal.decreases-loop-first
decreases-loop-first l = 4096 - l.next
