use Rattle.std.proofs.Common.{◌≡◌, length, drop}
use Rattle.mst_ids.specs.Vids.{set_where, has, items_of, vids_value}
use Rattle.mst_ids.proofs.VidListLemmas.{with_items}
use Rattle.mst_ids.proofs.vid_list.parse_vids.Given as goal

-- what the further items name, added to the set so far, is the whole
abbrev pub invariant-loop-item : goal.invariant-loop-item
invariant-loop-item l = record {
  kept : set_where (has l.vids) ≡ l.vids;
  whole : with_items l.vids (drop (length l.yielded) (items_of l.text)) ≡ vids_value l.text;
}
