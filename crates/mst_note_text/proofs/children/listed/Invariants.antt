use Rattle.std.proofs.Common.{◌≡◌, map}
use Rattle.std.specs.List.{range_with_len}
use Rattle.mst_note_text.specs.SeenTree.{child_at}
use Rattle.mst_note_text.proofs.children.listed.Given as goal

-- the bridges so far
abbrev pub invariant-loop-place : goal.invariant-loop-place
invariant-loop-place l = l.children.items ≡ map (child_at l.members l.parents l.depths) (range_with_len 0 l.place)
