use Rattle.std.proofs.Common.{ℕ, ◌<◌, get_or}
use Rattle.mst_sweep.specs.Touched.{BreaksNoLink}
use Rattle.mst_sweep.proofs.links.breaks_no_link.Given as goal

-- none of the ports so far
abbrev pub invariant-loop-place : goal.invariant-loop-place
invariant-loop-place l = (k : ℕ) → k < l.place-index → BreaksNoLink l.old.view.now l.old.forest.now l.new.view.now l.new.forest.now l.vid (get_or l.places k 0)
