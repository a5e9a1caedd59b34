use Rattle.std.proofs.Common.{◌≡◌, ℕ, false, true, get_or, length}
use Rattle.mst_vlan.specs.forest.InUse.{seen_mstis}
use Rattle.mst_sweep.specs.Touched.{KeepsRoles}
use Rattle.mst_sweep.proofs.touched.touched.Given as goal

-- the ports so far have their flags
abbrev pub invariant-loop-place : goal.invariant-loop-place
invariant-loop-place l = record {
  as_long : length l.touched.items ≡ l.place;
  touched : (k : ℕ) → get_or l.touched.items k true ≡ false → KeepsRoles l.old.view.now l.old.forest.now l.new.view.now l.new.forest.now (seen_mstis l.old.view.now) k;
}
