use Rattle.std.proofs.Common.{◌≡◌, ℕ, ◌<◌, get_or}
use Rattle.mst_vlan.specs.roles.SeenRoles.{seen_role}
use Rattle.mst_sweep.proofs.touched.has_any_other.Given as goal

-- the port has the roles that it had in the MSTIs so far
abbrev pub invariant-loop-tree : goal.invariant-loop-tree
invariant-loop-tree l =
    (k : ℕ) → k < l.tree-index → seen_role l.old.view.now l.old.forest.now (get_or l.mstis k 0) l.before ≡ seen_role l.new.view.now l.new.forest.now (get_or l.mstis k 0) l.afterwards
