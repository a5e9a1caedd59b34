use Rattle.std.proofs.Common.{◌≡◌, ℕ, take}
use Rattle.mst_text.specs.Members.{kept_for, names_in}
use Rattle.mst_text.proofs.members.members_of.Given as goal

-- the names of the bridges before the next
abbrev pub invariant-loop-bridge : goal.invariant-loop-bridge
invariant-loop-bridge l = (region : ℕ) → kept_for l.members region ≡ names_in l.regions region (take l.bridge-index l.bridges)
