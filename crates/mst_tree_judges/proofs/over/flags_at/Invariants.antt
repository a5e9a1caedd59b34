use Rattle.std.proofs.Common.{◌≡◌, ◌+◌, length, take}
use Rattle.std.specs.List.{AllZip}
use Rattle.mst_judged.specs.reasons.Over.{is_wrong}
use Rattle.mst_judged.specs.reasons.summary.Seen.{seen_over}
use Rattle.mst_tree_judges.proofs.over.flags_at.Given as goal

-- the flags of the places so far
abbrev pub invariant-loop-place : goal.invariant-loop-place
invariant-loop-place l = record {
  as_long : length l.flags.items ≡ l.place-index;
  flags : AllZip (λ place flag. flag ≡ is_wrong l.is_wanted (seen_over l.plan.view l.plan.forest l.ports (place + 1))) (take l.place-index l.places) l.flags.items;
}
