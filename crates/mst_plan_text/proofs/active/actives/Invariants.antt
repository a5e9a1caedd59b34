use Rattle.std.proofs.Common.{◌≡◌, ◌+◌, length, map, take}
use Rattle.mst_vlan.specs.forest.Settled.{outcome_of}
use Rattle.mst_plan_text.specs.Bodies.{pairs_of}
use Rattle.mst_plan_text.proofs.active.actives.Given as goal

-- those so far
abbrev pub invariant-loop-place : goal.invariant-loop-place
invariant-loop-place l = record {
  as_long : length l.actives.items ≡ l.place-index;
  ports : map (λ active. active.items) l.actives.items ≡ map (λ place. pairs_of l.plan.net (outcome_of l.plan) (place + 1)) (take l.place-index l.places);
}
