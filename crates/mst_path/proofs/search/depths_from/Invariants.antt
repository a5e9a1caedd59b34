use Rattle.std.proofs.Common.{◌≡◌, ℕ, ◌<◌, ◌≤◌, ◌+◌, ◌-◌, length, get_or}
use Rattle.mst_path.specs.Places.{Touches, IsSearched, Reaches}
use Rattle.mst_path.proofs.search.depths_from.Given as goal

-- what the ports of the nodes so far lead to is reached
abbrev pub invariant-loop-next : goal.invariant-loop-next
invariant-loop-next l = record {
  searched : IsSearched l.bridges l.lans l.search.depths.items l.search.queue.items;
  as_long : length l.search.depths.items ≡ l.count;
  first : get_or l.search.queue.items 0 0 ≡ l.root;
  near : l.next < length l.search.queue.items → (x : ℕ) → get_or l.search.depths.items x 0 ≤ get_or l.search.depths.items (get_or l.search.queue.items l.next 0) 0 + 1;
  reaches : (i : ℕ) → i < l.next → (place : ℕ) → Touches l.bridges l.lans (get_or l.search.queue.items i 0) place → Reaches l.bridges l.lans l.search.depths.items (get_or l.search.queue.items i 0) place;
}

-- each node is in the queue once
abbrev pub decreases-loop-next : goal.decreases-loop-next
decreases-loop-next l = l.count - l.next
