use Rattle.mst_path.proofs.Searched.{IsVisited}
use Rattle.mst_path.proofs.search.Search.visit.Given as goal

-- what the ports so far lead to is reached
abbrev pub invariant-loop-place : goal.invariant-loop-place
invariant-loop-place l = IsVisited l.bridges l.lans l.places l.fn.self.depths.items l.fn.self.queue.items l.place-index l.at l.self.depths.items l.self.queue.items
