use Rattle.mst_view.specs.Places.{place_in}
use Rattle.mst_view.proofs.Placing.{Placed}
use Rattle.mst_view.proofs.listed.places.Given as goal

-- the elements before the next have their places
abbrev pub invariant-loop-place : goal.invariant-loop-place
invariant-loop-place g l = Placed g.T.Numbered.number l.items l.place (place_in l.places.items)
