use Rattle.std.proofs.Common.{◌≡◌, ◌++◌, map, take}
use Rattle.mst_picture.specs.Pieces.{joined}
use Rattle.mst_picture.proofs.pieces.push_pieces.Given as goal

-- the pieces so far
abbrev pub invariant-loop-piece : goal.invariant-loop-piece
invariant-loop-piece l = l.out.items ≡ l.fn.out.items ++ joined (map (λ piece. piece.now) (take l.piece-index l.pieces))
