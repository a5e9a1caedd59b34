use Rattle.std.proofs.Common.{take, length}
use Rattle.mst_note_text.specs.Parents.{AreGiven}
use Rattle.mst_note_text.specs.SeenTree.{given}
use Rattle.mst_note_text.proofs.parents.parents_of.Given as goal

-- what the ports so far give
abbrev pub invariant-loop-port : goal.invariant-loop-port
invariant-loop-port l = AreGiven (given l.view l.forest l.tree l.places.entries) l.port-items (take l.port-index l.port-items) (length l.members) l.parents.items
