use Rattle.std.proofs.Common.{◌*◌, min, max}
use Rattle.mst_classes.proofs.Moving.{MovedBelow}
use Rattle.mst_classes.proofs.splitting.Splitting.split_members.Given as goal

-- the VIDs of the blocks so far have other numbers
abbrev pub invariant-loop-block : goal.invariant-loop-block
invariant-loop-block l = MovedBelow l.vids l.start l.fn.self.numbers.items l.self (min 4095 (max 1 (64 * l.block)))

-- and up to the next
abbrev pub invariant-loop-vid : goal.invariant-loop-vid
invariant-loop-vid l = MovedBelow l.vids l.start l.fn.self.numbers.items l.self l.vid
