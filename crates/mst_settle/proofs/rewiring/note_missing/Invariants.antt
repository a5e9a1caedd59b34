use Rattle.std.proofs.Common.{ℕ, take}
use Rattle.std.specs.List.{All, Contains}
use Rattle.mst_settle.proofs.Noted.{IsNoted}
use Rattle.mst_settle.proofs.rewiring.note_missing.Given as goal

abbrev pub invariant-loop-port : goal.invariant-loop-port
invariant-loop-port g l = record {
  kept : (n : ℕ) → Contains l.fn.numbers.items n → Contains l.numbers.items n;
  noted : All (IsNoted l.there l.numbers.items) (take l.port-index l.here);
}
