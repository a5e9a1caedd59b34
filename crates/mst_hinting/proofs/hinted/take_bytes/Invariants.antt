use Rattle.std.proofs.Common.{◌+◌, ◌≤◌, take}
use Rattle.mst_hinting.specs.Kept.{IsKept, number_of}
use Rattle.mst_hinting.specs.Lines.{Before}
use Rattle.mst_hinting.specs.Hinted.{IsTold}
use Rattle.mst_hinting.proofs.hinted.take_bytes.Given as goal

abbrev pub invariant-loop-byte : goal.invariant-loop-byte
invariant-loop-byte l = record {
  told : (past : Before) → IsKept past l.fn.hints → IsTold past l.fn.held (take l.byte-index l.bytes) l.hints l.held l.fn.out.items l.out.items;
  few : number_of l.hints ≤ number_of l.fn.hints + l.byte-index;
}
