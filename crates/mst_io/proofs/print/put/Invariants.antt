use Rattle.std.proofs.Common.{◌≡◌, ℕ, List, ◌++◌, length}
use Rattle.std.specs.Io.KnownBytes.{Appends}
use Rattle.mst_io.specs.Devices.{Works}
use Rattle.mst_io.proofs.print.put.Given as goal

-- a front went out, and the rest is to go
abbrev pub invariant-loop-rest : goal.invariant-loop-rest
invariant-loop-rest g l = record {
  front : List ℕ;
  whole : l.bytes ≡ front ++ l.rest;
  written : Appends (g.K.Sink.contents l.fn.sink) (g.K.Sink.contents l.sink) front;
  works : Works (g.K.Sink.told l.fn.sink) (g.K.Sink.told l.sink);
  lent : g.K.Sink.lent l.sink ≡ g.K.Sink.lent l.fn.sink;
}

abbrev pub decreases-loop-rest : goal.decreases-loop-rest
decreases-loop-rest g l = length l.rest
