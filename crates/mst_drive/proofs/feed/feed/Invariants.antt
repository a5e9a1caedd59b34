use Rattle.std.proofs.Common.{◌≡◌, List, ℕ, take}
use Rattle.std.specs.Io.KnownBytes.{Appends}
use Rattle.mst_io.specs.Devices.{Works}
use Rattle.mst_drive.specs.Feeding.{Feeds}
use Rattle.mst_drive.proofs.feed.feed.Given as goal

abbrev pub invariant-loop-byte : goal.invariant-loop-byte
invariant-loop-byte g l = record {
  awaits : g.J.Job.awaits l.job l.number;
  text : List ℕ;
  feeds : Feeds g.J.Job.tells l.fn.job l.fn.number l.fn.held (take l.byte-index l.bytes) text l.job l.number l.held;
  written : Appends (g.K.Sink.contents l.fn.sink) (g.K.Sink.contents l.sink) text;
  works : Works (g.K.Sink.told l.fn.sink) (g.K.Sink.told l.sink);
  lent : g.K.Sink.lent l.sink ≡ g.K.Sink.lent l.fn.sink;
}
