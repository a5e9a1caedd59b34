use Rattle.std.proofs.Common.{◌≡◌, take}
use Rattle.std.specs.List.{flat_map}
use Rattle.std.specs.Io.KnownBytes.{Appends}
use Rattle.mst_io.specs.Devices.{Works}
use Rattle.mstplan.specs.Said.{part_text}
use Rattle.mstplan.proofs.said.put_each.Given as goal

abbrev pub invariant-loop-part : goal.invariant-loop-part
invariant-loop-part g l = record {
  written : Appends (g.K.Sink.contents l.fn.sink) (g.K.Sink.contents l.sink) (flat_map part_text (take l.part-index l.parts));
  works : Works (g.K.Sink.told l.fn.sink) (g.K.Sink.told l.sink);
  lent : g.K.Sink.lent l.sink ≡ g.K.Sink.lent l.fn.sink;
}
