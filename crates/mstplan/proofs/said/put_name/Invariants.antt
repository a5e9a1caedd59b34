use Rattle.std.proofs.Common.{◌≡◌, length, take}
use Rattle.std.specs.List.{flat_map}
use Rattle.std.specs.Str.{chars}
use Rattle.std.specs.Io.KnownBytes.{Appends}
use Rattle.mst_io.specs.Devices.{Works}
use Rattle.mstplan.specs.Said.{shown_char}
use Rattle.mstplan.proofs.said.put_name.Given as goal

-- the characters before went out
abbrev pub invariant-loop-c : goal.invariant-loop-c
invariant-loop-c g l = record {
  written : Appends (g.K.Sink.contents l.fn.sink) (g.K.Sink.contents l.sink) (flat_map shown_char (take (length l.yielded) (chars l.name)));
  works : Works (g.K.Sink.told l.fn.sink) (g.K.Sink.told l.sink);
  lent : g.K.Sink.lent l.sink ≡ g.K.Sink.lent l.fn.sink;
}
