use Rattle.std.proofs.Common.{◌≡◌, ◌≤◌, ◌+◌, ◌*◌, length}
use Rattle.std.specs.Io.KnownBytes.{Consumes}
use Rattle.mst_drive.specs.Words.{HasTold, Unwritten}
use Rattle.mst_io.specs.Devices.{HearsWhere, Works, seen_by}
use Rattle.mst_ask.proofs.script.read_script.Given as goal

abbrev pub invariant-turns : goal.invariant-turns
invariant-turns g l = record {
  consumed : Consumes (g.S.Source.remaining l.fn.source) (g.S.Source.remaining l.source) l.bytes.items;
  reading : Works (g.S.Source.told l.fn.source) (g.S.Source.told l.source);
  calls : (g.S.Source.told l.source).calls ≡ (g.S.Source.told l.fn.source).calls + l.turn;
  heard : HearsWhere g.S.Source.hears (HasTold Unwritten g.S.Source.remaining (seen_by g.K.Sink.told g.K.Sink.contents g.K.Sink.lent l.fn.sink)) l.fn.source l.source;
  lent : g.S.Source.lent l.source ≡ g.S.Source.lent l.fn.source;
  few : length l.bytes.items ≤ 4096 * l.turn;
}
