use Rattle.std.proofs.Common.{◌≡◌, ℕ, ◌+◌, List, [], length, ◌≤◌, ◌*◌}
use Rattle.std.specs.Io.KnownBytes.{Appends, Consumes}
use Rattle.mst_io.specs.Devices.{HearsWhere, Works, seen_by}
use Rattle.mst_drive.specs.Driving.{DrivenOn}
use Rattle.mst_drive.specs.Feeding.{Feeds}
use Rattle.mst_drive.proofs.driving.drive_lines.Given as goal

abbrev pub invariant-turns : goal.invariant-turns
invariant-turns g l = record {
  awaits : g.J.Job.awaits l.job l.number;
  read : List ℕ;
  text : List ℕ;
  consumed : Consumes (g.S.Source.remaining l.fn.source) (g.S.Source.remaining l.source) read;
  feeds : Feeds g.J.Job.tells l.fn.job 1 [] read text l.job l.number l.held;
  reading : Works (g.S.Source.told l.fn.source) (g.S.Source.told l.source);
  calls : (g.S.Source.told l.source).calls ≡ (g.S.Source.told l.fn.source).calls + l.turn;
  works : Works (g.K.Sink.told l.fn.sink) (g.K.Sink.told l.sink);
  heard : HearsWhere g.S.Source.hears (DrivenOn g.J.Job.tells l.fn.job (g.S.Source.remaining l.fn.source) g.S.Source.remaining (seen_by g.K.Sink.told g.K.Sink.contents g.K.Sink.lent l.fn.sink)) l.fn.source l.source;
  lent_source : g.S.Source.lent l.source ≡ g.S.Source.lent l.fn.source;
  lent_sink : g.K.Sink.lent l.sink ≡ g.K.Sink.lent l.fn.sink;
  written : Appends (g.K.Sink.contents l.fn.sink) (g.K.Sink.contents l.sink) text;
  few : length read ≤ 4096 * l.turn;
}
