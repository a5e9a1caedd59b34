use Rattle.std.proofs.Common.{◌≡◌, ◌<◌, ◌≤◌, ◌+◌, ◌^◌, List, length}
use Rattle.std.specs.Io.KnownBytes.{Appends}
use Rattle.mst_io.specs.Devices.{Works}
use Rattle.mst_questions.specs.tool.engine.Engine.{tally_of}
use Rattle.mst_questions.specs.tool.engine.Steps.{Step, texts_of}
use Rattle.mst_questions.specs.tool.engine.print.Shape.{of_script}
use Rattle.mst_ask.specs.Lines.{lines_in}
use Rattle.mst_ask.proofs.Loading.{Loading}
use Rattle.mst_ask.proofs.standing.load.Given as goal

abbrev pub invariant-loop-line : goal.invariant-loop-line
invariant-loop-line g l = record {
  done : List Step;
  loading : Loading (of_script l.fn.form) (lines_in l.script.is_whole l.script.bytes.items) (lines_in l.script.is_whole l.left) (tally_of l.engine) done;
  shorter : length l.left ≤ length l.script.bytes.items;
  few : l.engine.number + length l.left < 2 ^ 60;
  written : Appends (g.K.Sink.contents l.fn.sink) (g.K.Sink.contents l.sink) (texts_of done);
  works : Works (g.K.Sink.told l.fn.sink) (g.K.Sink.told l.sink);
  lent : g.K.Sink.lent l.sink ≡ g.K.Sink.lent l.fn.sink;
}

abbrev pub decreases-loop-line : goal.decreases-loop-line
decreases-loop-line g l = length l.left
