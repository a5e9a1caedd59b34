use Rattle.std.proofs.Common.{◌<◌, ◌+◌, ◌^◌, List, length}
use Rattle.mst_questions.specs.tool.engine.Engine.{tally_of}
use Rattle.mst_questions.specs.tool.engine.Steps.{Step}
use Rattle.mst_lang.specs.Lines.{lines_of}
use Rattle.mst_questions.specs.tool.engine.print.Shape.{of_script}
use Rattle.mst_ask.proofs.Loading.{Loading}
use Rattle.mst_ask.proofs.standing.load_again.Given as goal

abbrev pub invariant-loop-line : goal.invariant-loop-line
invariant-loop-line l = record {
  done : List Step;
  loading : Loading (of_script l.fn.form) (lines_of l.fn.script) (lines_of l.left) (tally_of l.engine) done;
  few : l.engine.number + length l.left < 2 ^ 60;
}

abbrev pub decreases-loop-line : goal.decreases-loop-line
decreases-loop-line l = length l.left
