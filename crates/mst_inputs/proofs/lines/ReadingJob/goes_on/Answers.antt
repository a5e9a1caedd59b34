use Rattle.mst_inputs.proofs.LinesTaken.{takes_none, takes_some}
use Rattle.mst_inputs.proofs.lines.ReadingJob.goes_on.Goals as goal

pub returns-clause-nothing : goal.returns-clause-nothing
returns-clause-nothing g c = takes_none g.L.TakesLines.with_lines c.args.self.now c.args._number

pub returns-clause-some : goal.returns-clause-some
returns-clause-some g c = takes_some g.L.TakesLines.with_lines c.args.self.now c.args._number
