use Rattle.std.proofs.Common.{[]}
use Rattle.mst_lang.specs.declared.line.Version.TheVariants.{V1}
use Rattle.mst_change.proofs.Lines.{lines_of_steps}
use Rattle.mst_change.proofs.laws.no_line_is_left.Goals as goal

pub returns : goal.returns
returns c = λ lines. lines_of_steps V1 1 [] lines
