use Rattle.std.proofs.Common.{[], sym, subst}
use Rattle.std.specs.List.{AllByRecursion}
use Rattle.mst_lang.specs.declared.line.Version.TheVariants.{V1}
use Rattle.mst_change.specs.Reading.{IsInRange}
use Rattle.mst_change.proofs.Lines.{lines_in_range, lines_of_steps}
use Rattle.mst_change.proofs.laws.edits_in_range.Goals as goal

pub returns : goal.returns
returns c = λ lines. subst (AllByRecursion IsInRange) (sym (lines_of_steps V1 1 [] lines)) (lines_in_range c.edits_in_range.ensures V1 1 lines)
