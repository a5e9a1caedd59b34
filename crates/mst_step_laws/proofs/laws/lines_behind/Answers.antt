use Rattle.std.proofs.Common.{ap, ◌∙◌}
use Rattle.mst_change.specs.Steps.{change_of}
use Rattle.mst_verdict.specs.Setting.{after_lines}
use Rattle.mst_step_laws.proofs.Courses.{lines_behind, steps_lines, steps_then}
use Rattle.mst_step_laws.proofs.laws.lines_behind.Goals as goal

pub returns-clause-between : goal.returns-clause-between
returns-clause-between c = steps_then

pub returns-clause-behind : goal.returns-clause-behind
returns-clause-behind c = lines_behind

pub returns-clause-all : goal.returns-clause-all
returns-clause-all c = λ net lines. steps_lines net (change_of lines) ∙ ap (after_lines net) (c.no_line_is_left.ensures lines)
