use Rattle.mst_questions.specs.tool.engine.print.Shape.{of_script}
use Rattle.mst_ask.proofs.Asked.{left_kept}
use Rattle.mst_ask.proofs.laws.standings.Goals as goal

pub returns-clause-loaded : goal.returns-clause-loaded
returns-clause-loaded c form lines loads policy loaded = record { state = c.states.ensures.network (of_script form) lines loads loaded; made = tt }

pub returns-clause-asked : goal.returns-clause-asked
returns-clause-asked c form version number now lines turns is asks =
    left_kept (record { networks = c.networks.ensures.after; ranges = c.edits_in_range.ensures; entries = c.entries_of_network.ensures.some; one_rows = c.entries_of_network.ensures.one; marks = c.entries_of_network.ensures.mark }) form version number now lines turns is asks
