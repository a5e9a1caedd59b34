use Rattle.mst_ask.proofs.Asked.{some_turns}
use Rattle.mst_ask.proofs.laws.has_turns.Goals as goal

pub returns : goal.returns
returns c form version number now lines is =
    some_turns (record { networks = c.networks.ensures.after; ranges = c.edits_in_range.ensures; entries = c.entries_of_network.ensures.some; one_rows = c.entries_of_network.ensures.one; marks = c.entries_of_network.ensures.mark }) form c.has_answer.ensures version number now lines is
