use Rattle.mst_report.specs.State.{empty_state}
use Rattle.mst_engine.specs.Script.{version_of}
use Rattle.mst_engine.specs.Steps.{left_by}
use Rattle.mst_print.specs.Shape.{of_script}
use Rattle.mst_engine.proofs.OneRun.{Laws, as_it_stands, empty_is, state_left, one_reply}
use Rattle.mst_engine.proofs.laws.network_alone.Goals as goal

pub returns : goal.returns
returns c form x y a b run other same q m n s t =
    let laws : Laws = record {
      networks = c.networks.ensures.after;
      ranges = c.edits_in_range.ensures;
      entries = c.entries_of_network.ensures.some;
      one_rows = c.entries_of_network.ensures.one;
      marks = c.entries_of_network.ensures.mark;
    } in
    let is = state_left laws (of_script form) (λ r. r) as_it_stands (version_of x) 1 empty_state x a (empty_is c.networks.ensures.empty) run in
    one_reply laws (of_script form) (λ r. r) as_it_stands c.one_answer.ensures m n (left_by empty_state a) (left_by empty_state b) q s t is same
