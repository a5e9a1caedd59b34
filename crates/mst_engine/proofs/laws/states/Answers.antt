use Rattle.mst_report.specs.State.{empty_state}
use Rattle.mst_engine.specs.Script.{version_of, loading}
use Rattle.mst_print.specs.Shape.{of_script}
use Rattle.mst_engine.proofs.OneRun.{Laws, as_it_stands, as_loaded, empty_is, state_left}
use Rattle.mst_engine.proofs.laws.states.Goals as goal

pub returns-clause-script : goal.returns-clause-script
returns-clause-script c form lines steps =
    let laws : Laws = record {
      networks = c.networks.ensures.after;
      ranges = c.edits_in_range.ensures;
      entries = c.entries_of_network.ensures.some;
      one_rows = c.entries_of_network.ensures.one;
      marks = c.entries_of_network.ensures.mark;
    } in
    state_left laws (of_script form) (λ r. r) as_it_stands (version_of lines) 1 empty_state lines steps (empty_is c.networks.ensures.empty)

pub returns-clause-network : goal.returns-clause-network
returns-clause-network c shape lines steps =
    let laws : Laws = record {
      networks = c.networks.ensures.after;
      ranges = c.edits_in_range.ensures;
      entries = c.entries_of_network.ensures.some;
      one_rows = c.entries_of_network.ensures.one;
      marks = c.entries_of_network.ensures.mark;
    } in
    state_left laws shape loading as_loaded (version_of lines) 1 empty_state lines steps (empty_is c.networks.ensures.empty)
