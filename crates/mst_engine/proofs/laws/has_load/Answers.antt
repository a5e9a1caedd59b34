use Rattle.mst_report.specs.State.{empty_state}
use Rattle.mst_lang.specs.Lines.{lines_of}
use Rattle.mst_engine.specs.Script.{version_of, loading}
use Rattle.mst_engine.proofs.OneRun.{Laws, as_loaded, empty_is, full_run}
use Rattle.mst_engine.proofs.laws.has_load.Goals as goal

pub returns-clause-script : goal.returns-clause-script
returns-clause-script c shape script =
    let laws : Laws = record {
      networks = c.networks.ensures.after;
      ranges = c.edits_in_range.ensures;
      entries = c.entries_of_network.ensures.some;
      one_rows = c.entries_of_network.ensures.one;
      marks = c.entries_of_network.ensures.mark;
    } in
    full_run laws shape loading as_loaded c.has_answer.ensures (version_of (lines_of script)) 1 empty_state (lines_of script) (empty_is c.networks.ensures.empty)

pub returns-clause-lines : goal.returns-clause-lines
returns-clause-lines c shape =
    let laws : Laws = record {
      networks = c.networks.ensures.after;
      ranges = c.edits_in_range.ensures;
      entries = c.entries_of_network.ensures.some;
      one_rows = c.entries_of_network.ensures.one;
      marks = c.entries_of_network.ensures.mark;
    } in
    full_run laws shape loading as_loaded c.has_answer.ensures
