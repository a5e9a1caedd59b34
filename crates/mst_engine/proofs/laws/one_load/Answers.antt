use Rattle.mst_report.specs.State.{empty_state}
use Rattle.mst_lang.specs.Lines.{lines_of}
use Rattle.mst_engine.specs.Script.{Loads, version_of, loading}
use Rattle.mst_engine.proofs.OneRun.{Laws, as_loaded, empty_is, one_run}
use Rattle.mst_engine.proofs.Steps.{none_alike}
use Rattle.mst_engine.proofs.laws.one_load.Goals as goal

pub returns-clause-same : goal.returns-clause-same
returns-clause-same c shape lines a b =
    let laws : Laws = record {
      networks = c.networks.ensures.after;
      ranges = c.edits_in_range.ensures;
      entries = c.entries_of_network.ensures.some;
      one_rows = c.entries_of_network.ensures.one;
      marks = c.entries_of_network.ensures.mark;
    } in
    one_run laws shape loading as_loaded c.one_answer.ensures (version_of lines) 1 empty_state lines a b (empty_is c.networks.ensures.empty)

pub returns-clause-full : goal.returns-clause-full
returns-clause-full c shape script a b runs others given too =
    let laws : Laws = record {
      networks = c.networks.ensures.after;
      ranges = c.edits_in_range.ensures;
      entries = c.entries_of_network.ensures.some;
      one_rows = c.entries_of_network.ensures.one;
      marks = c.entries_of_network.ensures.mark;
    } in
    let lines = lines_of script in
    let does = Loads shape (version_of lines) in
    one_run laws shape loading as_loaded c.one_answer.ensures (version_of lines) 1 empty_state lines a b (empty_is c.networks.ensures.empty) runs others
    (none_alike does does 1 1 empty_state empty_state lines a b runs others given too)
