use Rattle.mst_report.specs.State.{empty_state}
use Rattle.mst_lang.specs.Lines.{lines_of}
use Rattle.mst_engine.specs.Script.{version_of}
use Rattle.mst_print.specs.Shape.{of_script}
use Rattle.mst_engine.proofs.OneRun.{Laws, as_it_stands, empty_is, full_run}
use Rattle.mst_engine.proofs.laws.has_run.Goals as goal

pub returns-clause-script : goal.returns-clause-script
returns-clause-script c form script =
    let laws : Laws = record {
      networks = c.networks.ensures.after;
      ranges = c.edits_in_range.ensures;
      entries = c.entries_of_network.ensures.some;
      one_rows = c.entries_of_network.ensures.one;
      marks = c.entries_of_network.ensures.mark;
    } in
    full_run laws (of_script form) (λ r. r) as_it_stands c.has_answer.ensures (version_of (lines_of script)) 1 empty_state (lines_of script) (empty_is c.networks.ensures.empty)

pub returns-clause-lines : goal.returns-clause-lines
returns-clause-lines c form =
    let laws : Laws = record {
      networks = c.networks.ensures.after;
      ranges = c.edits_in_range.ensures;
      entries = c.entries_of_network.ensures.some;
      one_rows = c.entries_of_network.ensures.one;
      marks = c.entries_of_network.ensures.mark;
    } in
    full_run laws (of_script form) (λ r. r) as_it_stands c.has_answer.ensures
