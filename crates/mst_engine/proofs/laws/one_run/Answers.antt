use Rattle.mst_report.specs.State.{empty_state}
use Rattle.mst_lang.specs.Lines.{lines_of}
use Rattle.mst_engine.specs.Script.{Serves, version_of}
use Rattle.mst_print.specs.Shape.{of_script}
use Rattle.mst_engine.proofs.OneRun.{Laws, as_it_stands, empty_is, one_run}
use Rattle.mst_engine.proofs.Steps.{none_alike}
use Rattle.mst_engine.proofs.laws.one_run.Goals as goal

pub returns-clause-same : goal.returns-clause-same
returns-clause-same c form lines a b =
    let laws : Laws = record {
      networks = c.networks.ensures.after;
      ranges = c.edits_in_range.ensures;
      entries = c.entries_of_network.ensures.some;
      one_rows = c.entries_of_network.ensures.one;
      marks = c.entries_of_network.ensures.mark;
    } in
    one_run laws (of_script form) (λ r. r) as_it_stands c.one_answer.ensures (version_of lines) 1 empty_state lines a b (empty_is c.networks.ensures.empty)

pub returns-clause-full : goal.returns-clause-full
returns-clause-full c form script a b runs others given too =
    let laws : Laws = record {
      networks = c.networks.ensures.after;
      ranges = c.edits_in_range.ensures;
      entries = c.entries_of_network.ensures.some;
      one_rows = c.entries_of_network.ensures.one;
      marks = c.entries_of_network.ensures.mark;
    } in
    let lines = lines_of script in
    let does = Serves form (version_of lines) in
    one_run laws (of_script form) (λ r. r) as_it_stands c.one_answer.ensures (version_of lines) 1 empty_state lines a b (empty_is c.networks.ensures.empty) runs others
    (none_alike does does 1 1 empty_state empty_state lines a b runs others given too)
