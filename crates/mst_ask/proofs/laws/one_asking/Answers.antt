use Rattle.mst_questions.proofs.WholeAsk.{OneOfEach}
use Rattle.mst_ask.proofs.Asked.{OneByPolicy, one_asked}
use Rattle.mst_ask.proofs.laws.one_asking.Goals as goal

pub returns : goal.returns
returns c form version number now lines a b is h k alike =
    let one : OneOfEach = record {
      explanation = c.one_explanation.ensures.one;
      sweep = c.sweep_parts.ensures.one;
      pairs = c.pair_parts.ensures.one;
      summary = c.one_summary.ensures.one;
      picture = c.one_picture.ensures.one;
      vlan_picture = c.one_vlan_picture.ensures.one;
      advice = c.one_advice.ensures;
    } in
    let judged : OneByPolicy = record { promises = c.one_verification.ensures.one; risks = c.one_of_risks.ensures.one } in
    one_asked (record { networks = c.networks.ensures.after; ranges = c.edits_in_range.ensures; entries = c.entries_of_network.ensures.some; one_rows = c.entries_of_network.ensures.one; marks = c.entries_of_network.ensures.mark }) form
    c.one_answer.ensures one judged c.one_trace.ensures.one version number now lines a b is h k alike
