use Rattle.mst_command.specs.Words.{asked_by, behind_name, without_dashes}
use Rattle.mstplan.proofs.Flagged.{refused_with}
use Rattle.mstplan.proofs.words.asked_for.Goals as goal

pub returns-in-Err-clause-refused : goal.returns-in-Err-clause-refused
returns-in-Err-clause-refused g c plain =
    let words = behind_name c.args.words.now in
    refused_with (g.S.Sources.is_there c.args.sources.now) words c.args.flags (asked_by (without_dashes words)) c.in-Err.stop (c.in-Err.ensures.refused plain)
