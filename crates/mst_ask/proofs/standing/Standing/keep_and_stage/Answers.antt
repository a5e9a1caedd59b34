use Rattle.mst_ask.proofs.Changes.{edit_kept}
use Rattle.mst_ask.proofs.standing.Standing.keep_and_stage.Goals as goal

pub returns-in-Ok-stage-clause-kept : goal.returns-in-Ok-stage-clause-kept
returns-in-Ok-stage-clause-kept c =
    edit_kept c.args.self.now c.stage.new.self c.keep.new.made c.requires.kept c.args.line.now c.args.edit.now c.in-Ok.ensures.ok c.requires.says c.in-Ok-stage.ensures.ok.net
