use Rattle.std.proofs.Common.{rules}
use Rattle.mst_io.proofs.Chains.{Hears-plain}
use Rattle.mst_drive.specs.Words.{Ended, inputs}
use Rattle.mst_frame.proofs.Moved.{moved_both}
use Rattle.mst_frame.proofs.framed.serve_to.Goals as goal

pub returns-clause-ended : goal.returns-clause-ended
returns-clause-ended g c =
    let given = inputs (g.F.Source.remaining c.args.first.now) (g.S.Source.remaining c.args.second.now) (g.T.Source.remaining c.args.third.now) in
    let left = inputs (g.F.Source.remaining c.serve.new.first) (g.S.Source.remaining c.serve.new.second) (g.T.Source.remaining c.serve.new.third) in
    moved_both (λ old new. Ended (g.W.Word.telling c.args.word.now) given left old (g.O.Write.contents new) c.serve.result) c.new-sink.ensures.bytes (search rules) c.serve.ensures.ended

pub returns-clause-heard_first : goal.returns-clause-heard_first
returns-clause-heard_first g c = Hears-plain g.F.Source.hears _ c.args.first.now c.serve.new.first c.serve.ensures.heard_first

pub returns-clause-heard_second : goal.returns-clause-heard_second
returns-clause-heard_second g c = Hears-plain g.S.Source.hears _ c.args.second.now c.serve.new.second c.serve.ensures.heard_second

pub returns-clause-heard_third : goal.returns-clause-heard_third
returns-clause-heard_third g c = Hears-plain g.T.Source.hears _ c.args.third.now c.serve.new.third c.serve.ensures.heard_third
