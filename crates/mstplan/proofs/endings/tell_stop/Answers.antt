use Rattle.std.proofs.Common.{sym, ap, subst}
use Rattle.mst_io.specs.Devices.{seen_by}
use Rattle.mstplan.specs.Endings.{line_of}
use Rattle.mstplan.specs.Said.{IsSaid}
use Rattle.mstplan.proofs.endings.tell_stop.Goals as goal

pub returns-in-NoWord : goal.returns-in-NoWord
returns-in-NoWord g c =
    subst (IsSaid (seen_by g.K.Sink.told g.K.Sink.contents g.K.Sink.lent c.args.errors.now) (seen_by g.K.Sink.told g.K.Sink.contents g.K.Sink.lent c.tell_word.new.errors)) (ap line_of (sym c.in-NoWord.is)) c.tell_word.ensures
