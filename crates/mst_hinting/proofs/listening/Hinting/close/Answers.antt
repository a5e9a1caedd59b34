use Rattle.mst_io.specs.Devices.{seen_by}
use Rattle.mst_hinting.proofs.Hearing.{stands_now}
use Rattle.mst_hinting.proofs.listening.Hinting.close.Goals as goal

pub returns-clause-closes : goal.returns-clause-closes
returns-clause-closes g c wanted of source errors from begins heard =
    let see = seen_by g.S.Source.told g.S.Source.remaining g.S.Source.lent in
    let look = seen_by g.E.Sink.told g.E.Sink.contents g.E.Sink.lent in
    let stands = stands_now see look wanted of (see source) (look errors) from c.args.self.now heard begins in
    c.finish.ensures.finishes wanted of (see source) (see c.args.self.now.source.now) (look errors) stands.0 stands.1
