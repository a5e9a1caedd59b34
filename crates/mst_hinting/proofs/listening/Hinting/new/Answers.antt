use Rattle.mst_io.specs.Devices.{seen_by}
use Rattle.mst_hinting.proofs.Steps.{stands_first}
use Rattle.mst_hinting.proofs.listening.Hinting.new.Goals as goal

pub returns-clause-begins : goal.returns-clause-begins
returns-clause-begins g c wanted of first =
    let source = seen_by g.S.Source.told g.S.Source.remaining g.S.Source.lent c.args.source.now in
    let errors = seen_by g.E.Sink.told g.E.Sink.contents g.E.Sink.lent c.args.errors.now in
    stands_first wanted of source errors c.args.telling.now first.state first.kept first.held first.text first.at_end
