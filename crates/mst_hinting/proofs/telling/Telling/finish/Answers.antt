use Rattle.mst_io.specs.Devices.{seen_by}
use Rattle.mst_hinting.proofs.Steps.{finishes}
use Rattle.mst_hinting.proofs.telling.Telling.finish.Goals as goal

pub returns-clause-finishes : goal.returns-clause-finishes
returns-clause-finishes g c wanted of source source_now errors read stands =
    let look = seen_by g.E.Sink.told g.E.Sink.contents g.E.Sink.lent in
    finishes wanted of source source_now errors (look c.args.errors.now) (look c.write.new.errors) (look c.write-2.new.errors) read c.args.self.now c.write.new.self c.end.new.self c.write-2.new.self c.answer.result
    stands c.write.ensures.wrote c.end.ensures c.write-2.ensures.wrote c.answer.ensures
