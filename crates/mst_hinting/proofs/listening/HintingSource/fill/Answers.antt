use Rattle.std.proofs.Common.{◌≡◌, refl, rules, subst}
use Rattle.mst_io.specs.Devices.{called, seen_by}
use Rattle.mst_hinting.proofs.Steps.{stands_written, stands_heard, working_on, written_before}
use Rattle.mst_hinting.proofs.listening.HintingSource.fill.Goals as goal

pub returns-clause-heard : goal.returns-clause-heard
returns-clause-heard g c =
    let see = seen_by g.S.Source.told g.S.Source.remaining g.S.Source.lent in
    let look = seen_by g.E.Sink.told g.E.Sink.contents g.E.Sink.lent in
    let old = c.args.self.now in
    let before = look old.errors.now in
    let after = look c.write.new.errors in
    let told = subst (λ size. g.S.Source.told c.fill-answer.new.self ≡ called (g.S.Source.told old.source.now) c.fill-answer.result size) (search rules) c.fill-answer.ensures.told in
    record {
      source = refl;
      errors = refl;
      lent_source = c.fill-answer.ensures.lent;
      lent_errors = c.write.ensures.lent;
      before = written_before before after old.telling.now c.write.new.self c.write.ensures.wrote;
      goes_on = λ wanted of source errors read stands.
          stands_heard wanted of source errors (see old.source.now) (see c.fill-answer.new.self) after read c.fill-answer.new.buffer c.fill-answer.result c.write.new.self c.hear.new.self
          c.requires.working c.fill-answer.ensures.bytes told (working_on before after old.telling.now c.write.new.self c.write.ensures.wrote)
          (stands_written wanted of source errors (see old.source.now) before after read old.telling.now c.write.new.self stands c.write.ensures.wrote)
          c.hear.ensures;
    }
