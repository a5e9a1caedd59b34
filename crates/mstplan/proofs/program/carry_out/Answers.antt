use Rattle.std.proofs.Common.{◌≡◌, Result, Ok, Err, sym, subst, ◌∙◌}
use Rattle.mst_io.specs.Devices.{seen_by}
use Rattle.mstplan.specs.Endings.{said_of}
use Rattle.mstplan.specs.Program.{Serves}
use Rattle.mstplan.specs.Said.{IsSaid}
use Rattle.mst_command.specs.declared.words.Asked.{Asked}
use Rattle.mstplan.proofs.program.carry_out.Goals.{in-Ok, in-Err}
use Rattle.mstplan.proofs.program.carry_out.Goals as goal

not_both : {A B : Type 0} (r : Result A B) (x : A) (y : B) → r ≡ Ok x → r ≡ Err y → ⊥
not_both r x y ok err = cc

pub returns-in-Ok-served : goal.returns-in-Ok-served
returns-in-Ok-served g c =
    let look = seen_by g.K.Sink.told g.K.Sink.contents g.K.Sink.lent in
    let given = g.S.Sources.is_given c.args.sources.now in
    let file = g.S.Sources.is_file c.args.sources.now in
    let ran = c.in-Ok-served.ran in
    let ending = c.after_run-ending in
    let served : (words : Asked) × (c.args.asked ≡ Ok words)
    × Serves given file c.args.flags words (record { written = g.W.Write.contents c.args.output.writer; errors = look c.args.errors.now }) (record { written = g.W.Write.contents ran.writer.writer; errors = look c.match-asked.errors }) ran.ended ran.hints = elim c.match-asked.branch [
      | in-Ok w ↦ (
        w.in-Ok.asked,
        w.in-Ok.is,
        subst (λ k. Serves given file c.args.flags w.in-Ok.asked (record { written = g.W.Write.contents c.args.output.writer; errors = look c.args.errors.now }) (record { written = g.W.Write.contents ran.writer.writer; errors = look k }) ran.ended ran.hints) (sym w.errors-is)
            (rw (sym w.served-is ∙ c.in-Ok-served.is) at w.serve-served.ensures.ran),
      )
      | in-Err w ↦ absurd (not_both c.match-asked.served ran w.in-Err.stop c.in-Ok-served.is w.served-is)
    ] in
    record {
      words = served.0;
      answer = ran.ended;
      hints = ran.hints;
      hinted = look c.match-asked.errors;
      told = look c.tell.new.errors;
      are_asked = served.1;
      serves = served.2;
      ends = ending.ensures.status;
      says = subst (λ told. IsSaid (look c.match-asked.errors) (look c.tell.new.errors) (said_of told)) ending.ensures.told c.tell.ensures;
      says_of_hints = subst (λ told. IsSaid (look c.tell.new.errors) (look c.tell-in-Ok-served.new.errors) (said_of told)) ending.ensures.of_hints c.tell-in-Ok-served.ensures;
    }
