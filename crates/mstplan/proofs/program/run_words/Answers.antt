use Rattle.std.proofs.Common.{length, map, drop, string_bytes, sym, ap, subst, ◌∙◌}
use Rattle.std.proofs.lemmas.List.{length-map}
use Rattle.mst_io.specs.Devices.{seen_by}
use Rattle.mstplan.specs.Invites.{invitation}
use Rattle.mstplan.specs.Program.{IsAskedBy}
use Rattle.mstplan.specs.Said.{IsSaid}
use Rattle.mstplan.proofs.program.run_words.Goals as goal

pub returns : goal.returns
returns g c =
    let flags = c.args.parted.now.flags in
    let items = c.args.parted.now.words.items in
    let same = c.as_slice-words.ensures.value in
    let asked = c.asked_for-asked.result in
    let look = seen_by g.K.Sink.told g.K.Sink.contents g.K.Sink.lent in
    record {
      asked = asked;
      is_asked = subst (λ words. IsAskedBy (g.S.Sources.is_there c.args.sources.now) flags (drop 1 (map string_bytes words)) asked) same
          (record { asked_for = c.asked_for-asked.ensures.asked; refused = c.asked_for-asked.ensures.refused; help = c.asked_for-asked.ensures.help; version = c.asked_for-asked.ensures.version; unknown = c.asked_for-asked.ensures.unknown });
      invited = look c.invite.new.errors;
      invites = subst (λ n. IsSaid (look c.args.errors.now) (look c.invite.new.errors) (invitation c.args.is_terminal n asked)) (ap length same ∙ sym (length-map items string_bytes)) c.invite.ensures;
      serves = c.carry_out.ensures;
    }
