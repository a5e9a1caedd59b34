use Rattle.std.proofs.Common.{ap, sym, ◌∙◌, is_some}
use Rattle.std.specs.Map.{lookup}
use Rattle.mst_records.proofs.KeptLemmas.{has_row}
use Rattle.mst_records.proofs.records.Records.contains.Goals as goal

pub returns : goal.returns
returns g c =
    let eq = g.K.PartialEq.eq in
    c.contains_key.ensures ∙ sym (has_row (eq c.args.key.now) c.self.inside.records.entries) ∙ ap (λ r. is_some (lookup (eq c.args.key.now) r.rows)) c.self.view_is
