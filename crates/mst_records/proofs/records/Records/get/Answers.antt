use Rattle.std.proofs.Common.{ap, sym, ◌∙◌}
use Rattle.std.specs.Map.{lookup}
use Rattle.std.specs.Option.{option_map}
use Rattle.mst_records.proofs.KeptLemmas.{row_at, number_at}
use Rattle.mst_records.proofs.records.Records.get.Goals as goal

pub returns-clause-row : goal.returns-clause-row
returns-clause-row g c =
    let test = g.K.PartialEq.eq c.args.key.now in
    ap (option_map _) (c.copied.ensures ∙ c.get.ensures.value) ∙ sym (row_at test c.self.inside.records.entries) ∙ ap (λ r. lookup test r.rows) c.self.view_is

pub returns-clause-number : goal.returns-clause-number
returns-clause-number g c =
    let test = g.K.PartialEq.eq c.args.key.now in
    ap (option_map _) (c.copied.ensures ∙ c.get.ensures.value) ∙ sym (number_at test c.self.inside.records.entries) ∙ ap (λ r. lookup test r.numbers) c.self.view_is
