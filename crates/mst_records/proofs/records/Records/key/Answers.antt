use Rattle.std.proofs.Common.{ap, sym, ◌∙◌}
use Rattle.std.specs.Map.{lookup}
use Rattle.mst_records.proofs.KeptLemmas.{key_missing, record_missing, number_other}
use Rattle.mst_records.proofs.records.Records.key.Goals as goal

pub returns-in_err-key-clause-none : goal.returns-in_err-key-clause-none
returns-in_err-key-clause-none g c none key at =
    let a = c.self.inside in
    key_missing g.K.PartialEq.eq g.met.K.Eq.laws a.records.entries a.keys c.self.invariant key c.args.number
    (ap (λ r. lookup (g.K.PartialEq.eq key) r.numbers) c.self.view_is ∙ at) (sym c.in_err-key.ensures)

pub returns-in_err-record-clause-none : goal.returns-in_err-record-clause-none
returns-in_err-record-clause-none g c none key at =
    let a = c.self.inside in
    record_missing g.K.PartialEq.eq g.met.K.Eq.laws a.records.entries a.keys c.self.invariant key c.args.number
    (ap (λ r. lookup (g.K.PartialEq.eq key) r.numbers) c.self.view_is ∙ at) c.in_ok-key.field-0.now (sym c.in_ok-key.ensures)
    (ap (λ r. lookup (g.K.PartialEq.eq c.in_ok-key.field-0.now) r.numbers) c.self.view_is ∙ sym c.in_err-record.ensures.number)

pub returns-else-record-number-clause-none : goal.returns-else-record-number-clause-none
returns-else-record-number-clause-none g c none key at =
    let a = c.self.inside in
    number_other g.K.PartialEq.eq g.met.K.Eq.laws a.records.entries a.keys c.self.invariant key c.args.number
    (ap (λ r. lookup (g.K.PartialEq.eq key) r.numbers) c.self.view_is ∙ at) c.in_ok-key.field-0.now c.in_ok-record.record.number (sym c.in_ok-key.ensures)
    (ap (λ r. lookup (g.K.PartialEq.eq c.in_ok-key.field-0.now) r.numbers) c.self.view_is ∙ sym c.in_ok-record.ensures.number) c.if-record-number.false
