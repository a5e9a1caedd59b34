use Rattle.std.proofs.Common.{cond, Some, None, IsSome, sym, ap, ◌∙◌, subst}
use Rattle.std.specs.Map.{lookup}
use Rattle.std.specs.Option.{option_map}
use Rattle.mst_records.specs.declared.records.Record.{Record}
use Rattle.mst_records.proofs.KeptLemmas.{has_record, number_has_key, number_at, rows_removed, numbers_removed, kept_removed, kept_numbered}
use Rattle.mst_records.proofs.records.Records.remove.Goals as goal

pub unwrap-record-requires : goal.unwrap-record-requires
unwrap-record-requires g c =
    let test = g.K.PartialEq.eq c.args.key.now in
    subst IsSome (sym c.swap_remove.ensures.value)
    (has_record test c.self.inside.records.entries (subst (λ r. IsSome (lookup test r.rows)) (sym c.self.view_is) c.requires))

pub remove-requires : goal.remove-requires
remove-requires g c =
    number_has_key g.K.PartialEq.eq c.self.inside.records.entries c.self.inside.keys c.self.invariant c.args.key.now c.unwrap-record.result
    (sym c.swap_remove.ensures.value ∙ c.unwrap-record.ensures)

pub invariant_of-self : goal.invariant_of-self
invariant_of-self g c =
    kept_removed g.K.PartialEq.eq c.self.inside.records.entries c.swap_remove.new.self.entries c.args.key.now c.swap_remove.ensures.updates.0
    g.met.K.Eq.laws c.unwrap-record.result (sym c.swap_remove.ensures.value ∙ c.unwrap-record.ensures)
    c.self.inside.keys c.remove.new.self c.remove.ensures.updates c.self.invariant c.swap_remove.ensures.unique

pub returns-clause-rows : goal.returns-clause-rows
returns-clause-rows g c q =
    let eq = g.K.PartialEq.eq in
    rows_removed eq c.self.inside.records.entries c.swap_remove.new.self.entries c.args.key.now c.swap_remove.ensures.updates.0 q
    ∙ ap (λ r. cond (eq c.args.key.now q) None (lookup (eq q) r.rows)) c.self.view_is

pub returns-clause-numbers : goal.returns-clause-numbers
returns-clause-numbers g c q =
    let eq = g.K.PartialEq.eq in
    numbers_removed eq c.self.inside.records.entries c.swap_remove.new.self.entries c.args.key.now c.swap_remove.ensures.updates.0 q
    ∙ ap (λ r. cond (eq c.args.key.now q) None (lookup (eq q) r.numbers)) c.self.view_is

pub returns-clause-next : goal.returns-clause-next
returns-clause-next g c =
    let test = g.K.PartialEq.eq c.args.key.now in
    ap (λ r. lookup test r.numbers) (sym c.self.view_is) ∙ number_at test c.self.inside.records.entries
    ∙ ap (option_map (λ (r : Record g.row.R.Denot). r.number)) (sym c.swap_remove.ensures.value ∙ c.unwrap-record.ensures)
    ∙ ap Some (sym c.remove.ensures.key_is_next)

pub returns-clause-numbered : goal.returns-clause-numbered
returns-clause-numbered g c =
    let eq = g.K.PartialEq.eq in
    let laws = g.met.K.Eq.laws in
    kept_numbered eq laws c.swap_remove.new.self.entries c.remove.new.self _ _
    (kept_removed eq c.self.inside.records.entries c.swap_remove.new.self.entries c.args.key.now c.swap_remove.ensures.updates.0
    laws c.unwrap-record.result (sym c.swap_remove.ensures.value ∙ c.unwrap-record.ensures)
    c.self.inside.keys c.remove.new.self c.remove.ensures.updates c.self.invariant c.swap_remove.ensures.unique)
