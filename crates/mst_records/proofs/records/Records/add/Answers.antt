use Rattle.std.proofs.Common.{ℕ, false, ap, ◌∙◌, cond, Some}
use Rattle.std.specs.Option.{option_map_or}
use Rattle.std.specs.Map.{lookup}
use Rattle.std.proofs.lemmas.Result.{IfOk-at_ok}
use Rattle.mst_records.specs.Kept.{numbers_of}
use Rattle.mst_records.specs.declared.records.Record.{Record}
use Rattle.mst_records.proofs.KeptLemmas.{rows_updated, numbers_updated, kept_updated, kept_numbered, fresh_others}
use Rattle.mst_records.proofs.records.Records.add.Goals as goal

pub invariant_of-self : goal.invariant_of-self
invariant_of-self g c =
    let r = c.insert_reserved-number in
    let eq = g.K.PartialEq.eq in
    let laws = g.met.K.Eq.laws in
    let new : Record g.row.R.Denot = record { number = r.result; row = c.args.row } in
    kept_updated eq c.self.inside.records.entries c.insert.new.self.entries c.args.key new (IfOk-at_ok _ c.unwrap.ensures c.insert.ensures.updates).0
    laws c.self.inside.keys r.new.self c.self.invariant c.insert.ensures.unique
    (ap (λ o. option_map_or (eq c.args.key) o false) r.ensures.updates.changed ∙ laws.refl c.args.key)
    (fresh_others c.self.inside.keys r.new.self r.result _ r.ensures.was_vacant r.ensures.updates)

pub returns-clause-rows : goal.returns-clause-rows
returns-clause-rows g c q =
    let eq = g.K.PartialEq.eq in
    let new : Record g.row.R.Denot = record { number = c.insert_reserved-number.result; row = c.args.row } in
    rows_updated eq c.self.inside.records.entries c.insert.new.self.entries c.args.key new (IfOk-at_ok _ c.unwrap.ensures c.insert.ensures.updates).0 q
    ∙ ap (λ r. cond (eq c.args.key q) (Some c.args.row) (lookup (eq q) r.rows)) c.self.view_is

pub returns-clause-numbers : goal.returns-clause-numbers
returns-clause-numbers g c q =
    let eq = g.K.PartialEq.eq in
    let new : Record g.row.R.Denot = record { number = c.insert_reserved-number.result; row = c.args.row } in
    numbers_updated eq c.self.inside.records.entries c.insert.new.self.entries c.args.key new (IfOk-at_ok _ c.unwrap.ensures c.insert.ensures.updates).0 q
    ∙ ap (λ (n : ℕ). cond (eq c.args.key q) (Some n) (lookup (eq q) (numbers_of c.self.inside.records.entries))) c.insert_reserved-number.ensures.key
    ∙ ap (λ r. cond (eq c.args.key q) (Some r.next) (lookup (eq q) r.numbers)) c.self.view_is

pub returns-clause-numbered : goal.returns-clause-numbered
returns-clause-numbered g c =
    let r = c.insert_reserved-number in
    let eq = g.K.PartialEq.eq in
    let laws = g.met.K.Eq.laws in
    let new : Record g.row.R.Denot = record { number = r.result; row = c.args.row } in
    kept_numbered eq laws c.insert.new.self.entries r.new.self _ _
    (kept_updated eq c.self.inside.records.entries c.insert.new.self.entries c.args.key new (IfOk-at_ok _ c.unwrap.ensures c.insert.ensures.updates).0
    laws c.self.inside.keys r.new.self c.self.invariant c.insert.ensures.unique
    (ap (λ o. option_map_or (eq c.args.key) o false) r.ensures.updates.changed ∙ laws.refl c.args.key)
    (fresh_others c.self.inside.keys r.new.self r.result _ r.ensures.was_vacant r.ensures.updates))
