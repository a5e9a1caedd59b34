use Rattle.std.proofs.Common.{◌≡◌, cond, Some, IsSome, sym, ap, ◌∙◌, refl, subst}
use Rattle.std.specs.Map.{lookup}
use Rattle.std.specs.Option.{option_copied_mut}
use Rattle.mst_records.specs.declared.records.Record.{Record}
use Rattle.mst_records.specs.Kept.{numbers_of}
use Rattle.mst_records.proofs.KeptLemmas.{some_lent, has_record, rows_updated, numbers-set_value, kept_updated, kept_numbered}
use Rattle.mst_records.proofs.records.Records.set.Goals as goal

pub unwrap-record-requires : goal.unwrap-record-requires
unwrap-record-requires g c =
    let test = g.K.PartialEq.eq c.args.key.now in
    some_lent c.get_mut.result (subst IsSome (sym c.get_mut.ensures.value)
    (has_record test c.self.inside.records.entries (subst (λ r. IsSome (lookup test r.rows)) (sym c.self.view_is) c.requires)))

pub invariant_of-self : goal.invariant_of-self
invariant_of-self g c =
    let eq = g.K.PartialEq.eq in
    let was = c.unwrap-record.result.now in
    let new : Record g.row.R.Denot = record { number = was.number; row = c.args.row } in
    let there : lookup (eq c.args.key.now) c.self.inside.records.entries ≡ Some was = sym c.get_mut.ensures.value ∙ ap option_copied_mut c.unwrap-record.ensures in
    let wrote = c.get_mut.follows.holds new in
    kept_updated eq c.self.inside.records.entries (c.get_mut.follows.lender new).entries c.args.key.now new (wrote.3 (subst IsSome (sym there) refl)).0
    g.met.K.Eq.laws c.self.inside.keys c.self.inside.keys c.self.invariant wrote.4
    (c.self.invariant.numbered c.args.key.now was there) (λ n k h. h)

pub returns-clause-rows : goal.returns-clause-rows
returns-clause-rows g c q =
    let eq = g.K.PartialEq.eq in
    let was = c.unwrap-record.result.now in
    let new : Record g.row.R.Denot = record { number = was.number; row = c.args.row } in
    let there : lookup (eq c.args.key.now) c.self.inside.records.entries ≡ Some was = sym c.get_mut.ensures.value ∙ ap option_copied_mut c.unwrap-record.ensures in
    let wrote = c.get_mut.follows.holds new in
    rows_updated eq c.self.inside.records.entries (c.get_mut.follows.lender new).entries c.args.key.now new (wrote.3 (subst IsSome (sym there) refl)).0 q
    ∙ ap (λ r. cond (eq c.args.key.now q) (Some c.args.row) (lookup (eq q) r.rows)) c.self.view_is

pub returns-clause-numbers : goal.returns-clause-numbers
returns-clause-numbers g c =
    let was = c.unwrap-record.result.now in
    let new : Record g.row.R.Denot = record { number = was.number; row = c.args.row } in
    let test = g.K.PartialEq.eq c.args.key.now in
    let there : lookup test c.self.inside.records.entries ≡ Some was = sym c.get_mut.ensures.value ∙ ap option_copied_mut c.unwrap-record.ensures in
    ap numbers_of (c.get_mut.follows.holds new).0 ∙ numbers-set_value test c.self.inside.records.entries was new there refl
    ∙ ap (λ r. r.numbers) c.self.view_is

pub returns-clause-numbered : goal.returns-clause-numbered
returns-clause-numbered g c =
    let eq = g.K.PartialEq.eq in
    let was = c.unwrap-record.result.now in
    let new : Record g.row.R.Denot = record { number = was.number; row = c.args.row } in
    let there : lookup (eq c.args.key.now) c.self.inside.records.entries ≡ Some was = sym c.get_mut.ensures.value ∙ ap option_copied_mut c.unwrap-record.ensures in
    let wrote = c.get_mut.follows.holds new in
    kept_numbered eq g.met.K.Eq.laws (c.get_mut.follows.lender new).entries c.self.inside.keys _ _
    (kept_updated eq c.self.inside.records.entries (c.get_mut.follows.lender new).entries c.args.key.now new (wrote.3 (subst IsSome (sym there) refl)).0
    g.met.K.Eq.laws c.self.inside.keys c.self.inside.keys c.self.invariant wrote.4
    (c.self.invariant.numbered c.args.key.now was there) (λ n k h. h))
