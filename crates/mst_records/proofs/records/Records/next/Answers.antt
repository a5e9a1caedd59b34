use Rattle.std.proofs.Common.{ap, ◌∙◌}
use Rattle.std.specs.Map.{lookup}
use Rattle.mst_records.proofs.KeptLemmas.{key_missing}
use Rattle.mst_records.proofs.records.Records.next.Goals as goal

pub returns-clause-fresh : goal.returns-clause-fresh
returns-clause-fresh g c q at =
    let a = c.self.inside in
    key_missing g.K.PartialEq.eq g.met.K.Eq.laws a.records.entries a.keys c.self.invariant q c.vacant_key.result
    (ap (λ r. lookup (g.K.PartialEq.eq q) r.numbers) c.self.view_is ∙ at) c.vacant_key.ensures.vacant
