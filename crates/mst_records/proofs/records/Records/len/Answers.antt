use Rattle.std.proofs.Common.{sym, subst}
use Rattle.std.specs.List.{IsDistinct}
use Rattle.std.specs.Map.{keys_of}
use Rattle.mst_records.proofs.KeptLemmas.{keys-rows_of}
use Rattle.mst_records.proofs.records.Records.len.Goals as goal

pub returns-clause-distinct : goal.returns-clause-distinct
returns-clause-distinct g c =
    let eq = g.K.PartialEq.eq in
    subst (λ r. IsDistinct eq (keys_of r.rows)) c.self.view_is (subst (IsDistinct eq) (sym (keys-rows_of c.self.inside.records.entries)) c.self.invariant.unique)
