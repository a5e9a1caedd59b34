use Rattle.std.proofs.Common.{◌≡◌, List, ℕ, nat_eq, sym, ◌∙◌}
use Rattle.std.specs.Cmp.Lexicographic.{pointwise, bytes_decides}
use Rattle.mst_compare.proofs.digests.Digested.is_of.Goals as goal

pub returns : goal.returns
returns c =
    let table : List ℕ = c.self.inside.table in
    let other = c.args.table.now in
    let tells : c.eq.result ≡ pointwise nat_eq table other = c.eq.ensures in
    let own : table ≡ c.args.self.now = c.self.view_is in
    let decides = bytes_decides table other in
    (λ t. sym own ∙ decides.0 (sym tells ∙ t), λ same. tells ∙ decides.1 (own ∙ same))
