use Rattle.std.proofs.Common.{refl, subst, [], ◌∷◌, ◌++◌}
use Rattle.std.proofs.lemmas.Result.{on_ok_weaker}
use Rattle.mst_edits.specs.Digest.{digest_row}
use Rattle.mst_report.proofs.planner.Planner.digest.Goals as goal

pub returns : goal.returns
returns g c first before grew =
    on_ok_weaker c.put_digest.result
    (λ grown. (digest_row c.args.self.now.contents.net ∷ [], refl, subst (λ n. g.R.Rows.grew first c.put_digest.new.out (before ++ digest_row n.net ∷ [])) c.network.ensures grown)) (c.put_digest.ensures first before grew)
