use Rattle.std.proofs.Common.{[], ◌∷◌, ◌++◌, subst, append_assoc}
use Rattle.std.proofs.lemmas.Result.{on_ok_weaker}
use Rattle.mst_advise.specs.Told.{because_row, none_row}
use Rattle.mst_advise.proofs.advising.put_nothing.Goals as goal

pub returns : goal.returns
returns g c first rows grew =
    let why = because_row c.args.hindrance.now c.args.apart.now c.args.tried in
    on_ok_weaker c.put_none.result (λ now. subst (g.R.Rows.grew first c.put_none.new.out) (append_assoc rows (why ∷ []) (none_row ∷ [])) now)
    (c.put_none.ensures first (rows ++ why ∷ []) (c.in_ok-put_because.ensures first rows grew))
